-- What `enip replay` prints.
use Rattle.std.specs.Prelude.{ℕ, nat_le, List, [], ◌∷◌, ◌++◌, length, codes, Option, Some, None, if◌then◌else◌}
use Rattle.std.specs.Fmt.{decimal}
use Rattle.hex.specs.Hex.{encode_lower}
use Rattle.cip_class3.specs.OriginatorRule.{refused_number}
use Rattle.cip_class3.specs.declared.originator.Stage.{Stage}
use Rattle.cip_class3.specs.declared.originator.Stage.TheVariants as stages
use Rattle.cip_bytes.specs.declared.protocol.TheConstants.{COUNTER}
use Rattle.cip_objects.specs.Contents.{Contents, bytes_at, udint_at}
use Rattle.enip_adapter.specs.OwnWrites.{OwnWrite, WritesData, WritesAttribute, SetsStatus, SetsState, Prepares, Settles, Finishes, Marks, Withdraws}
use Rattle.enip_bench.specs.Events.{Event, Submit, Resend, Reach, Back, Other, Write, Shut, GiveUp}
use Rattle.enip_bench.specs.CountingWorld.{CountingWorld, counting_step}
use Rattle.enip_bench.specs.EventResults.{event_result, EventResult, Sends, Refuses, Resends, Reaches, Accepts, Ignores}
use Rattle.enip_bench.specs.EventResults.{Impossible, Done}
use Rattle.enip_lines.specs.Lines.{with_newline}

-- A reply of the owner is printed with its general status.
abbrev pub write_words : OwnWrite → List ℕ
write_words (WritesData instance offset bytes) = codes "write"
write_words (WritesAttribute class instance attribute offset bytes) = codes "write"
write_words (SetsStatus status) = codes "write"
write_words (SetsState state) = codes "write"
write_words (Settles originator number reply) = codes "write"
write_words (Finishes ticket reply) = codes "write"
write_words (Marks ticket) = codes "write"
write_words (Withdraws request) = codes "write"
write_words (Prepares None) = codes "write"
write_words (Prepares (Some reply)) = codes "owner " ++ decimal reply.status

-- The line of an event, without the digits of a request or of a reply.
abbrev pub words : Event → List ℕ
words (Submit request) = codes "submit"
words Resend = codes "resend"
words (Reach position) = codes "reach " ++ decimal position
words (Back position) = codes "back " ++ decimal position
words (Other request) = codes "other"
words (Write write) = write_words write
words Shut = codes "shut"
words GiveUp = codes "giveup"

-- The outcome of an event that is simply done.
abbrev pub done_text : Event → List ℕ
done_text (Other request) = codes " done"
done_text event = []

-- A word and a position, or `none`.
abbrev pub position_words : List ℕ → Option ℕ → List ℕ
position_words word None = codes " none"
position_words word (Some position) = word ++ decimal position

-- The outcome of an event, as it is printed after its line.
abbrev pub step_text : Event → EventResult → List ℕ
step_text event (Sends number position) = codes " " ++ decimal number ++ codes " sent " ++ decimal position
step_text event (Refuses why) = codes " refused " ++ decimal (refused_number why)
step_text event (Resends position) = position_words (codes " ") position
step_text event (Reaches position) = position_words (codes " back ") position
step_text event (Accepts reply) = codes " accepted " ++ encode_lower reply
step_text event Ignores = codes " ignored"
step_text event Impossible = codes " impossible"
step_text event Done = done_text event

-- The line of an event, with its outcome.
abbrev pub outcome : Event → EventResult → List ℕ
outcome event event_result = words event ++ step_text event event_result

-- The lines of events that are done one after the other, from this world on, each with its outcome.
abbrev pub outcomes : CountingWorld → List Event → List ℕ
outcomes world [] = []
outcomes world (event ∷ events) =
    with_newline (outcome event (event_result world event)) ++ outcomes (counting_step world event) events

-- An attribute of the counter, or 0 if it has fewer than four bytes.
abbrev pub counter_number : Contents → ℕ → ℕ
counter_number contents attribute =
    if nat_le 4 (length (bytes_at contents COUNTER 1 attribute)) then udint_at contents COUNTER 1 attribute else 0

-- The line of the counter.
abbrev pub counter_line : ℕ → ℕ → ℕ → List ℕ
counter_line value limit additions =
    codes "counter " ++ decimal value ++ codes " " ++ decimal limit ++ codes " " ++ decimal additions

-- The line of an assembly with these data.
abbrev pub assembly_line : ℕ → List ℕ → List ℕ
assembly_line instance bytes = codes "assembly " ++ decimal instance ++ codes " " ++ encode_lower bytes

-- The line with the state of the client.
abbrev pub final_line : Stage → List ℕ
final_line stages.Idle = codes "client idle"
final_line stages.Waiting = codes "client waiting"
final_line stages.GivenUp = codes "client given up"
