-- What `enip replay` does with an adapter and a script.
use Rattle.std.specs.Prelude.{◌≡◌, ℕ, zero, suc, List, [], ◌++◌, Option, Ok, Err, if◌then◌else◌}
use Rattle.std.specs.Option.{option_map_or}
use Rattle.std.specs.Io.KnownBytes.{Appends, Keeps}
use Rattle.cip_bytes.specs.declared.protocol.TheConstants.{ASSEMBLY}
use Rattle.cip_objects.specs.Contents.{Contents, value_at}
use Rattle.enip_adapter.specs.Calls.{AdapterState}
use Rattle.enip_bench.specs.CountingOpening.{ARefusal, opening_between}
use Rattle.enip_bench.specs.CountingWorld.{CountingWorld, counting_run, counting_step, counting_seen}
use Rattle.enip_bench.specs.Events.{Event}
use Rattle.enip_bench.specs.EventResults.{event_result}
use Rattle.enip_bench.specs.declared.bench.BenchFault.{BenchFault}
use Rattle.enip_bench.specs.declared.bench.BenchFault.TheVariants as benches
use Rattle.enip_client.specs.Client.{new_client}
use Rattle.enip_replay.specs.Outcome.{outcome, outcomes, counter_number, counter_line, assembly_line, final_line}
use Rattle.enip_replay.specs.Script.{Says, Say, IsRefusedAt}
use Rattle.enip_lines.specs.InputLines.{lines_of}
use Rattle.enip_lines.specs.Lines.{with_newline}
use Rattle.enip_faults.specs.Statuses.{IsOfDevices}
use Rattle.enip_client.specs.declared.wants.TheConstants.{USUAL_WANTS}
use Rattle.enip_faults.specs.declared.fault.ProgramFault.{ProgramFault}
use Rattle.enip_faults.specs.declared.fault.ProgramFault.TheVariants.{Line, Memory}
use Rattle.enip_faults.specs.declared.replay_failure.ReplayFailure.{ReplayFailure}
use Rattle.enip_faults.specs.declared.replay_failure.ReplayFailure.TheVariants as stops

-- Why no bench is made, as the program reports it.
abbrev pub stop_of : BenchFault → ReplayFailure
stop_of benches.Memory = stops.Program Memory
stop_of benches.Setup = stops.Setup

-- The state after the opening between this adapter and the program's client.
abbrev pub IsOpeningOf : AdapterState → CountingWorld → Type 0
IsOpeningOf adapter world = opening_between adapter (new_client USUAL_WANTS) ≡ Ok world

-- The adapter refuses this opening.
abbrev pub IsOpeningRefused : AdapterState → Type 0
IsOpeningRefused adapter = opening_between adapter (new_client USUAL_WANTS) ≡ Err ARefusal

-- Why no bench is made: the adapter refuses the opening, or memory failed.
abbrev pub IsUnopened : AdapterState → ReplayFailure → Type 0
IsUnopened adapter stops.Setup = IsOpeningRefused adapter
IsUnopened adapter (stops.Program fault) = IsOfDevices fault

-- An event was done at both ends, and its line was printed with its outcome.
pub record IsDone (event : Event) (old new : CountingWorld) (before after : Option (List ℕ)) : Type 0 where
  pub world : new ≡ counting_step old event
  pub printed : Appends before after (with_newline (outcome event (event_result old event)))

-- A line was run: its events were done, and this was printed for them.
pub record IsRun (prints : CountingWorld → List Event → List ℕ) (text : List ℕ) (old new : CountingWorld)
    (before after : Option (List ℕ)) : Type 0 where
  pub events : List Event
  pub said : Says text events
  pub done : new ≡ counting_run old events
  pub printed : Appends before after (prints old events)

-- The line of the assembly with this instance, if there is one.
abbrev pub assembly_printed : Contents → ℕ → List ℕ
assembly_printed contents instance =
    option_map_or (λ bytes. with_newline (assembly_line instance bytes)) (value_at contents ASSEMBLY instance 3) []

-- The lines of the assemblies up to this instance, sorted by instance.
unfoldable pub assemblies_printed : Contents → ℕ → List ℕ
assemblies_printed contents zero = []
assemblies_printed contents (suc instance) =
    assemblies_printed contents instance ++ assembly_printed contents (suc instance)

-- The line of the counter, if the device has it.
abbrev pub counter_printed : Contents → List ℕ
counter_printed contents =
    if contents.shapes.has_counter then
    with_newline (counter_line (counter_number contents 1) (counter_number contents 2) (counter_number contents 3))
    else []

-- The lines of the counter and of the assemblies.
abbrev pub objects_printed : Contents → List ℕ
objects_printed contents = counter_printed contents ++ assemblies_printed contents 65535

-- What is printed at the end: the objects and the state of the client.
abbrev pub ending : CountingWorld → List ℕ
ending world = objects_printed (counting_seen world).router.router.objects ++ with_newline (final_line (counting_seen world).stage)

-- From this world on, a script was played: each event that its lines say was done at both ends, in order, and printed
-- with its outcome. Then the ending was printed.
pub record IsPlayedFrom (opened : CountingWorld) (script : List ℕ) (before after : Option (List ℕ)) : Type 0 where
  pub events : List Event
  pub said : Say (lines_of script) events
  pub printed : Appends before after (outcomes opened events ++ ending (counting_run opened events))

-- From this world on, a script was played up to the line with this number, from 1, which is the first that is refused:
-- the events before it were done, and printed with their outcomes. Nothing else was printed.
pub record IsPlayedUpTo (opened : CountingWorld) (script : List ℕ) (before after : Option (List ℕ)) (number : ℕ)
    : Type 0 where
  pub events : List Event
  pub refused : IsRefusedAt number (lines_of script) events
  pub printed : Appends before after (outcomes opened events)

-- Why a script is not played to its end: a line is refused, and this is true of its number; or a device or memory
-- failed.
abbrev pub IsStopAt : (ℕ → Type 0) → ProgramFault → Type 0
IsStopAt refused (Line number why) = refused number
IsStopAt refused fault = IsOfDevices fault

-- The connection was opened, and this is true from the world after the opening on.
abbrev pub OnceOpened : AdapterState → (CountingWorld → Type 0) → Type 0
OnceOpened adapter P = (opened : CountingWorld) × IsOpeningOf adapter opened × P opened

-- A script was played at a bench of this adapter, to its end.
abbrev pub IsPlayed : AdapterState → List ℕ → Option (List ℕ) → Option (List ℕ) → Type 0
IsPlayed adapter script before after = OnceOpened adapter (λ opened. IsPlayedFrom opened script before after)

-- Why a replay ends early: the adapter refuses the opening, and nothing was printed; or a line is refused, and this is
-- true of its number; or a device or memory failed.
abbrev pub IsStop : AdapterState → (ℕ → Type 0) → Option (List ℕ) → Option (List ℕ) → ReplayFailure → Type 0
IsStop adapter refused before after stops.Setup = IsOpeningRefused adapter × Keeps before after
IsStop adapter refused before after (stops.Program fault) = IsStopAt refused fault

-- Why a replay of a script ends early.
abbrev pub IsStopOf : AdapterState → List ℕ → Option (List ℕ) → Option (List ℕ) → ReplayFailure → Type 0
IsStopOf adapter script before after =
    IsStop adapter (λ number. OnceOpened adapter (λ opened. IsPlayedUpTo opened script before after number))
    before after
