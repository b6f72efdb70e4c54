-- The life of a ledger, and which command is sent to it.
use Rattle.std.specs.Prelude.{ℕ, ◌==◌, if◌then◌else◌, Option, Some, None, List, length, slice_get, unwrap_or}
use Rattle.std.specs.Prelude.{Result, Ok, Err}
use Rattle.std.specs.Int.{from_le_bytes, w64}
use Rattle.std.specs.Str.{bytes_eq}
use Rattle.cip_bytes.specs.Reading.{map_ok}
use Rattle.cip_message.specs.Reply.{Reply}
use Rattle.cip_message.specs.declared.reply.ReplyFault.{ReplyFault}
use Rattle.cip_commander.specs.declared.refusal.CommandRefused.{CommandRefused}
use Rattle.cip_commander.specs.CommanderRule.{CommanderState, commander_at, command_refusal, with_command}
use Rattle.enip_commands.specs.declared.once.LifeFault.{LifeFault}
use Rattle.enip_commands.specs.declared.once.LifeFault.TheVariants as faults
use Rattle.enip_commands.specs.declared.once.PendingChoice.{PendingChoice}
use Rattle.enip_commands.specs.declared.once.PendingChoice.TheVariants.{Same, Send, Abandon}
use Rattle.enip_commands.specs.declared.once.OncePlan.{OncePlan}
use Rattle.enip_commands.specs.declared.once.OncePlan.TheVariants.{Resend, Submit}
use Rattle.enip_commands.specs.declared.once_refusal.OnceRefusal.{OnceRefusal}
use Rattle.enip_commands.specs.declared.once_refusal.OnceRefusal.TheVariants as refusals

-- ---- the life of a ledger

-- a ULINT
abbrev pub life_in : List ℕ → Result ℕ LifeFault
life_in bytes = if length bytes == 8 then Ok (from_le_bytes w64 bytes) else Err faults.Malformed

-- the life in a reply to Get_Attribute_Single
abbrev pub life_of : Result Reply ReplyFault → Result ℕ LifeFault
life_of (Err fault) = Err faults.Malformed
life_of (Ok a) =
    if a.service == 0x8e
    then (if a.status == 0 then life_in a.data
    else Err (faults.NoLedger a.status (unwrap_or (slice_get a.additional 0) 0)))
    else Err faults.Malformed

-- ---- what is sent

-- the request as a new command in a life: what was pending before is given up
abbrev pub submitted_unless : CommanderState → List ℕ → Option CommandRefused → Result CommanderState OnceRefusal
submitted_unless commander request None = Ok (with_command commander request)
submitted_unless commander request (Some why) = Err (refusals.Command why)

abbrev pub in_life : CommanderState → ℕ → CommanderState
in_life commander life = commander_at life commander.originator commander.last_number None

abbrev pub submitted : CommanderState → List ℕ → ℕ → Result CommanderState OnceRefusal
submitted commander request life =
    submitted_unless (in_life commander life) request (command_refusal (in_life commander life) request)

-- the pending command once more: a command is sent in its own life only
abbrev pub resent : CommanderState → ℕ → Result CommanderState OnceRefusal
resent commander life = if commander.life == life then Ok commander else Err refusals.OtherLife

-- whether the pending command or the request is sent, or why neither is
abbrev pub plan_of : Option (List ℕ) → List ℕ → PendingChoice → Result OncePlan OnceRefusal
plan_of None request Same = Ok Submit
plan_of None request Send = Err refusals.NonePending
plan_of None request Abandon = Ok Submit
plan_of (Some pending) request Same = if bytes_eq pending request then Ok Resend else Err refusals.Differs
plan_of (Some pending) request Send = Ok Resend
plan_of (Some pending) request Abandon = Ok Submit

abbrev pub begun_by : CommanderState → List ℕ → ℕ → Result OncePlan OnceRefusal → Result CommanderState OnceRefusal
begun_by commander request life (Ok Resend) = resent commander life
begun_by commander request life (Ok Submit) = submitted commander request life
begun_by commander request life (Err why) = Err why

-- the commander whose pending command is sent to a device in this life, or why nothing is sent
abbrev pub begun : CommanderState → List ℕ → ℕ → PendingChoice → Result CommanderState OnceRefusal
begun commander request life choice = begun_by commander request life (plan_of commander.pending request choice)

-- the same as far as it does not depend on the device's life
abbrev pub checked : CommanderState → List ℕ → PendingChoice → Result (Unit {0}) OnceRefusal
checked commander request choice = map_ok (λ _. tt) (begun commander request commander.life choice)
