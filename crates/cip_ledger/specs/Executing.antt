-- The command that a request would execute, and the slot in which a command would be in doubt.
use Rattle.std.specs.Prelude.{◌≡◌, ℕ, ◌==◌, true, if◌then◌else◌, Option, Some, None, List, slice_get}
use Rattle.cip_ledger.specs.declared.doubt.DoubtfulCommand.{DoubtfulCommand}
use Rattle.cip_ledger.specs.declared.target.Standing.{Standing}
use Rattle.cip_ledger.specs.Doubt.{doubted, is_in_doubt}
use Rattle.cip_ledger.specs.Ledger.{SlotState, LedgerState}
use Rattle.cip_message.specs.LedgerCommand.{Command}
use Rattle.cip_ledger.specs.Runs.{Request}
use Rattle.cip_ledger.specs.Services.{Action, Replies, Executes, Queues, Frees}
use Rattle.cip_ledger.specs.Turn.{Fate, Passed, Served, fate}

-- who gave a command, and its number
abbrev pub name_of : Command → DoubtfulCommand
name_of command = record { originator = command.originator; number = command.number }

-- The new command of an action of the ledger.
abbrev pub new_command : Action → Option Command
new_command (Replies reply) = None
new_command (Executes command) = Some command
new_command (Queues command ticket) = Some command
new_command (Frees originator) = None

-- A command that the router puts into its queue is not among them: it is in the queue before it is answered.
abbrev pub executed_by : Action → Option DoubtfulCommand
executed_by (Replies reply) = None
executed_by (Executes command) = Some (name_of command)
executed_by (Queues command ticket) = None
executed_by (Frees originator) = None

abbrev pub executed_in : Fate → Option DoubtfulCommand
executed_in Passed = None
executed_in (Served service action) = executed_by action

-- the command that a request would execute now with a final reply, if it would execute one
abbrev pub command_of : {M : Type 0} → (M → List ℕ → Standing) → Option LedgerState → M → Request →
    Option DoubtfulCommand
command_of standing ledger router request = executed_in (fate standing ledger router request.0 request.1)

-- ---- a ledger in which a command is in doubt

-- the ledger with this command in doubt, or as it is
abbrev pub doubted_by : Option DoubtfulCommand → LedgerState → LedgerState
doubted_by None ledger = ledger
doubted_by (Some command) ledger = doubted ledger command.originator command.number

abbrev pub doubtful : DoubtfulCommand → SlotState
doubtful command =
    record { originator = command.originator; number = command.number; reply = None; ticket = None }

-- Where a command would be in doubt: in the slot at an index, and all others stay as they are. Without an index nothing
-- would change.
abbrev pub IsDoubtedAt : LedgerState → DoubtfulCommand → Option ℕ → Type 0
IsDoubtedAt ledger command None = doubted ledger command.originator command.number ≡ ledger
IsDoubtedAt ledger command (Some index) =
    (at : ℕ) → slice_get (doubted ledger command.originator command.number).taken at
    ≡ (if at == index then Some (doubtful command) else slice_get ledger.taken at)

-- a command that a request would execute can be put in doubt: it is in doubt then
abbrev pub doubtable_law : {M : Type 0} → (M → List ℕ → Standing) → Type 0
doubtable_law {M} standing = (ledger : LedgerState) (router : M) (request : Request) (command : DoubtfulCommand) →
    command_of standing (Some ledger) router request ≡ Some command →
    is_in_doubt (doubted_by (Some command) ledger) command.originator command.number ≡ true
