-- What holds of withdrawn commands over every list of calls.
use Rattle.std.specs.Prelude.{◌≡◌, ◌⊎◌, ℕ, ◌<◌, false, Some, None, List}
use Rattle.cip_ledger.specs.Laws.{UntilFreed}
use Rattle.cip_ledger.specs.Ledger.{LedgerState, SlotState}
use Rattle.cip_ledger.specs.PendingLaws.{IsPending}
use Rattle.cip_ledger.specs.Runs.{slot_in}
use Rattle.cip_ledger.specs.WithdrawLaws.{IsWithdrawn}
use Rattle.cip_owner.specs.Queue.{QueueState}
use Rattle.cip_owner.specs.QueueLaws.{HasTickets}
use Rattle.enip_adapter.specs.Calls.{AdapterState, Call, after_call}
use Rattle.enip_adapter.specs.Calls.Call.{Writes}
use Rattle.enip_adapter.specs.DeviceRuns.{journal_of_calls}
use Rattle.enip_adapter.specs.OwnWrites.{Withdraws, ticket_withdrawn}
use Rattle.enip_adapter.specs.OwnerLaws.{owned_in}
use Rattle.enip_adapter.specs.QueueLaws.{is_waiting}
use Rattle.enip_adapter.specs.Runs.{after_calls}

-- The device once a request has withdrawn this command, and after these calls.
abbrev pub after_withdrawal : AdapterState → List ℕ → List Call → AdapterState
after_withdrawal a request calls = after_calls (after_call a (Writes (Withdraws request))) calls

-- A request takes a command out of the queue only if its ticket is greater than the mark, so that no owner was handed it. It
-- does not wait any more, whatever calls are made.
abbrev pub never_handed_law : Type 0
never_handed_law = (a : AdapterState) (request : List ℕ) (calls : List Call) (queue : QueueState) (ticket : ℕ) →
    (owned_in a).queue ≡ Some queue → HasTickets queue →
    ticket_withdrawn request a.state.shared.objects ≡ Some ticket →
    (queue.handed < ticket) × (is_waiting ticket (owned_in (after_withdrawal a request calls)).queue ≡ false)

-- It is the pending command of an originator, whose slot then has its number, and says that it was withdrawn.
abbrev pub slot_says_law : Type 0
slot_says_law = (a : AdapterState) (ledger : LedgerState) (request : List ℕ) (ticket : ℕ) →
    a.state.shared.objects.ledger ≡ Some ledger → ticket_withdrawn request a.state.shared.objects ≡ Some ticket →
    (originator : ℕ) × (number : ℕ) × (after : LedgerState) × IsPending ledger originator number ticket
    × ((after_call a (Writes (Withdraws request))).state.shared.objects.ledger ≡ Some after)
    × IsWithdrawn after originator number

-- If the last command of an originator was withdrawn, neither it nor one with a smaller number is executed, whatever calls
-- are made, until its slot is freed.
abbrev pub never_executed_law : Type 0
never_executed_law = (a : AdapterState) (ledger : LedgerState) (originator number : ℕ) (calls : List Call) →
    a.state.shared.objects.ledger ≡ Some ledger → IsWithdrawn ledger originator number →
    UntilFreed originator (λ command. number < command.number) (journal_of_calls a calls)

-- A command of the ledger that is pending: whatever calls are made, its originator's slot still has it, or it does not wait
-- any more. So it does not wait once a later number of the originator is accepted.
abbrev pub no_earlier_waits_law : Type 0
no_earlier_waits_law = (a : AdapterState) (calls : List Call) (queue : QueueState) (originator ticket : ℕ)
    (slot : SlotState) →
    (owned_in a).queue ≡ Some queue → HasTickets queue → slot_in originator a.state.shared.objects.ledger ≡ Some slot →
    slot.reply ≡ None → slot.ticket ≡ Some ticket →
    (slot_in originator (after_calls a calls).state.shared.objects.ledger ≡ Some slot)
    ⊎ (is_waiting ticket (owned_in (after_calls a calls)).queue ≡ false)
