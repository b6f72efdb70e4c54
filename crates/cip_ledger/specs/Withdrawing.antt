-- Commands that are withdrawn before a request is executed.
--
-- Withdraw and Forget of a pending command take it out of the queue of the router, if no owner was handed it: it was
-- withdrawn then, and is never executed. Withdraw of a number that was not used, while none is pending, uses it up. The
-- request is executed after that, so Withdraw answers what has become of the command.
use Rattle.std.specs.Prelude.{ℕ, ◌==◌, ◌&&◌, ◌||◌, Bool, true, nat_lt, nat_le, if◌then◌else◌, option_map, unwrap_or, is_some, Option, Some, None, List, [], length}
use Rattle.std.specs.Option.{option_and_then}
use Rattle.cip_bytes.specs.Numbers.{number_at}
use Rattle.cip_owner.specs.Queue.{QueueState}
use Rattle.cip_owner.specs.Replies.{Reply}
use Rattle.cip_message.specs.declared.ledger_services.TheConstants as services
use Rattle.cip_ledger.specs.declared.withdrawal.Withdrawal.{Withdrawal}
use Rattle.cip_ledger.specs.Device.{Device, finished_in}
use Rattle.cip_ledger.specs.Ledger.{SlotState, LedgerState, slot_of, is_pending, slot_withdrawn}
use Rattle.cip_ledger.specs.Requests.{LedgerRequest, ledger_request}
use Rattle.cip_ledger.specs.Turn.{with_taken}

-- ---- what a request withdraws

abbrev pub of_command : ℕ → ℕ → Option ℕ → Withdrawal
of_command originator number ticket = record { originator = originator; number = number; ticket = ticket }

-- a pending command, if it has this number
abbrev pub of_pending : ℕ → ℕ → SlotState → Option Withdrawal
of_pending originator number slot =
    if slot.number == number then Some (of_command originator number slot.ticket) else None

-- a number that is greater than that of a command that has ended
abbrev pub of_unused : ℕ → ℕ → SlotState → Option Withdrawal
of_unused originator number slot =
    if nat_lt slot.number number then Some (of_command originator number None) else None

-- Withdraw, by the originator's slot: without one a free slot is needed
abbrev pub withdraw_by_slot : LedgerState → ℕ → ℕ → Option SlotState → Option Withdrawal
withdraw_by_slot ledger originator number None =
    if nat_lt (length ledger.taken) ledger.slots then Some (of_command originator number None) else None
withdraw_by_slot ledger originator number (Some slot) =
    if is_pending slot then of_pending originator number slot else of_unused originator number slot

abbrev pub by_withdraw : LedgerState → List ℕ → Option Withdrawal
by_withdraw ledger bytes =
    if (length bytes == 20) && (number_at 0 8 bytes == ledger.life)
    then withdraw_by_slot ledger (number_at 8 8 bytes) (number_at 16 4 bytes) (slot_of (number_at 8 8 bytes) ledger.taken)
    else None

-- Forget, by the originator's slot
abbrev pub forget_by_slot : ℕ → ℕ → Option SlotState → Option Withdrawal
forget_by_slot originator number None = None
forget_by_slot originator number (Some slot) =
    if is_pending slot then of_pending originator number slot else None

abbrev pub by_forget : LedgerState → List ℕ → Option Withdrawal
by_forget ledger bytes =
    if length bytes == 12
    then forget_by_slot (number_at 0 8 bytes) (number_at 8 4 bytes) (slot_of (number_at 0 8 bytes) ledger.taken)
    else None

abbrev pub withdrawal_by : LedgerState → LedgerRequest → Option Withdrawal
withdrawal_by ledger request =
    if request.instance == 1 then
    (if request.service == services.WITHDRAW then by_withdraw ledger request.data
    else (if request.service == services.FORGET then by_forget ledger request.data else None))
    else None

abbrev pub withdrawal_of : Option LedgerState → List ℕ → Option Withdrawal
withdrawal_of None text = None
withdrawal_of (Some ledger) text = option_and_then (withdrawal_by ledger) (ledger_request text)

-- ---- the ledger and the queue after it

-- an originator has a slot, or one is free
abbrev pub has_place : LedgerState → ℕ → Bool
has_place ledger originator =
    is_some (slot_of originator ledger.taken) || nat_lt (length ledger.taken) ledger.slots

-- the ledger once an originator's last command is this number, which was withdrawn
abbrev pub with_withdrawn : ℕ → ℕ → LedgerState → LedgerState
with_withdrawn originator number ledger =
    if has_place ledger originator then with_taken (slot_withdrawn originator number) ledger else ledger

-- an originator's number can be withdrawn
abbrev pub can_withdraw : LedgerState → ℕ → ℕ → Bool
can_withdraw ledger originator number =
    is_some (withdraw_by_slot ledger originator number (slot_of originator ledger.taken))

-- the ledger once an originator's number is withdrawn, if it can be
abbrev pub withdrawn : ℕ → ℕ → LedgerState → LedgerState
withdrawn originator number ledger =
    if can_withdraw ledger originator number then with_withdrawn originator number ledger else ledger

-- ---- the device after it

-- the result of a withdrawn command in the queue: its object was not in the state for it
abbrev pub withdrawal_result : Reply
withdrawal_result = record { status = 0x0c; content = [] }

-- an owner was handed the command of a ticket, or there is no queue
abbrev pub was_handed : ℕ → Option QueueState → Bool
was_handed ticket None = true
was_handed ticket (Some queue) = nat_le ticket queue.handed

-- The device once the command of a ticket has left the queue: it is finished, with this result. None if it does not wait,
-- or if an owner was handed it.
abbrev pub left_device : Option ℕ → Device → Option Device
left_device None device = Some device
left_device (Some ticket) device =
    if was_handed ticket device.router.queue then None else finished_in ticket withdrawal_result device

abbrev pub with_withdrawal : Withdrawal → Device → Device
with_withdrawal w device =
    record device { ledger = option_map (with_withdrawn w.originator w.number) device.ledger }

abbrev pub withdrawn_from : Device → Withdrawal → Option Device
withdrawn_from device w = option_map (with_withdrawal w) (left_device w.ticket device)

-- The device once what a request withdraws is withdrawn. None if nothing is.
abbrev pub withdrawn_by : List ℕ → Device → Option Device
withdrawn_by text device = option_and_then (withdrawn_from device) (withdrawal_of device.ledger text)

-- The device as a request finds it.
abbrev pub found_by : List ℕ → Device → Device
found_by text device = unwrap_or (withdrawn_by text device) device
