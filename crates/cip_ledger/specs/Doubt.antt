-- Commands in doubt.
--
-- A device that starts from a kept state may not know whether an originator's last command was executed. Such a command
-- is never executed, and is answered by its state alone, until the owner settles it: gives the reply that it should
-- have had. A command that is pending is not in doubt: it is in the queue of the router.
use Rattle.std.specs.Prelude.{ℕ, ◌==◌, ◌&&◌, nat_lt, nat_le, not, Bool, false, is_some, if◌then◌else◌, Option, Some, None}
use Rattle.std.specs.Prelude.{List, length, filter}
use Rattle.cip_ledger.specs.Ledger.{SlotState, LedgerState, slot_of, with_slot}
use Rattle.cip_ledger.specs.Services.{HEAD_SIZE, KEPT_LIMIT}
use Rattle.cip_ledger.specs.declared.doubt.DoubtfulCommand.{DoubtfulCommand}

abbrev pub is_doubtful : SlotState → Bool
is_doubtful slot = not (is_some slot.reply) && not (is_some slot.ticket)

-- the slots whose commands are in doubt, in their order
abbrev pub doubtful_in : LedgerState → List SlotState
doubtful_in ledger = filter is_doubtful ledger.taken

-- the ledger once this is an originator's last command, with this reply or in doubt
abbrev pub with_last : ℕ → ℕ → Option (List ℕ) → LedgerState → LedgerState
with_last originator number reply ledger = record ledger {
  taken = with_slot (record { originator = originator; number = number; reply = reply; ticket = None }) ledger.taken;
}

-- who gave a slot's command, and its number
abbrev pub command_name : SlotState → DoubtfulCommand
command_name slot = record { originator = slot.originator; number = slot.number }

-- ---- settling a command

abbrev pub is_in_doubt_at : ℕ → Option SlotState → Bool
is_in_doubt_at number None = false
is_in_doubt_at number (Some slot) = (slot.number == number) && is_doubtful slot

-- the originator's last command has this number, and is in doubt
abbrev pub is_in_doubt : LedgerState → ℕ → ℕ → Bool
is_in_doubt ledger originator number = is_in_doubt_at number (slot_of originator ledger.taken)

-- a reply to an embedded request has a head at least, and is no longer than one that a slot keeps
abbrev pub is_kept_reply : List ℕ → Bool
is_kept_reply reply = nat_le HEAD_SIZE (length reply) && nat_le (length reply) KEPT_LIMIT

abbrev pub can_settle : LedgerState → ℕ → ℕ → List ℕ → Bool
can_settle ledger originator number reply = is_kept_reply reply && is_in_doubt ledger originator number

-- the ledger once the owner said that this is the reply
abbrev pub settled : LedgerState → ℕ → ℕ → List ℕ → LedgerState
settled ledger originator number reply =
    if can_settle ledger originator number reply then with_last originator number (Some reply) ledger else ledger

-- ---- putting a command in doubt

abbrev pub can_doubt_at : LedgerState → ℕ → Option SlotState → Bool
can_doubt_at ledger number None = nat_lt (length ledger.taken) ledger.slots
can_doubt_at ledger number (Some slot) = nat_lt slot.number number

-- the originator's last command has a smaller number, or it has none and a slot is free
abbrev pub can_doubt : LedgerState → ℕ → ℕ → Bool
can_doubt ledger originator number = can_doubt_at ledger number (slot_of originator ledger.taken)

-- the ledger once the command with this number is the originator's last, and in doubt
abbrev pub doubted : LedgerState → ℕ → ℕ → LedgerState
doubted ledger originator number =
    if can_doubt ledger originator number then with_last originator number None ledger else ledger
