-- Pending commands.
--
-- A command that the router has put into its queue is pending: its slot keeps the ticket. It is answered by its state
-- alone, until the reply is given to the ticket. Then it is done with this reply, for good.
use Rattle.std.specs.Prelude.{ℕ, ◌==◌, ◌&&◌, ◌||◌, not, Bool, false, is_some, if◌then◌else◌, Option, Some, None}
use Rattle.std.specs.Prelude.{List, [], ◌∷◌, map}
use Rattle.cip_ledger.specs.Doubt.{is_kept_reply}
use Rattle.cip_ledger.specs.Ledger.{SlotState, LedgerState}

abbrev pub has_ticket : ℕ → Option ℕ → Bool
has_ticket ticket None = false
has_ticket ticket (Some own) = own == ticket

-- the slot's command is pending with this ticket
abbrev pub is_pending_at : ℕ → SlotState → Bool
is_pending_at ticket slot = not (is_some slot.reply) && has_ticket ticket slot.ticket

-- a command with this ticket is pending
abbrev pub any_pending : ℕ → List SlotState → Bool
any_pending ticket [] = false
any_pending ticket (slot ∷ taken) = is_pending_at ticket slot || any_pending ticket taken

-- the slot once its command is done with this reply
abbrev pub done_with : List ℕ → SlotState → SlotState
done_with reply slot = record slot { reply = Some reply; ticket = None }

-- the slot once this is the reply to the command with this ticket
abbrev pub completed_slot : ℕ → List ℕ → SlotState → SlotState
completed_slot ticket reply slot = if is_pending_at ticket slot then done_with reply slot else slot

abbrev pub can_complete : LedgerState → ℕ → List ℕ → Bool
can_complete ledger ticket reply = is_kept_reply reply && any_pending ticket ledger.taken

abbrev pub with_completed : ℕ → List ℕ → LedgerState → LedgerState
with_completed ticket reply ledger = record ledger { taken = map (completed_slot ticket reply) ledger.taken }

-- the ledger once this is the reply to the command with this ticket, if a slot can keep it
abbrev pub completed : LedgerState → ℕ → List ℕ → LedgerState
completed ledger ticket reply = if is_kept_reply reply then with_completed ticket reply ledger else ledger
