-- What a contract sees of a slot.
use Rattle.std.specs.Prelude.{Bool, true, false, Option, Some, None, List, ℕ}
use Rattle.cip_ledger.specs.Ledger.{SlotState}
use Rattle.cip_ledger.specs.declared.slot.Slot.TheInside.{Inside}

-- nothing is kept of a command that is not done
abbrev pub kept_in : Bool → List ℕ → Option (List ℕ)
kept_in true reply = Some reply
kept_in false reply = None

abbrev pub slot_in : Inside → SlotState
slot_in slot = record {
  originator = slot.originator;
  number = slot.number;
  reply = kept_in slot.is_done slot.reply.items;
  ticket = slot.ticket;
}
