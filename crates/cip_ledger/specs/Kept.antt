-- What is kept of a ledger over a restart, and a ledger that starts from it.
use Rattle.std.specs.Prelude.{◌≡◌, ℕ, ◌≤◌, ◌<◌, ◌^◌, nat_lt, nat_le, not, Bool, ◌&&◌, is_some, if◌then◌else◌, Option, Some, None}
use Rattle.std.specs.Prelude.{unwrap_or, List, [], ◌∷◌, ◌++◌, length}
use Rattle.std.specs.Option.{option_copied}
use Rattle.cip_ledger.specs.declared.ledger.KeptCommand.{KeptCommand}
use Rattle.cip_ledger.specs.Ledger.{SlotState, LedgerState, slot_of, kept_bytes, are_apt, empty_ledger, AreApart}
use Rattle.cip_ledger.specs.Ledger.{AreSlots}
use Rattle.cip_ledger.specs.Services.{KEPT_LIMIT}

abbrev pub kept_in : KeptCommand → SlotState
kept_in kept = record {
  originator = kept.originator;
  number = kept.number;
  reply = option_copied kept.reply;
  ticket = kept.ticket;
}

-- the ledger in another life of its device
abbrev pub with_life : ℕ → LedgerState → LedgerState
with_life life ledger = record ledger { life = life }

-- a last command can be put back: a slot is free, its originator has none, its reply is not too long, and with a reply
-- and a ticket it is one that was withdrawn
abbrev pub can_restore : SlotState → LedgerState → Bool
can_restore slot ledger =
    nat_lt (length ledger.taken) ledger.slots && not (is_some (slot_of slot.originator ledger.taken))
    && nat_le (length (kept_bytes slot)) KEPT_LIMIT && are_apt slot.reply slot.ticket

-- the ledger once this last command has a free slot, if it can be put back
abbrev pub restored : SlotState → LedgerState → Option LedgerState
restored slot ledger =
    if can_restore slot ledger then Some (record ledger { taken = ledger.taken ++ slot ∷ [] }) else None

-- the ledger once these were put back, one after another
abbrev pub restored_all : List SlotState → LedgerState → LedgerState
restored_all [] ledger = ledger
restored_all (slot ∷ slots) ledger = restored_all slots (unwrap_or (restored slot ledger) ledger)

-- What holds of every ledger: its life has 64 bits, it has at most 64 slots, and those that are taken have
-- different originators.
pub record IsLedger (ledger : LedgerState) : Type 0 where
  pub life : ledger.life < 2 ^ 64
  pub few : ledger.slots ≤ 64
  pub within : length ledger.taken ≤ ledger.slots
  pub apart : AreApart ledger.taken
  pub sized : AreSlots ledger.taken

-- A ledger with as many slots that starts from what is kept of a ledger is that ledger.
abbrev pub restored_law : Type 0
restored_law =
    (ledger : LedgerState) (life : ℕ) → IsLedger ledger →
    restored_all ledger.taken (with_life ledger.life (empty_ledger ledger.slots life)) ≡ ledger
