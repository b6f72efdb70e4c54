-- The command ledger's state: for each originator the greatest number that was executed or is in doubt, and its reply.
use Rattle.std.specs.Prelude.{◌≡◌, ℕ, ◌≤◌, ◌<◌, ◌^◌, ◌==◌, ◌&&◌, Bool, true, is_some, if◌then◌else◌, Option, Some, None}
use Rattle.std.specs.Prelude.{List, [], ◌∷◌, find, filter, not, length, unwrap_or}

-- An originator's slot: the last of its commands, and the reply to it. Without a reply the command is pending if it has
-- a ticket: it is in the queue of the router. Else it is in doubt: the device does not know whether it was executed. With
-- both it was withdrawn: it is never executed.
pub record SlotState : Type 0 where
  pub originator : ℕ
  pub number : ℕ
  pub reply : Option (List ℕ)
  pub ticket : Option ℕ

-- how many slots there are, the number of the device's life, and the slots that are taken, one for each originator
pub record LedgerState : Type 0 where
  pub slots : ℕ
  pub life : ℕ
  pub taken : List SlotState

-- a ledger as a device's life begins: all slots are free
abbrev pub empty_ledger : ℕ → ℕ → LedgerState
empty_ledger slots life = record { slots = slots; life = life; taken = [] }

-- the slot of an originator
abbrev pub slot_of : ℕ → List SlotState → Option SlotState
slot_of originator taken = find (λ slot. slot.originator == originator) taken

-- each originator has one slot at most
abbrev pub AreApart : List SlotState → Type 0
AreApart [] = Unit {0}
AreApart (slot ∷ taken) = (slot_of slot.originator taken ≡ None) × AreApart taken

-- the command is pending: it has no reply yet, and its ticket
abbrev pub is_pending : SlotState → Bool
is_pending slot = not (is_some slot.reply) && is_some slot.ticket

-- the kept bytes: nothing is kept of the reply to a command that is pending or in doubt
abbrev pub kept_bytes : SlotState → List ℕ
kept_bytes slot = unwrap_or slot.reply []

-- the command was withdrawn
abbrev pub is_withdrawn : SlotState → Bool
is_withdrawn slot = is_some slot.reply && is_some slot.ticket

-- the slot of a command that was withdrawn: its reply is empty, and its ticket is none of a queue
abbrev pub slot_withdrawn : ℕ → ℕ → SlotState
slot_withdrawn originator number =
    record { originator = originator; number = number; reply = Some []; ticket = Some 0 }

-- a command that is done has no ticket, and one that was withdrawn has this reply and this ticket
abbrev pub are_apt : Option (List ℕ) → Option ℕ → Bool
are_apt (Some reply) (Some ticket) = (length reply == 0) && (ticket == 0)
are_apt (Some reply) None = true
are_apt None ticket = true

-- the originator has 64 bits, the number and the ticket 32, and the reply at most 480 bytes
pub record IsSlot (slot : SlotState) : Type 0 where
  pub originator : slot.originator < 2 ^ 64
  pub number : slot.number < 2 ^ 32
  pub short : length (kept_bytes slot) ≤ 480
  pub ticket : unwrap_or slot.ticket 0 < 2 ^ 32
  pub one : are_apt slot.reply slot.ticket ≡ true

abbrev pub AreSlots : List SlotState → Type 0
AreSlots [] = Unit {0}
AreSlots (slot ∷ taken) = IsSlot slot × AreSlots taken

-- the slots once this one is its originator's: in place of the one that it had, or behind all others
abbrev pub with_slot : SlotState → List SlotState → List SlotState
with_slot slot [] = slot ∷ []
with_slot slot (first ∷ taken) =
    if first.originator == slot.originator then slot ∷ taken else first ∷ with_slot slot taken

-- the slots once an originator has none
abbrev pub without_slot : ℕ → List SlotState → List SlotState
without_slot originator taken = filter (λ slot. not (slot.originator == originator)) taken
