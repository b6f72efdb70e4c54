-- So many slots, and those that are taken.
use Rattle.std.specs.Prelude.{◌≡◌, ℕ, ◌<◌, ◌≤◌, Option, Some, None, List, [], ◌∷◌, ◌++◌, length, slice_index_or, slice_set, vec_len}
use Rattle.std.specs.Global.{Vec}
use Rattle.std.specs.Vec.{vec_capacity}
use Rattle.cip_ledger.specs.Ledger.{SlotState, slot_of, with_slot, AreApart, AreSlots}

pub record SlotsState : Type 0 where
  pub limit : ℕ
  pub taken : List SlotState

abbrev pub slots_in : ℕ → List SlotState → SlotsState
slots_in limit taken = record { limit = limit; taken = taken }

-- there is memory for all slots, and no more of them are taken; each originator has one, with a reply that fits
pub record HasSlots (limit : ℕ) (taken : Vec SlotState) : Type 0 where
  pub few : limit ≤ 64
  pub memory : limit ≤ vec_capacity taken
  pub within : vec_len taken ≤ limit
  pub apart : AreApart taken.items
  pub slots : AreSlots taken.items

-- the slot at an index keeps this reply
pub record IsKeptAt (taken : List SlotState) (index : ℕ) (reply : List ℕ) : Type 0 where
  pub there : index < length taken
  pub is : (default : SlotState) → (slice_index_or taken index default).reply ≡ Some reply

-- an originator has no slot, and a new one goes behind all others
pub record IsMissing (taken : List SlotState) (originator : ℕ) : Type 0 where
  pub none : slot_of originator taken ≡ None
  pub put : (slot : SlotState) → slot.originator ≡ originator → with_slot slot taken ≡ taken ++ slot ∷ []

-- the slot of an originator is at this index, and is replaced there
pub record IsAt (taken : List SlotState) (originator index : ℕ) : Type 0 where
  pub there : index < length taken
  pub is : (default : SlotState) → slot_of originator taken ≡ Some (slice_index_or taken index default)
  pub put : (slot : SlotState) → slot.originator ≡ originator → with_slot slot taken ≡ slice_set taken index slot

-- where the slot of an originator is, if it has one
abbrev pub IsFound : List SlotState → ℕ → Option ℕ → Type 0
IsFound taken originator None = IsMissing taken originator
IsFound taken originator (Some index) = IsAt taken originator index
