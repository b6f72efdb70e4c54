-- The slots of a ledger, as a list that is searched from the front.
use Rattle.std.proofs.Common.{◌≡◌, ◌≢◌, ℕ, zero, suc, ◌<◌, ◌≤◌, ◌==◌, Bool, true, false, if◌then◌else◌, not, unwrap_or, Some, None, List, [], ◌∷◌, ◌++◌, length, get_or, set, refl, ap, sym, ◌∙◌, arith}
use Rattle.std.proofs.lemmas.Bool.{eq-eqb, ne_eqb, eqb-true}
use Rattle.std.proofs.lemmas.List.{get_or_read}
use Rattle.cip_ledger.specs.Ledger.{SlotState, slot_of, with_slot, without_slot}

-- none of the first slots is this originator's
abbrev pub NoneBefore : ℕ → ℕ → List SlotState → Type 0
NoneBefore originator n taken =
    (i : ℕ) (d : SlotState) → i < n → i < length taken → (get_or taken i d).originator ≢ originator

pub slot_of-none : (taken : List SlotState) (originator : ℕ) → NoneBefore originator (length taken) taken →
    slot_of originator taken ≡ None
slot_of-none [] originator none = refl
slot_of-none (slot ∷ taken) originator none =
    rw (ne_eqb _ _ (none 0 slot (omega arith) (omega arith)))
    (slot_of-none taken originator (λ i d below within. none (suc i) d (omega arith) (omega arith)))

pub with_slot-none : (taken : List SlotState) (slot : SlotState) → NoneBefore slot.originator (length taken) taken →
    with_slot slot taken ≡ taken ++ slot ∷ []
with_slot-none [] slot none = refl
with_slot-none (first ∷ taken) slot none =
    rw (ne_eqb _ _ (none 0 first (omega arith) (omega arith)))
    (ap (λ more. first ∷ more)
    (with_slot-none taken slot (λ i d below within. none (suc i) d (omega arith) (omega arith))))

pub slot_of-at : (taken : List SlotState) (n originator : ℕ) (d : SlotState) → n < length taken → NoneBefore originator n taken →
    (get_or taken n d).originator ≡ originator → slot_of originator taken ≡ Some (get_or taken n d)
slot_of-at [] n originator d within none is = absurd (omega (arith, within))
slot_of-at (slot ∷ taken) zero originator d within none is = rw (eq-eqb _ _ is) refl
slot_of-at (slot ∷ taken) (suc n) originator d within none is =
    rw (ne_eqb _ _ (none 0 d (omega arith) (omega arith)))
    (slot_of-at taken n originator d (omega (arith, within)) (λ i e below inside. none (suc i) e (omega arith) (omega arith)) is)

pub with_slot-at : (taken : List SlotState) (n : ℕ) (slot d : SlotState) → n < length taken → NoneBefore slot.originator n taken →
    (get_or taken n d).originator ≡ slot.originator → with_slot slot taken ≡ set taken n slot
with_slot-at [] n slot d within none is = absurd (omega (arith, within))
with_slot-at (first ∷ taken) zero slot d within none is = rw (eq-eqb _ _ is) refl
with_slot-at (first ∷ taken) (suc n) slot d within none is =
    rw (ne_eqb _ _ (none 0 d (omega arith) (omega arith)))
    (ap (λ more. first ∷ more)
    (with_slot-at taken n slot d (omega (arith, within)) (λ i e below inside. none (suc i) e (omega arith) (omega arith)) is))

-- the same for a list that is another name of it, where an element was read
module _ (all taken : List SlotState) (n originator : ℕ) (read : SlotState) where
  pub found_at : taken ≡ all → n < length taken → NoneBefore originator n taken → read ≡ get_or taken n read → read.originator ≡ originator →
      (n < length all) × ((d : SlotState) → slot_of originator all ≡ Some (get_or all n d))
  found_at same within none is its =
      rw (← same) (within, λ d. slot_of-at taken n originator d within none (ap (λ e. e.originator) (sym (get_or_read taken n read within is d)) ∙ its))

  pub put_at : taken ≡ all → n < length taken → NoneBefore originator n taken → read ≡ get_or taken n read → read.originator ≡ originator →
      (slot : SlotState) → slot.originator ≡ originator → with_slot slot all ≡ set all n slot
  put_at same within none is its slot of =
      rw (← same) (with_slot-at taken n slot read within (rw of none) (ap (λ e. e.originator) (sym is) ∙ its ∙ sym of))

pub missing_in : (all taken : List SlotState) (n originator : ℕ) → taken ≡ all → length taken ≤ n → NoneBefore originator n taken →
    (slot_of originator all ≡ None) × ((slot : SlotState) → slot.originator ≡ originator → with_slot slot all ≡ all ++ slot ∷ [])
missing_in all taken n originator same ended none =
    let each : NoneBefore originator (length taken) taken = λ i d below within. none i d (omega (arith, below, ended)) within in
    rw (← same) (slot_of-none taken originator each, λ slot of. with_slot-none taken slot (rw of each))

-- a slot that is found is its originator's
pub slot_of-originator : (taken : List SlotState) (originator : ℕ) (slot : SlotState) → slot_of originator taken ≡ Some slot →
    slot.originator ≡ originator
slot_of-originator [] originator slot found = absurd (cc)
slot_of-originator (first ∷ taken) originator slot found =
    go (first.originator == originator) (λ e. slot_of-originator taken originator slot e) refl found
  where
    go : (is : Bool) → (slot_of originator taken ≡ Some slot → slot.originator ≡ originator) → (first.originator == originator) ≡ is →
        (if is then Some first else slot_of originator taken) ≡ Some slot → slot.originator ≡ originator
    go true later h e = ap (λ o. (unwrap_or o slot).originator) (sym e) ∙ eqb-true first.originator originator h
    go false later h e = later e

-- the slot of the originator that was given one
pub slot_of-with_slot : (taken : List SlotState) (slot : SlotState) → slot_of slot.originator (with_slot slot taken) ≡ Some slot
slot_of-with_slot [] slot = rw (eq-eqb slot.originator slot.originator refl) refl
slot_of-with_slot (first ∷ taken) slot =
    go (first.originator == slot.originator) (slot_of-with_slot taken slot) refl
  where
    go : (is : Bool) → slot_of slot.originator (with_slot slot taken) ≡ Some slot → (first.originator == slot.originator) ≡ is →
        slot_of slot.originator (if is then slot ∷ taken else first ∷ with_slot slot taken) ≡ Some slot
    go true later h = rw (eq-eqb slot.originator slot.originator refl) refl
    go false later h = rw h later

-- and the slots of others
pub slot_of-with_other : (taken : List SlotState) (slot : SlotState) (originator : ℕ) → slot.originator ≢ originator →
    slot_of originator (with_slot slot taken) ≡ slot_of originator taken
slot_of-with_other [] slot originator other = rw (ne_eqb slot.originator originator other) refl
slot_of-with_other (first ∷ taken) slot originator other =
    go (first.originator == slot.originator) (slot_of-with_other taken slot originator other) refl
  where
    go : (is : Bool) → slot_of originator (with_slot slot taken) ≡ slot_of originator taken →
        (first.originator == slot.originator) ≡ is →
        slot_of originator (if is then slot ∷ taken else first ∷ with_slot slot taken) ≡ slot_of originator (first ∷ taken)
    go true later h =
        let first_is = eqb-true first.originator slot.originator h in
        rw (ne_eqb slot.originator originator other, ne_eqb first.originator originator (λ e. other (sym first_is ∙ e))) refl
    go false later h = ap (λ found. if first.originator == originator then Some first else found) later

-- the originator whose slot was freed has none
pub slot_of-without_slot : (taken : List SlotState) (originator : ℕ) → slot_of originator (without_slot originator taken) ≡ None
slot_of-without_slot [] originator = refl
slot_of-without_slot (first ∷ taken) originator =
    go (first.originator == originator) (slot_of-without_slot taken originator) refl
  where
    go : (is : Bool) → slot_of originator (without_slot originator taken) ≡ None → (first.originator == originator) ≡ is →
        slot_of originator (if not is then first ∷ without_slot originator taken else without_slot originator taken) ≡ None
    go true later h = later
    go false later h = rw h later

-- and the slots of others
pub slot_of-without_other : (taken : List SlotState) (freed originator : ℕ) → freed ≢ originator →
    slot_of originator (without_slot freed taken) ≡ slot_of originator taken
slot_of-without_other [] freed originator other = refl
slot_of-without_other (first ∷ taken) freed originator other =
    go (first.originator == freed) (slot_of-without_other taken freed originator other) refl
  where
    go : (is : Bool) → slot_of originator (without_slot freed taken) ≡ slot_of originator taken → (first.originator == freed) ≡ is →
        slot_of originator (if not is then first ∷ without_slot freed taken else without_slot freed taken)
        ≡ slot_of originator (first ∷ taken)
    go true later h =
        let first_is = eqb-true first.originator freed h in
        rw (ne_eqb first.originator originator (λ e. other (sym first_is ∙ e))) later
    go false later h = ap (λ found. if first.originator == originator then Some first else found) later
