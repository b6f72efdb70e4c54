-- The slot of one originator, filled in: in the numbered world nothing is kept in it.
use Rattle.std.proofs.Common.{◌≡◌, ◌≢◌, ℕ, suc, ◌==◌, Bool, true, false, not, if◌then◌else◌, Some, None, List, [], ◌∷◌, length, refl, ap, sym, ◌∙◌}
use Rattle.std.proofs.lemmas.Bool.{eq-eqb, ne_eqb, eqb-true}
use Rattle.cip_ledger.specs.Ledger.{SlotState, slot_of, with_slot, without_slot}
use Rattle.enip_reconnect.specs.NumberedWorld.{blank_slot}

abbrev pub own_slot : ℕ → ℕ → List ℕ → SlotState
own_slot originator number reply =
    record { originator = originator; number = number; reply = Some reply; ticket = None }

-- the slots, with this one in place of the first of its originator
abbrev pub fill : SlotState → List SlotState → List SlotState
fill slot [] = []
fill slot (first ∷ taken) = if first.originator == slot.originator then slot ∷ taken else first ∷ fill slot taken

pub length-fill : (slot : SlotState) (taken : List SlotState) → length (fill slot taken) ≡ length taken
length-fill slot [] = refl
length-fill slot (first ∷ taken) = go (first.originator == slot.originator) (length-fill slot taken)
  where
    go : (is : Bool) → length (fill slot taken) ≡ length taken →
        length (if is then slot ∷ taken else first ∷ fill slot taken) ≡ length (first ∷ taken)
    go true later = refl
    go false later = ap (λ n. suc n) later

pub slot_of-fill_other : (slot : SlotState) (taken : List SlotState) (other : ℕ) → other ≢ slot.originator →
    slot_of other (fill slot taken) ≡ slot_of other taken
slot_of-fill_other slot [] other apart = refl
slot_of-fill_other slot (first ∷ taken) other apart =
    go (first.originator == slot.originator) (slot_of-fill_other slot taken other apart) refl
  where
    go : (is : Bool) → slot_of other (fill slot taken) ≡ slot_of other taken → (first.originator == slot.originator) ≡ is →
        slot_of other (if is then slot ∷ taken else first ∷ fill slot taken) ≡ slot_of other (first ∷ taken)
    go true later h =
        let first_is = eqb-true first.originator slot.originator h in
        rw (ne_eqb slot.originator other (λ e. apart (sym e)), ne_eqb first.originator other (λ e. apart (sym e ∙ first_is))) refl
    go false later h = ap (λ found. if first.originator == other then Some first else found) later

pub slot_of-fill : (slot was : SlotState) (taken : List SlotState) → slot_of slot.originator taken ≡ Some was →
    slot_of slot.originator (fill slot taken) ≡ Some slot
slot_of-fill slot was [] found = absurd (cc)
slot_of-fill slot was (first ∷ taken) found =
    go (first.originator == slot.originator) (slot_of-fill slot was taken) refl found
  where
    go : (is : Bool) → (slot_of slot.originator taken ≡ Some was → slot_of slot.originator (fill slot taken) ≡ Some slot) →
        (first.originator == slot.originator) ≡ is → (if is then Some first else slot_of slot.originator taken) ≡ Some was →
        slot_of slot.originator (if is then slot ∷ taken else first ∷ fill slot taken) ≡ Some slot
    go true later h e = rw (eq-eqb slot.originator slot.originator refl) refl
    go false later h e = rw h (later e)

pub with_slot-fill_other : (slot other : SlotState) (taken : List SlotState) → other.originator ≢ slot.originator →
    with_slot other (fill slot taken) ≡ fill slot (with_slot other taken)
with_slot-fill_other slot other [] apart = rw (ne_eqb other.originator slot.originator apart) refl
with_slot-fill_other slot other (first ∷ taken) apart =
    go (first.originator == slot.originator) (first.originator == other.originator)
    (with_slot-fill_other slot other taken apart) refl refl
  where
    go : (own is : Bool) → with_slot other (fill slot taken) ≡ fill slot (with_slot other taken) →
        (first.originator == slot.originator) ≡ own → (first.originator == other.originator) ≡ is →
        with_slot other (if own then slot ∷ taken else first ∷ fill slot taken)
        ≡ fill slot (if is then other ∷ taken else first ∷ with_slot other taken)
    go true true later h k =
        absurd (apart (sym (eqb-true first.originator other.originator k) ∙ eqb-true first.originator slot.originator h))
    go true false later h k = rw (ne_eqb slot.originator other.originator (λ e. apart (sym e)), h) refl
    go false true later h k = rw (k, ne_eqb other.originator slot.originator apart) refl
    go false false later h k = rw (k, h) (ap (λ more. first ∷ more) later)

pub without_slot-fill_other : (slot : SlotState) (freed : ℕ) (taken : List SlotState) → freed ≢ slot.originator →
    without_slot freed (fill slot taken) ≡ fill slot (without_slot freed taken)
without_slot-fill_other slot freed [] apart = refl
without_slot-fill_other slot freed (first ∷ taken) apart =
    go (first.originator == slot.originator) (first.originator == freed)
    (without_slot-fill_other slot freed taken apart) refl refl
  where
    go : (own is : Bool) → without_slot freed (fill slot taken) ≡ fill slot (without_slot freed taken) →
        (first.originator == slot.originator) ≡ own → (first.originator == freed) ≡ is →
        without_slot freed (if own then slot ∷ taken else first ∷ fill slot taken)
        ≡ fill slot (if not is then first ∷ without_slot freed taken else without_slot freed taken)
    go true true later h k = absurd (apart (sym (eqb-true first.originator freed k) ∙ eqb-true first.originator slot.originator h))
    go true false later h k = rw (ne_eqb slot.originator freed (λ e. apart (sym e)), h) refl
    go false true later h k = rw k later
    go false false later h k = rw (k, h) (ap (λ more. first ∷ more) later)

-- a slot that is put is the filled blank one
pub with_slot-blank : (originator number : ℕ) (reply : List ℕ) (taken : List SlotState) →
    with_slot (own_slot originator number reply) taken
    ≡ fill (own_slot originator number reply) (with_slot (blank_slot originator) taken)
with_slot-blank originator number reply [] = rw (eq-eqb originator originator refl) refl
with_slot-blank originator number reply (first ∷ taken) =
    go (first.originator == originator) (with_slot-blank originator number reply taken) refl
  where
    go : (is : Bool) →
        with_slot (own_slot originator number reply) taken
        ≡ fill (own_slot originator number reply) (with_slot (blank_slot originator) taken) →
        (first.originator == originator) ≡ is →
        (if is then own_slot originator number reply ∷ taken else first ∷ with_slot (own_slot originator number reply) taken)
        ≡ fill (own_slot originator number reply) (if is then blank_slot originator ∷ taken else first ∷ with_slot (blank_slot originator) taken)
    go true later h = rw (eq-eqb originator originator refl) refl
    go false later h = rw h (ap (λ more. first ∷ more) later)

pub with_slot-filled : (originator number old : ℕ) (reply kept : List ℕ) (taken : List SlotState) →
    with_slot (own_slot originator number reply) (fill (own_slot originator old kept) taken)
    ≡ fill (own_slot originator number reply) (with_slot (blank_slot originator) taken)
with_slot-filled originator number old reply kept [] = rw (eq-eqb originator originator refl) refl
with_slot-filled originator number old reply kept (first ∷ taken) =
    go (first.originator == originator) (with_slot-filled originator number old reply kept taken) refl
  where
    go : (is : Bool) →
        with_slot (own_slot originator number reply) (fill (own_slot originator old kept) taken)
        ≡ fill (own_slot originator number reply) (with_slot (blank_slot originator) taken) →
        (first.originator == originator) ≡ is →
        with_slot (own_slot originator number reply) (if is then own_slot originator old kept ∷ taken else first ∷ fill (own_slot originator old kept) taken)
        ≡ fill (own_slot originator number reply) (if is then blank_slot originator ∷ taken else first ∷ with_slot (blank_slot originator) taken)
    go true later h = rw (eq-eqb originator originator refl) refl
    go false later h = rw h (ap (λ more. first ∷ more) later)
