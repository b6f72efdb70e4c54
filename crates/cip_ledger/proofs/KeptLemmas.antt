-- What is kept of a ledger is that ledger again.
use Rattle.std.proofs.Common.{◌≡◌, ℕ, ◌<◌, ◌≤◌, ◌==◌, Bool, true, false, if◌then◌else◌, not, ◌&&◌, nat_lt, nat_le, is_some, unwrap_or, Option, Some, None, List, [], ◌∷◌, ◌++◌, length, append_assoc, refl, ap, sym, ◌∙◌, arith}
use Rattle.std.proofs.lemmas.Bool.{eqb-true, eqb-false, eq-eqb}
use Rattle.std.proofs.lemmas.Bool.Decides.{nat_tests}
use Rattle.std.proofs.lemmas.List.{length-append, append-nil}
use Rattle.cip_ledger.specs.Kept.{restored, restored_all, IsLedger, restored_law}
use Rattle.cip_ledger.specs.Slots.{IsFound, IsMissing}
use Rattle.cip_ledger.specs.Ledger.{SlotState, LedgerState, slot_of, kept_bytes, are_apt, with_slot, without_slot, AreApart, IsSlot, AreSlots}
use Rattle.cip_ledger.proofs.SlotLemmas.{slot_of-with_other, slot_of-without_other}

-- slots stay apart and short
pub apart-with_slot : (taken : List SlotState) (slot : SlotState) → AreApart taken → AreApart (with_slot slot taken)
apart-with_slot [] slot h = (refl, tt)
apart-with_slot (first ∷ taken) slot h =
    go (first.originator == slot.originator) refl (apart-with_slot taken slot h.1)
  where
    go : (is : Bool) → (first.originator == slot.originator) ≡ is → AreApart (with_slot slot taken) → AreApart (if is then slot ∷ taken else first ∷ with_slot slot taken)
    go true e later = (ap (λ o. slot_of o taken) (sym (eqb-true first.originator slot.originator e)) ∙ h.0, h.1)
    go false e later =
        (slot_of-with_other taken slot first.originator (λ same. eqb-false first.originator slot.originator e (sym same)) ∙ h.0, later)

pub apart-without_slot : (taken : List SlotState) (freed : ℕ) → AreApart taken → AreApart (without_slot freed taken)
apart-without_slot [] freed h = tt
apart-without_slot (first ∷ taken) freed h =
    go (first.originator == freed) refl (apart-without_slot taken freed h.1)
  where
    go : (is : Bool) → (first.originator == freed) ≡ is → AreApart (without_slot freed taken) → AreApart (if not is then first ∷ without_slot freed taken else without_slot freed taken)
    go true e later = later
    go false e later =
        (slot_of-without_other taken freed first.originator (λ same. eqb-false first.originator freed e (sym same)) ∙ h.0, later)

pub slots-with_slot : (taken : List SlotState) (slot : SlotState) → IsSlot slot → AreSlots taken → AreSlots (with_slot slot taken)
slots-with_slot [] slot fits h = (fits, tt)
slots-with_slot (first ∷ taken) slot fits h =
    elim (first.originator == slot.originator) as (λ is. AreSlots (if is then slot ∷ taken else first ∷ with_slot slot taken)) [
      | true ↦ (fits, h.1)
      | false ↦ (h.0, slots-with_slot taken slot fits h.1)
    ]

pub slots-without_slot : (taken : List SlotState) (freed : ℕ) → AreSlots taken → AreSlots (without_slot freed taken)
slots-without_slot [] freed h = tt
slots-without_slot (first ∷ taken) freed h =
    elim (first.originator == freed) as (λ is. AreSlots (if not is then first ∷ without_slot freed taken else without_slot freed taken)) [
      | true ↦ slots-without_slot taken freed h.1
      | false ↦ (h.0, slots-without_slot taken freed h.1)
    ]

-- a slot behind others that are apart from it has an originator of its own
found_behind : (taken rest : List SlotState) (slot : SlotState) → slot_of slot.originator (taken ++ slot ∷ rest) ≡ None → ⊥
found_behind [] rest slot e =
    let same = eq-eqb slot.originator slot.originator refl in
    some_none slot (sym (ap (λ is. if is then Some slot else slot_of slot.originator rest) same) ∙ e)
  where
    some_none : (s : SlotState) → ◌≡◌ {A = Option SlotState} (Some s) None → ⊥
    some_none s e = cc
found_behind (s ∷ taken) rest slot e =
    by (s.originator == slot.originator) e (λ f. found_behind taken rest slot f)
  where
    by : (is : Bool) → (if is then Some s else slot_of slot.originator (taken ++ slot ∷ rest)) ≡ None → (slot_of slot.originator (taken ++ slot ∷ rest) ≡ None → ⊥) → ⊥
    by true e later = cc
    by false e later = later e

none_in_front : (front rest : List SlotState) (slot : SlotState) → AreApart (front ++ slot ∷ rest) → slot_of slot.originator front ≡ None
none_in_front [] rest slot h = refl
none_in_front (first ∷ front) rest slot h =
    go (first.originator == slot.originator) refl (none_in_front front rest slot h.1)
  where
    go : (is : Bool) → (first.originator == slot.originator) ≡ is → slot_of slot.originator front ≡ None → (if is then Some first else slot_of slot.originator front) ≡ None
    go true e later =
        absurd (found_behind front rest slot (ap (λ o. slot_of o (front ++ slot ∷ rest)) (sym (eqb-true first.originator slot.originator e)) ∙ h.0))
    go false e later = later

pub slot_behind : (front rest : List SlotState) (slot : SlotState) → AreSlots (front ++ slot ∷ rest) → IsSlot slot
slot_behind [] rest slot h = h.0
slot_behind (first ∷ front) rest slot h = slot_behind front rest slot h.1

room : (front rest : List SlotState) (slot : SlotState) (slots : ℕ) → length (front ++ slot ∷ rest) ≤ slots → length front < slots
room front rest slot slots h = omega (arith, length-append front (slot ∷ rest), h)

abbrev state : ℕ → ℕ → List SlotState → LedgerState
state slots life taken = record { slots = slots; life = life; taken = taken }

all_hold : (free none fits apt : Bool) (ledger : LedgerState) → free ≡ true → none ≡ false → fits ≡ true → apt ≡ true
    → ◌≡◌ {A = Option LedgerState} (if free && not none && fits && apt then Some ledger else None) (Some ledger)
all_hold free none fits apt ledger e f g h = rw (e, f, g, h) refl

below : (a b : ℕ) → a < b → nat_lt a b ≡ true
below a b h = grind (arith, nat_tests)

at_most : (a b : ℕ) → a ≤ b → nat_le a b ≡ true
at_most a b h = grind (arith, nat_tests)

-- the next slot that was kept can be put back
pub next_restored : (slots life : ℕ) (front rest : List SlotState) (slot : SlotState) → IsLedger (state slots life (front ++ slot ∷ rest))
    → restored slot (state slots life front) ≡ Some (state slots life (front ++ slot ∷ []))
next_restored slots life front rest slot is =
    all_hold (nat_lt (length front) slots) (is_some (slot_of slot.originator front)) (nat_le (length (kept_bytes slot)) 480)
    (are_apt slot.reply slot.ticket) (state slots life (front ++ slot ∷ []))
    (below (length front) slots (room front rest slot slots is.within))
    (ap is_some (none_in_front front rest slot is.apart))
    (at_most (length (kept_bytes slot)) 480 (slot_behind front rest slot is.sized).short)
    (slot_behind front rest slot is.sized).one

rest_restored : (slots life : ℕ) (front rest : List SlotState) → IsLedger (state slots life (front ++ rest)) → restored_all rest (state slots life front) ≡ state slots life (front ++ rest)
rest_restored slots life front [] is = ap (state slots life) (sym (append-nil front))
rest_restored slots life front (slot ∷ rest) is =
    let e = append_assoc front (slot ∷ []) rest in
    let now : IsLedger (state slots life ((front ++ slot ∷ []) ++ rest)) = rw e is in
    ap (λ o. restored_all rest (unwrap_or o (state slots life front))) (next_restored slots life front rest slot is)
    ∙ rest_restored slots life (front ++ slot ∷ []) rest now
    ∙ ap (state slots life) e

pub restored_is : restored_law
restored_is ledger life is = rest_restored ledger.slots ledger.life [] ledger.taken is

-- an originator that has a slot gets no other one
found_slot : (taken : List SlotState) (originator : ℕ) (index : Option ℕ) → IsFound taken originator index → is_some index ≡ true → is_some (slot_of originator taken) ≡ true
found_slot taken originator None f e = absurd (cc)
found_slot taken originator (Some index) f e = ap is_some (f.is (record { originator = 0; number = 0; reply = None; ticket = None }))

none_if : (a n b d : Bool) (ledger : LedgerState) → n ≡ true
    → ◌≡◌ {A = Option LedgerState} (if a && not n && b && d then Some ledger else None) None
none_if true n b d ledger e = rw e refl
none_if false n b d ledger e = refl

pub taken_slot_refused : (slot : SlotState) (ledger : LedgerState) (index : Option ℕ) → IsFound ledger.taken slot.originator index → is_some index ≡ true → restored slot ledger ≡ None
taken_slot_refused slot ledger index f e =
    none_if (nat_lt (length ledger.taken) ledger.slots) (is_some (slot_of slot.originator ledger.taken))
    (nat_le (length (kept_bytes slot)) 480) (are_apt slot.reply slot.ticket) (record ledger { taken = ledger.taken ++ slot ∷ [] })
    (found_slot ledger.taken slot.originator index f e)

-- a new slot behind the others
pub missing_if : (taken : List SlotState) (originator : ℕ) (index : Option ℕ) → IsFound taken originator index → ((k : ℕ) → index ≡ Some k → ⊥) → IsMissing taken originator
missing_if taken originator None f none = f
missing_if taken originator (Some k) f none = absurd (none k refl)
