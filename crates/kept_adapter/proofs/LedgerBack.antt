-- The ledger of a device that starts from what was kept of a device.
use Rattle.std.proofs.Common.{◌≡◌, ℕ, zero, suc, ◌+◌, ◌-◌, ◌/◌, ◌<◌, ◌≤◌, ◌^◌, ◌==◌, ◌&&◌, ◌||◌, nat_lt, nat_le, not}
use Rattle.std.proofs.Common.{Bool, true, false, if◌then◌else◌, Option, Some, None, List, [], ◌∷◌, ◌++◌, length, take}
use Rattle.std.proofs.Common.{drop, refl, ap, sym, ◌∙◌, subst, arith, ◌⊎◌, inl, inr}
use Rattle.std.specs.Prelude.{slice_get}
use Rattle.std.proofs.lemmas.Bool.{eq-eqb, ne_eqb, ltb-true}
use Rattle.std.proofs.lemmas.List.{append-nil, length-append}
use Rattle.byteorder.specs.Numbers.{little_number-reads_back}
use Rattle.cip_bytes.specs.Numbers.{le, number_at}
use Rattle.cip_message.specs.declared.ledger_services.TheConstants.{LEDGER}
use Rattle.cip_ledger.specs.Kept.{IsLedger, can_restore, restored as slot_restored}
use Rattle.cip_ledger.specs.Ledger.{SlotState, LedgerState, IsSlot, AreSlots}
use Rattle.cip_ledger.proofs.KeptLemmas.{next_restored, slot_behind}
use Rattle.cip_objects.specs.Contents.{Contents}
use Rattle.cip_objects.specs.Kept.{name_of}
use Rattle.device_state.specs.declared.restoring.Outcome.TheVariants.{Used, Unfit}
use Rattle.device_state.specs.Keys.{key_of}
use Rattle.device_state.specs.Restored.{Done, done, slot_in, if_restored, slot_done, ledger_done, with_ledger, by_name}
use Rattle.device_state.specs.Saved.{State, state_of, slot_bytes, state_bytes}
use Rattle.device_state.proofs.KeyLemmas.{name_back}
use Rattle.device_state.proofs.LedgerPuts.{slot_back}
use Rattle.kept_adapter.specs.declared.progress.Progress.{Progress}
use Rattle.kept_adapter.specs.Keys.{ledger_key, is_ledger_key, device_key}
use Rattle.kept_adapter.specs.Saved.{bytes_of_slot, ledger_bytes, first_entries}
use Rattle.kept_adapter.specs.Started.{is_free_slot, by_device_key, after_entry, progressed, put_back, put_all_back}
use Rattle.kept_adapter.proofs.PutBack.{put_two}

-- ---- the key of an entry of the ledger

pub of_ledger : (n : ℕ) → n < 2 ^ 16 → is_ledger_key (ledger_key n) ≡ true
of_ledger n h = eq-eqb (ledger_key n / 2 ^ 32) (2 ^ 16 + 101) (omega (arith, h))

own_key : (n : ℕ) → n < 2 ^ 16 → device_key (ledger_key n) ≡ Some (key_of LEDGER n 0)
own_key n h =
    let same : ledger_key n - 2 ^ 48 ≡ key_of LEDGER n 0 = omega (arith, h) in
    ap (λ t. if t then Some (ledger_key n - 2 ^ 48)
    else (if nat_le (2 ^ 48) (ledger_key n) || (ledger_key n / 2 ^ 32 == LEDGER) then None else Some (ledger_key n)))
    (of_ledger n h)
    ∙ ap (λ k. Some k) same

pub not_life : (n : ℕ) → (ledger_key (suc n) == ledger_key 0) ≡ false
not_life n = ne_eqb (ledger_key (suc n)) (ledger_key 0) (λ same. omega (arith, same))

-- The entry is put back as device_state does, if it isn't that of a free slot.
pub ledger_goes : (s : State) (n : ℕ) (content : List ℕ) → n < 2 ^ 16 → is_free_slot (ledger_key n) content ≡ false
    → after_entry s (ledger_key n) content ≡ by_name s content (Some (name_of LEDGER n 0))
ledger_goes s n content h some =
    ap (λ t. if t then done s Used else by_device_key s content (device_key (ledger_key n))) some
    ∙ ap (by_device_key s content) (own_key n h)
    ∙ ap (by_name s content) (name_back LEDGER n 0 (omega arith) h (omega arith))

-- What an entry of the ledger makes of the progress.
put_done : (p : Progress) (n : ℕ) (content : List ℕ) (d : Done State)
    → after_entry (state_of p.objects p.ledger) (ledger_key n) content ≡ d
    → put_back p (ledger_key n, content) ≡ progressed p (ledger_key n) d
put_done p n content d e = ap (progressed p (ledger_key n)) e

-- ---- the progress after the entries of the ledger up to a slot

abbrev pub part : ℕ → ℕ → List SlotState → LedgerState
part slots life taken = record { slots = slots; life = life; taken = taken }

pub record IsAt (l : LedgerState) (slots n : ℕ) (p : Progress) : Type 0 where
  pub ledger : p.ledger ≡ Some (part slots l.life (take n l.taken))
  pub within : length (take n l.taken) ≤ slots
  pub life : p.has_life ≡ true
  pub lost : p.has_lost ≡ false

or_true : (a b : Bool) → b ≡ true → a || b ≡ true
or_true true b e = refl
or_true false b e = e

true_or : (a b : Bool) → a ≡ true → a || b ≡ true
true_or true b e = refl
true_or false b e = absurd (cc)

or_none : (a b : Bool) → a ≡ false → b ≡ false → a || b ≡ false
or_none true b e f = absurd (cc)
or_none false b e f = f

and_right : (a : Bool) → a && false ≡ false
and_right true = refl
and_right false = refl

-- ---- the life

pub life_back : (life : ℕ) → life < 2 ^ 64 → number_at 0 8 (le 8 life) ≡ life
life_back life h = ap (number_at 0 8) (sym (append-nil (le 8 life))) ∙ little_number-reads_back 8 life [] h

and_not : (a b c : Bool) → b ≡ true → a && not b && c ≡ false
and_not true true c e = refl
and_not true false c e = absurd (cc)
and_not false b c e = refl

life_used : (m : Contents) (slots old life : ℕ) → life < 2 ^ 64
    → after_entry (state_of m (Some (part slots old []))) (ledger_key 0) (le 8 life)
    ≡ done (state_of m (Some (part slots life []))) Used
life_used m slots old life h =
    ledger_goes (state_of m (Some (part slots old []))) 0 (le 8 life) (omega arith)
    (and_not (is_ledger_key (ledger_key 0)) (ledger_key 0 == ledger_key 0) (length (le 8 life) == 0)
    (eq-eqb (ledger_key 0) (ledger_key 0) refl))
    ∙ ap (λ n. done (state_of m (Some (part slots n []))) Used) (life_back life h)

at_life : (l : LedgerState) (slots old : ℕ) (p : Progress) → l.life < 2 ^ 64 → p.ledger ≡ Some (part slots old [])
    → p.has_lost ≡ false → IsAt l slots 0 (put_back p (ledger_key 0, le 8 l.life))
at_life l slots old p h own lost =
    let d = done (state_of p.objects (Some (part slots l.life []))) Used in
    let after : after_entry (state_of p.objects p.ledger) (ledger_key 0) (le 8 l.life) ≡ d
    = ap (λ o. after_entry (state_of p.objects o) (ledger_key 0) (le 8 l.life)) own
    ∙ life_used p.objects slots old l.life h in
    subst (IsAt l slots 0) (sym (put_done p 0 (le 8 l.life) d after)) (record {
      ledger = refl;
      within = omega arith;
      life = or_true p.has_life (ledger_key 0 == ledger_key 0) (eq-eqb (ledger_key 0) (ledger_key 0) refl);
      lost = or_none p.has_lost (is_ledger_key (ledger_key 0) && false) lost (and_right (is_ledger_key (ledger_key 0)));
    })

-- ---- a slot

taken_entry : (n : ℕ) (content : List ℕ) → (length content == 0) ≡ false
    → is_free_slot (ledger_key (suc n)) content ≡ false
taken_entry n content some =
    ap (λ t. is_ledger_key (ledger_key (suc n)) && not (ledger_key (suc n) == ledger_key 0) && t) some
    ∙ and_right (is_ledger_key (ledger_key (suc n)) && not (ledger_key (suc n) == ledger_key 0))

pub not_empty : (slot : SlotState) → (length (slot_bytes slot) == 0) ≡ false
not_empty slot =
    let state = state_bytes slot.reply slot.ticket in
    let size : length (slot_bytes slot) ≡ 12 + length state
    = omega (
      arith,
      length-append (le 8 slot.originator) (le 4 slot.number ++ state),
      length-append (le 4 slot.number) state,
    ) in
    ne_eqb (length (slot_bytes slot)) 0 (λ none. omega (arith, size, none))

not_first : (n : ℕ) → (suc n == 0) ≡ false
not_first n = ne_eqb (suc n) 0 (λ same. omega (arith, same))

slot_goes : (m : Contents) (l : LedgerState) (n : ℕ) (slot : SlotState) → suc n < 2 ^ 16 → IsSlot slot
    → after_entry (state_of m (Some l)) (ledger_key (suc n)) (slot_bytes slot)
    ≡ with_ledger m (if_restored l (slot_restored slot l))
slot_goes m l n slot h is =
    let b = slot_bytes slot in
    ledger_goes (state_of m (Some l)) (suc n) b h (taken_entry n b (not_empty slot))
    ∙ ap (λ t. with_ledger m (if t then ledger_done l (name_of LEDGER 0 0) b else slot_done l (slot_in b)))
    (not_first n)
    ∙ ap (λ o. with_ledger m (slot_done l o)) (slot_back slot is)

-- a slot that can be put back has room
has_room : (slots life : ℕ) (front : List SlotState) (slot : SlotState)
    → slot_restored slot (part slots life front) ≡ Some (part slots life (front ++ slot ∷ []))
    → length (front ++ slot ∷ []) ≤ slots
has_room slots life front slot can = by (nat_lt (length front) slots) _ _ _ refl can
  where
    by : (free a b c : Bool) → nat_lt (length front) slots ≡ free
        → (if free && a && b && c then Some (part slots life (front ++ slot ∷ [])) else None)
        ≡ Some (part slots life (front ++ slot ∷ [])) → length (front ++ slot ∷ []) ≤ slots
    by true a b c e is =
        let less = ltb-true (length front) slots e in omega (arith, less, length-append front (slot ∷ []))
    by false a b c e is = absurd (cc)

-- the progress once a slot was put back
at_slot : (l : LedgerState) (slots n : ℕ) (slot : SlotState) (p : Progress) → suc n < 2 ^ 16 → IsSlot slot
    → IsAt l slots n p → take (suc n) l.taken ≡ take n l.taken ++ slot ∷ []
    → slot_restored slot (part slots l.life (take n l.taken)) ≡ Some (part slots l.life (take n l.taken ++ slot ∷ []))
    → IsAt l slots (suc n) (put_back p (ledger_key (suc n), slot_bytes slot))
at_slot l slots n slot p h is at more can =
    let front = part slots l.life (take n l.taken) in
    let next = part slots l.life (take n l.taken ++ slot ∷ []) in
    let d = done (state_of p.objects (Some next)) Used in
    let after : after_entry (state_of p.objects p.ledger) (ledger_key (suc n)) (slot_bytes slot) ≡ d
    = ap (λ o. after_entry (state_of p.objects o) (ledger_key (suc n)) (slot_bytes slot)) at.ledger
    ∙ slot_goes p.objects front n slot h is
    ∙ ap (λ o. with_ledger p.objects (if_restored front o)) can in
    subst (IsAt l slots (suc n)) (sym (put_done p (suc n) (slot_bytes slot) d after)) (record {
      ledger = ap (λ taken. Some (part slots l.life taken)) (sym more);
      within = subst (λ taken. length taken ≤ slots) (sym more) (has_room slots l.life (take n l.taken) slot can);
      life = true_or p.has_life (ledger_key (suc n) == ledger_key 0) at.life;
      lost = or_none p.has_lost (is_ledger_key (ledger_key (suc n)) && false) at.lost
          (and_right (is_ledger_key (ledger_key (suc n))));
    })

-- a slot that cannot be put back is lost
lost_slot : (l : LedgerState) (slots n : ℕ) (slot : SlotState) (p : Progress) → suc n < 2 ^ 16 → IsSlot slot
    → IsAt l slots n p → slot_restored slot (part slots l.life (take n l.taken)) ≡ None
    → (put_back p (ledger_key (suc n), slot_bytes slot)).has_lost ≡ true
lost_slot l slots n slot p h is at cannot =
    let front = part slots l.life (take n l.taken) in
    let d = done (state_of p.objects (Some front)) Unfit in
    let after : after_entry (state_of p.objects p.ledger) (ledger_key (suc n)) (slot_bytes slot) ≡ d
    = ap (λ o. after_entry (state_of p.objects o) (ledger_key (suc n)) (slot_bytes slot)) at.ledger
    ∙ slot_goes p.objects front n slot h is
    ∙ ap (λ o. with_ledger p.objects (if_restored front o)) cannot in
    ap (λ (q : Progress). q.has_lost) (put_done p (suc n) (slot_bytes slot) d after)
    ∙ or_true p.has_lost (is_ledger_key (ledger_key (suc n)) && true)
    (ap (λ t. t && true) (of_ledger (suc n) h))

-- a slot that is free
free_entry : (n : ℕ) → suc n < 2 ^ 16 → is_free_slot (ledger_key (suc n)) [] ≡ true
free_entry n h =
    ap (λ t. t && not (ledger_key (suc n) == ledger_key 0) && true) (of_ledger (suc n) h)
    ∙ ap (λ t. not t && true) (not_life n)

at_free : (l : LedgerState) (slots n : ℕ) (p : Progress) → suc n < 2 ^ 16 → IsAt l slots n p
    → take (suc n) l.taken ≡ take n l.taken → IsAt l slots (suc n) (put_back p (ledger_key (suc n), []))
at_free l slots n p h at same =
    let s = state_of p.objects p.ledger in
    let after : after_entry s (ledger_key (suc n)) [] ≡ done s Used
    = ap (λ t. if t then done s Used else by_device_key s [] (device_key (ledger_key (suc n)))) (free_entry n h) in
    subst (IsAt l slots (suc n)) (sym (put_done p (suc n) [] (done s Used) after)) (record {
      ledger = at.ledger ∙ ap (λ taken. Some (part slots l.life taken)) (sym same);
      within = subst (λ taken. length taken ≤ slots) (sym same) at.within;
      life = true_or p.has_life (ledger_key (suc n) == ledger_key 0) at.life;
      lost = or_none p.has_lost (is_ledger_key (ledger_key (suc n)) && false) at.lost
          (and_right (is_ledger_key (ledger_key (suc n))));
    })

-- ---- the slots in order

same_some : {A : Type 0} (x y : A) → ◌≡◌ {A = Option A} (Some x) (Some y) → x ≡ y
same_some x y e = cc

split_at : {A : Type 0} (xs : List A) (n : ℕ) (x : A) → slice_get xs n ≡ Some x
    → (take (suc n) xs ≡ take n xs ++ x ∷ []) × (take n xs ++ x ∷ drop (suc n) xs ≡ xs)
split_at [] n x e = absurd (cc)
split_at (y ∷ xs) zero x e =
    let same : y ≡ x = same_some y x e in (ap (λ z. z ∷ []) same, ap (λ z. z ∷ xs) (sym same))
split_at (y ∷ xs) (suc n) x e =
    let rest = split_at xs n x e in (ap (λ ys. y ∷ ys) rest.0, ap (λ ys. y ∷ ys) rest.1)

past_all : {A : Type 0} (xs : List A) (n : ℕ) → slice_get xs n ≡ None → take (suc n) xs ≡ take n xs
past_all [] zero e = refl
past_all [] (suc n) e = refl
past_all (y ∷ xs) zero e = absurd (cc)
past_all (y ∷ xs) (suc n) e = ap (λ ys. y ∷ ys) (past_all xs n e)

pub take_all : {A : Type 0} (xs : List A) (n : ℕ) → length xs ≤ n → take n xs ≡ xs
take_all [] zero h = refl
take_all [] (suc n) h = refl
take_all (x ∷ xs) zero h = absurd (omega (arith, h))
take_all (x ∷ xs) (suc n) h = ap (λ ys. x ∷ ys) (take_all xs n (omega (arith, h)))

-- With as many slots, each is put back.
next_at : (l : LedgerState) (n : ℕ) (p : Progress) (found : Option SlotState) → IsLedger l → suc n < 2 ^ 16
    → slice_get l.taken n ≡ found → IsAt l l.slots n p
    → IsAt l l.slots (suc n) (put_back p (ledger_key (suc n), bytes_of_slot found))
next_at l n p None is h e at = at_free l l.slots n p h at (past_all l.taken n e)
next_at l n p (Some slot) is h e at =
    let split = split_at l.taken n slot e in
    let front = take n l.taken in
    let rest = drop (suc n) l.taken in
    let whole : IsLedger (part l.slots l.life (front ++ slot ∷ rest))
    = subst (λ taken. IsLedger (part l.slots l.life taken)) (sym split.1) is in
    at_slot l l.slots n slot p h (slot_behind front rest slot whole.sized) at split.0
    (next_restored l.slots l.life front rest slot whole)

pub first_at : (l : LedgerState) (old n : ℕ) (p : Progress) → IsLedger l → n < 2 ^ 16
    → p.ledger ≡ Some (part l.slots old []) → p.has_lost ≡ false
    → IsAt l l.slots n (put_all_back p (first_entries l (suc n)))
first_at l old zero p is h own lost = at_life l l.slots old p is.life own lost
first_at l old (suc n) p is h own lost =
    let front = first_entries l (suc n) in
    let entry : ℕ × List ℕ = (ledger_key (suc n), ledger_bytes l (suc n)) in
    subst (IsAt l l.slots (suc n)) (sym (put_two p front (entry ∷ [])))
    (next_at l n (put_all_back p front) (slice_get l.taken n) is h refl
    (first_at l old n p is (omega (arith, h)) own lost))

-- With any number of slots, each is put back, or one is lost.
abbrev pub IsAtOrLost : LedgerState → ℕ → ℕ → Progress → Type 0
IsAtOrLost l slots n p = (p.has_lost ≡ true) ⊎ IsAt l slots n p

by_restored : (l : LedgerState) (slots n : ℕ) (slot : SlotState) (p : Progress) (can : Bool) → suc n < 2 ^ 16
    → IsSlot slot → IsAt l slots n p → take (suc n) l.taken ≡ take n l.taken ++ slot ∷ []
    → can_restore slot (part slots l.life (take n l.taken)) ≡ can
    → IsAtOrLost l slots (suc n) (put_back p (ledger_key (suc n), slot_bytes slot))
by_restored l slots n slot p true h is at more e =
    inr (at_slot l slots n slot p h is at more (ap (λ t. if t then
    Some (part slots l.life (take n l.taken ++ slot ∷ [])) else None) e))
by_restored l slots n slot p false h is at more e =
    inl (lost_slot l slots n slot p h is at (ap (λ t. if t then
    Some (part slots l.life (take n l.taken ++ slot ∷ [])) else None) e))

next_or_lost : (l : LedgerState) (slots n : ℕ) (p : Progress) (found : Option SlotState) → IsLedger l
    → suc n < 2 ^ 16 → slice_get l.taken n ≡ found → IsAtOrLost l slots n p
    → IsAtOrLost l slots (suc n) (put_back p (ledger_key (suc n), bytes_of_slot found))
next_or_lost l slots n p found is h e (inl lost) = inl (true_or p.has_lost _ lost)
next_or_lost l slots n p None is h e (inr at) = inr (at_free l slots n p h at (past_all l.taken n e))
next_or_lost l slots n p (Some slot) is h e (inr at) =
    let split = split_at l.taken n slot e in
    by_restored l slots n slot p (can_restore slot (part slots l.life (take n l.taken))) h
    (slot_behind (take n l.taken) (drop (suc n) l.taken) slot (subst AreSlots (sym split.1) is.sized)) at split.0 refl

pub first_or_lost : (l : LedgerState) (slots old n : ℕ) (p : Progress) → IsLedger l → n < 2 ^ 16
    → p.ledger ≡ Some (part slots old []) → p.has_lost ≡ false
    → IsAtOrLost l slots n (put_all_back p (first_entries l (suc n)))
first_or_lost l slots old zero p is h own lost = inr (at_life l slots old p is.life own lost)
first_or_lost l slots old (suc n) p is h own lost =
    let front = first_entries l (suc n) in
    let entry : ℕ × List ℕ = (ledger_key (suc n), ledger_bytes l (suc n)) in
    subst (IsAtOrLost l slots (suc n)) (sym (put_two p front (entry ∷ [])))
    (next_or_lost l slots n (put_all_back p front) (slice_get l.taken n) is h refl
    (first_or_lost l slots old n p is (omega (arith, h)) own lost))
