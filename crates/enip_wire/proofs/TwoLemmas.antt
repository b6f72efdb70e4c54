-- The first two items of a list, each read once.
use Rattle.std.proofs.Common.{◌≡◌, ℕ, zero, suc, ◌-◌, ◌<◌, ◌≤◌, inl, inr, true, nat_lt, List, [], ◌∷◌, length, drop, Some, None, Result, Ok, Err, refl, sym, ap, ◌∙◌, arith}
use Rattle.std.proofs.lemmas.Bool.{cases_lt}
use Rattle.std.proofs.lemmas.Bool.Decides.{nat_tests}
use Rattle.enip_wire.specs.declared.item_list.CpfFault.{CpfFault}
use Rattle.enip_wire.specs.declared.item_list.CpfFault.TheVariants.{Short, Trailing}
use Rattle.cip_bytes.specs.Reading.{◌>>=◌, map_ok}
use Rattle.std.specs.Prelude.{IsErrAnd}
use Rattle.cip_bytes.specs.Numbers.{number_at}
use Rattle.enip_wire.specs.Items.{Item, Two, two_of, Next, next_of, item_at, size_at, first_items, after, whole, items_of}
use Rattle.enip_wire.specs.Bodies.{body_items_of, rr_items_of, unit_items_of, rr_two_of, unit_two_of, rr_body_of, unit_body_of}
use Rattle.enip_wire.proofs.ItemLemmas.{after-short, after-long, first_items-long, items_of-long}

-- Two items are enough for a body.

rr_handed : (r : Result (List Item) CpfFault) → r >>= rr_items_of ≡ map_ok two_of r >>= rr_two_of
rr_handed (Err fault) = refl
rr_handed (Ok []) = refl
rr_handed (Ok (a ∷ [])) = refl
rr_handed (Ok (a ∷ (b ∷ further))) = refl

pub rr_two : (text : List ℕ) → rr_body_of text ≡ map_ok two_of (body_items_of text) >>= rr_two_of
unfolding rr_body_of
rr_two text = rr_handed (body_items_of text)

unit_handed : (r : Result (List Item) CpfFault) → r >>= unit_items_of ≡ map_ok two_of r >>= unit_two_of
unit_handed (Err fault) = refl
unit_handed (Ok []) = refl
unit_handed (Ok (a ∷ [])) = refl
unit_handed (Ok (a ∷ (b ∷ further))) = refl

pub unit_two : (text : List ℕ) → unit_body_of text ≡ map_ok two_of (body_items_of text) >>= unit_two_of
unfolding unit_body_of
unit_two text = unit_handed (body_items_of text)

-- Reading in steps: an item, a second one, and what follows them.

abbrev pub ends : Two → List ℕ → Result Two CpfFault
ends two [] = Ok two
ends two (b ∷ rest) = Err Trailing

abbrev pub third : ℕ → Next → Next → Result Two CpfFault
third n a b = after (n - 2) b.rest >>= ends (record { first = a.item; second = b.item })

abbrev pub second : ℕ → Next → Result Two CpfFault
second n a = next_of (nat_lt 1 n) a.rest >>= third n a

abbrev pub steps : ℕ → List ℕ → Result Two CpfFault
steps n text = next_of (nat_lt 0 n) text >>= second n

next-short : (text : List ℕ) → length text < size_at text → next_of true text ≡ Err Short
next-short text short = grind (arith, nat_tests)

next-long : (text : List ℕ) → size_at text ≤ length text
    → next_of true text ≡ Ok (record { item = Some (item_at text); rest = drop (size_at text) text })
next-long text long = grind (arith, nat_tests)

ended : (l : List Item) (two : Two) (rest : List ℕ) → two_of l ≡ two → map_ok two_of (whole l (Ok rest)) ≡ ends two rest
ended l two [] e = ap Ok e
ended l two (b ∷ rest) e = refl

handed : (l : List Item) (two : Two) (r : Result (List ℕ) CpfFault) → two_of l ≡ two
    → map_ok two_of (whole l r) ≡ r >>= ends two
handed l two (Ok rest) e = ended l two rest e
handed l two (Err fault) e = refl

-- after the first item
behind : (n : ℕ) (a : Item) (text : List ℕ) → map_ok two_of (whole (a ∷ first_items n text) (after n text))
    ≡ second (suc n) (record { item = Some a; rest = text })
behind zero a text = handed (a ∷ []) (record { first = Some a; second = None }) (Ok text) refl
behind (suc n) a text =
    let some : nat_lt 1 (suc (suc n)) ≡ true = grind (arith, nat_tests) in
    let left : suc (suc n) - 2 ≡ n = omega arith in
    elim (cases_lt (length text) (size_at text)) [
      | inl short ↦
          ap (λ r. map_ok two_of (whole (a ∷ first_items (suc n) text) r)) (after-short n text short)
          ∙ sym (
          ap (λ t. next_of t text >>= third (suc (suc n)) (record { item = Some a; rest = text })) some
          ∙ ap (λ r. r >>= third (suc (suc n)) (record { item = Some a; rest = text })) (next-short text short)
          )
      | inr long ↦
          let rest : List ℕ = drop (size_at text) text in
          let b : Item = item_at text in
          ap (λ l. map_ok two_of (whole (a ∷ l) (after (suc n) text))) (first_items-long n text long)
          ∙ ap (λ r. map_ok two_of (whole (a ∷ (item_at text ∷ first_items n (drop (size_at text) text))) r)) (after-long n text long)
          ∙ handed (a ∷ (item_at text ∷ first_items n (drop (size_at text) text)))
          (record { first = Some a; second = Some (item_at text) }) (after n (drop (size_at text) text)) refl
          ∙ ap (λ k. after k (drop (size_at text) text) >>= ends (record { first = Some a; second = Some (item_at text) })) (sym left)
          ∙ sym (
          ap (λ t. next_of t text >>= third (suc (suc n)) (record { item = Some a; rest = text })) some
          ∙ ap (λ r. r >>= third (suc (suc n)) (record { item = Some a; rest = text })) (next-long text long)
          )
    ]

pub in_steps : (n : ℕ) (text : List ℕ) → map_ok two_of (whole (first_items n text) (after n text)) ≡ steps n text
in_steps zero text = handed [] (record { first = None; second = None }) (Ok text) refl
in_steps (suc n) text =
    let some : nat_lt 0 (suc n) ≡ true = grind (arith, nat_tests) in
    elim (cases_lt (length text) (size_at text)) [
      | inl short ↦
          ap (λ r. map_ok two_of (whole (first_items (suc n) text) r)) (after-short n text short)
          ∙ sym (ap (λ t. next_of t text >>= second (suc n)) some ∙ ap (λ r. r >>= second (suc n)) (next-short text short))
      | inr long ↦
          ap (λ l. map_ok two_of (whole l (after (suc n) text))) (first_items-long n text long)
          ∙ ap (λ r. map_ok two_of (whole (item_at text ∷ first_items n (drop (size_at text) text)) r)) (after-long n text long)
          ∙ behind n (item_at text) (drop (size_at text) text)
          ∙ sym (ap (λ t. next_of t text >>= second (suc n)) some ∙ ap (λ r. r >>= second (suc n)) (next-long text long))
    ]

-- The steps as the code takes them.

-- a fault that is passed on
pub err_seen : {A B : Type 0} (view : A → B) (r : Result A CpfFault) (fault : CpfFault) → IsErrAnd r (λ e. e ≡ fault)
    → map_ok view r ≡ Err fault
err_seen view (Ok x) fault p = absurd p
err_seen view (Err e) fault p = ap Err p

items_steps : (text rest : List ℕ) (n : ℕ) → 2 ≤ length text → rest ≡ drop 2 text → n ≡ number_at 0 2 text
    → map_ok two_of (items_of text) ≡ steps n rest
items_steps text rest n long is count =
    ap (map_ok two_of) (items_of-long text long) ∙ in_steps (number_at 0 2 text) (drop 2 text)
    ∙ ap (λ k. steps k (drop 2 text)) (sym count) ∙ ap (steps n) (sym is)

pub first_fault : (text rest : List ℕ) (n : ℕ) (fault : CpfFault) → 2 ≤ length text → rest ≡ drop 2 text
    → n ≡ number_at 0 2 text → next_of (nat_lt 0 n) rest ≡ Err fault → map_ok two_of (items_of text) ≡ Err fault
first_fault text rest n fault long is count bad =
    items_steps text rest n long is count ∙ ap (λ r. r >>= second n) bad

pub second_fault : (text rest : List ℕ) (n : ℕ) (a : Next) (fault : CpfFault) → 2 ≤ length text → rest ≡ drop 2 text
    → n ≡ number_at 0 2 text → next_of (nat_lt 0 n) rest ≡ Ok a → next_of (nat_lt 1 n) a.rest ≡ Err fault
    → map_ok two_of (items_of text) ≡ Err fault
second_fault text rest n a fault long is count one bad =
    items_steps text rest n long is count ∙ ap (λ r. r >>= second n) one ∙ ap (λ r. r >>= third n a) bad

-- after two items: what follows them decides
pub behind_two : (text rest : List ℕ) (n : ℕ) (a b : Next) (r : Result (List ℕ) CpfFault) → 2 ≤ length text
    → rest ≡ drop 2 text → n ≡ number_at 0 2 text → next_of (nat_lt 0 n) rest ≡ Ok a
    → next_of (nat_lt 1 n) a.rest ≡ Ok b → r ≡ after (n - 2) b.rest
    → map_ok two_of (items_of text) ≡ r >>= ends (record { first = a.item; second = b.item })
behind_two text rest n a b r long is count one two left =
    items_steps text rest n long is count ∙ ap (λ r. r >>= second n) one ∙ ap (λ r. r >>= third n a) two
    ∙ ap (λ r. r >>= ends (record { first = a.item; second = b.item })) (sym left)

pub ends-empty : (two : Two) (rest : List ℕ) → length rest < 1 → ends two rest ≡ Ok two
ends-empty two [] empty = refl
ends-empty two (b ∷ rest) empty = absurd (omega (arith, empty))

pub ends-more : (two : Two) (rest : List ℕ) → 1 ≤ length rest → ends two rest ≡ Err Trailing
ends-more two [] some = absurd (omega (arith, some))
ends-more two (b ∷ rest) some = refl
