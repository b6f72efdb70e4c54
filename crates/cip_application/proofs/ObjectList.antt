-- The classes of the object list.
use Rattle.std.proofs.Common.{◌≡◌, ℕ, zero, suc, ◌<◌, ◌≤◌, eqb, Bool, true, false, cond, ◌||◌, nat_lt, List, [], ◌∷◌, ◌++◌, length, get_or, refl, sym, ap, ◌∙◌, arith}
use Rattle.std.proofs.lemmas.Bool.Decides.{nat_tests}
use Rattle.std.proofs.lemmas.Bool.{eqb-true}
use Rattle.std.specs.Prelude.{insert}
use Rattle.cip_application.specs.MessageRouter.{with_class, with_classes, own_classes, class_if, classes_of, has_class, IsBelow, AreRising}

lt-true : (a b : ℕ) → a < b → nat_lt a b ≡ true
lt-true a b h = grind (arith, nat_tests)

lt-false : (a b : ℕ) → b ≤ a → nat_lt a b ≡ false
lt-false a b h = grind (arith, nat_tests)

eqb-same : (a b : ℕ) → a ≡ b → eqb a b ≡ true
eqb-same a b h = grind (arith, nat_tests)

eqb-below : (a b : ℕ) → a < b → eqb a b ≡ false
eqb-below a b h = grind (arith, nat_tests)

-- ---- the index before which a class is put

-- one step, past a class that is less
past : (c class : ℕ) (xs : List ℕ) → c < class → with_class class (c ∷ xs) ≡ c ∷ with_class class xs
past c class xs h =
    ap (λ t. cond t (class ∷ c ∷ xs) (cond (eqb c class) (c ∷ xs) (c ∷ with_class class xs))) (lt-false class c (omega arith))
    ∙ ap (λ t. cond t (c ∷ xs) (c ∷ with_class class xs)) (eqb-below c class h)

pub placed_last : (xs : List ℕ) (class : ℕ) → ((k d : ℕ) → k < length xs → get_or xs k d < class) → insert xs (length xs) class ≡ with_class class xs
placed_last [] class before = refl
placed_last (c ∷ xs) class before =
    ap (λ l. c ∷ l) (placed_last xs class (λ k d h. before (suc k) d (omega arith)))
    ∙ sym (past c class xs (before 0 c (omega arith)))

pub placed_before : (xs : List ℕ) (class i : ℕ) → i < length xs → ((d : ℕ) → class < get_or xs i d) → ((k d : ℕ) → k < i → get_or xs k d < class) → insert xs i class ≡ with_class class xs
placed_before [] class i lt here before = absurd (omega arith)
placed_before (c ∷ xs) class zero lt here before =
    ap (λ t. cond t (class ∷ c ∷ xs) (cond (eqb c class) (c ∷ xs) (c ∷ with_class class xs))) (sym (lt-true class c (here c)))
placed_before (c ∷ xs) class (suc i) lt here before =
    ap (λ l. c ∷ l) (placed_before xs class i (omega arith) here (λ k d h. before (suc k) d (omega arith)))
    ∙ sym (past c class xs (before 0 c (omega arith)))

pub there_already : (xs : List ℕ) (class i : ℕ) → i < length xs → ((d : ℕ) → get_or xs i d ≡ class) → ((k d : ℕ) → k < i → get_or xs k d < class) → xs ≡ with_class class xs
there_already [] class i lt here before = absurd (omega arith)
there_already (c ∷ xs) class zero lt here before =
    let same = here c in
    sym (ap (λ t. cond t (class ∷ c ∷ xs) (cond (eqb c class) (c ∷ xs) (c ∷ with_class class xs))) (lt-false class c (omega arith))
    ∙ ap (λ t. cond t (c ∷ xs) (c ∷ with_class class xs)) (eqb-same c class same))
there_already (c ∷ xs) class (suc i) lt here before =
    ap (λ l. c ∷ l) (there_already xs class i (omega arith) here (λ k d h. before (suc k) d (omega arith)))
    ∙ sym (past c class xs (before 0 c (omega arith)))

-- ---- which classes there are

-- either of two, in any order
or_twice : (a b : Bool) → a || b ≡ a || (a || b)
or_twice true b = refl
or_twice false b = refl

or_turned : (a b r : Bool) → a || (b || r) ≡ b || (a || r)
or_turned true true r = refl
or_turned true false r = refl
or_turned false true r = refl
or_turned false false r = refl

or_first : (a b r : Bool) → (a || b) || r ≡ b || (a || r)
or_first true true r = refl
or_first true false r = refl
or_first false true r = refl
or_first false false r = refl

by_order : (less same : Bool) (class c x : ℕ) (xs rest : List ℕ) → eqb c class ≡ same → has_class x rest ≡ eqb class x || has_class x xs
    → has_class x (cond less (class ∷ c ∷ xs) (cond same (c ∷ xs) (c ∷ rest))) ≡ eqb class x || has_class x (c ∷ xs)
by_order true same class c x xs rest e later = refl
by_order false true class c x xs rest e later =
    or_twice (eqb c x) (has_class x xs)
    ∙ ap (λ n. eqb n x || (eqb c x || has_class x xs)) (eqb-true c class e)
by_order false false class c x xs rest e later =
    ap (λ t. eqb c x || t) later ∙ or_turned (eqb c x) (eqb class x) (has_class x xs)

one_more : (class x : ℕ) (xs : List ℕ) → has_class x (with_class class xs) ≡ eqb class x || has_class x xs
one_more class x [] = refl
one_more class x (c ∷ xs) =
    by_order (nat_lt class c) (eqb c class) class c x xs (with_class class xs) refl (one_more class x xs)

all_more : (x : ℕ) (xs more : List ℕ) → has_class x (with_classes xs more) ≡ has_class x xs || has_class x more
all_more x xs [] = or_end (has_class x xs)
  where
    or_end : (a : Bool) → a ≡ a || false
    or_end true = refl
    or_end false = refl
all_more x xs (class ∷ more) =
    all_more x (with_class class xs) more
    ∙ ap (λ t. t || has_class x more) (one_more class x xs)
    ∙ or_swapped (eqb class x) (has_class x xs) (has_class x more)
  where
    or_swapped : (a b r : Bool) → (a || b) || r ≡ b || (a || r)
    or_swapped a b r = or_first a b r

-- ---- the classes rise

below_put : (c class : ℕ) (xs : List ℕ) → c < class → IsBelow c xs → IsBelow c (with_class class xs)
below_put c class [] h below = h
below_put c class (d ∷ xs) h below = by (nat_lt class d) (eqb d class)
  where
    by : (less same : Bool) → IsBelow c (cond less (class ∷ d ∷ xs) (cond same (d ∷ xs) (d ∷ with_class class xs)))
    by true same = h
    by false true = below
    by false false = below

between : (class c : ℕ) → nat_lt class c ≡ false → eqb c class ≡ false → c < class
between class c e f = grind (arith, nat_tests)

less : (class c : ℕ) → nat_lt class c ≡ true → class < c
less class c e = grind (arith, nat_tests)

rises_by : (class c : ℕ) (xs : List ℕ) (first same : Bool) → nat_lt class c ≡ first → eqb c class ≡ same → AreRising (c ∷ xs) → AreRising (with_class class xs)
    → AreRising (cond first (class ∷ c ∷ xs) (cond same (c ∷ xs) (c ∷ with_class class xs)))
rises_by class c xs true same e f r later = (less class c e, r)
rises_by class c xs false true e f r later = r
rises_by class c xs false false e f r later = (below_put c class xs (between class c e f) r.0, later)

rises_with : (class : ℕ) (xs : List ℕ) → AreRising xs → AreRising (with_class class xs)
rises_with class [] r = (tt, tt)
rises_with class (c ∷ xs) r = rises_by class c xs (nat_lt class c) (eqb c class) refl refl r (rises_with class xs r.1)

all_rise : (xs more : List ℕ) → AreRising xs → AreRising (with_classes xs more)
all_rise xs [] r = r
all_rise xs (class ∷ more) r = all_rise (with_class class xs) more (rises_with class xs r)

own_rise : (counter ledger : Bool) → AreRising (own_classes counter ledger)
own_rise true true = (omega arith, (omega arith, (omega arith, (omega arith, (omega arith, (tt, tt))))))
own_rise true false = (omega arith, (omega arith, (omega arith, (omega arith, (tt, tt)))))
own_rise false true = (omega arith, (omega arith, (omega arith, (omega arith, (tt, tt)))))
own_rise false false = (omega arith, (omega arith, (omega arith, (tt, tt))))

pub listed : (counter ledger : Bool) (classes : List ℕ) → AreRising (classes_of counter ledger classes)
    × ((class : ℕ) → has_class class (classes_of counter ledger classes) ≡ has_class class (own_classes counter ledger) || has_class class classes)
listed counter ledger classes =
    (all_rise (own_classes counter ledger) classes (own_rise counter ledger), λ class. all_more class (own_classes counter ledger) classes)
