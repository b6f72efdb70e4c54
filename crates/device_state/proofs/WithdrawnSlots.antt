-- Whether a slot has a command that was withdrawn, slot by slot.
use Rattle.std.proofs.Common.{◌≡◌, ℕ, zero, suc, ◌+◌, ◌≤◌, Bool, true, false, ◌||◌, List, [], ◌∷◌, length, drop, Option, Some, None, refl, sym, ap, ◌∙◌, arith}
use Rattle.std.specs.Prelude.{slice_get}
use Rattle.std.specs.List.{list_any}

-- at a slot, and behind the last one
drop_at : {A : Type 0} (xs : List A) (i : ℕ) (x : A) → Some x ≡ slice_get xs i → drop i xs ≡ x ∷ drop (suc i) xs
drop_at [] i x e = absurd (cc)
drop_at (y ∷ xs) zero x e = ap (λ z. z ∷ xs) (inner x y e)
  where
    inner : {A : Type 0} (a b : A) → ◌≡◌ {A = Option A} (Some a) (Some b) → b ≡ a
    inner a b e = cc
drop_at (y ∷ xs) (suc i) x e = drop_at xs i x e

drop_none : {A : Type 0} (xs : List A) (i : ℕ) → None ≡ slice_get xs i → drop i xs ≡ []
drop_none [] zero e = refl
drop_none [] (suc i) e = refl
drop_none (y ∷ xs) zero e = absurd (cc)
drop_none (y ∷ xs) (suc i) e = drop_none xs i e

drop_past : {A : Type 0} (xs : List A) (i : ℕ) → length xs ≤ i → drop i xs ≡ []
drop_past [] zero h = refl
drop_past [] (suc i) h = refl
drop_past (y ∷ xs) zero h = absurd (omega (arith, h))
drop_past (y ∷ xs) (suc i) h = drop_past xs i (omega (arith, h))

-- no slot before this index passes the test
abbrev pub AsFrom : {A : Type 0} → (A → Bool) → ℕ → List A → Type 0
AsFrom test i xs = list_any test (drop i xs) ≡ list_any test xs

pub step : {A : Type 0} (test : A → Bool) (xs : List A) (i : ℕ) (x : A) → Some x ≡ slice_get xs i → test x ≡ false → AsFrom test i xs → AsFrom test (i + 1) xs
step test xs i x e off was =
    let next : i + 1 ≡ suc i = omega arith in
    ap (λ k. list_any test (drop k xs)) next ∙ sym (ap (λ t. t || list_any test (drop (suc i) xs)) off) ∙ sym (ap (list_any test) (drop_at xs i x e)) ∙ was

pub found : {A : Type 0} (test : A → Bool) (xs : List A) (i : ℕ) (x : A) → Some x ≡ slice_get xs i → test x ≡ true → AsFrom test i xs → true ≡ list_any test xs
found test xs i x e on was =
    sym (ap (λ t. t || list_any test (drop (suc i) xs)) on) ∙ sym (ap (list_any test) (drop_at xs i x e)) ∙ was

pub none_at : {A : Type 0} (test : A → Bool) (xs : List A) (i : ℕ) → None ≡ slice_get xs i → AsFrom test i xs → false ≡ list_any test xs
none_at test xs i e was = sym (ap (list_any test) (drop_none xs i e)) ∙ was

pub none_past : {A : Type 0} (test : A → Bool) (xs : List A) (i : ℕ) → length xs ≤ i → AsFrom test i xs → false ≡ list_any test xs
none_past test xs i h was = sym (ap (list_any test) (drop_past xs i h)) ∙ was
