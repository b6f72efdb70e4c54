-- The index of the first item with a number.
use Rattle.std.proofs.Common.{◌≡◌, ℕ, suc, ◌+◌, ◌<◌, ◌≤◌, List, [], ◌∷◌, Bool, true, false, cond, not, eqb, ltb, ltb-true, ltb-false, zero, get_or, Some, None, length, refl, ap, subst, arith}
use Rattle.std.specs.Prelude.{slice_get, MatchOption}
use Rattle.std.specs.List.{position_or_len, position}
use Rattle.enip_adapter.specs.Lookup.{first_with, with_first, without_first, IsFoundAt, IsFirstWith}

pub IsFirstWith-position_or_len : {X : Type 0} → (number : X → ℕ) (n : ℕ) (xs : List X)
    → IsFirstWith number n xs (position_or_len (λ x. eqb (number x) n) xs)
IsFirstWith-position_or_len number n [] = record { found = refl; set = λ y. refl; taken = refl }
IsFirstWith-position_or_len {X} number n (x ∷ xs) =
    let rest : IsFirstWith number n xs (position_or_len (λ y. eqb (number y) n) xs) = IsFirstWith-position_or_len number n xs in
    let next : suc (position_or_len (λ y. eqb (number y) n) xs) ≡ 1 + position_or_len (λ y. eqb (number y) n) xs = omega arith in
    elim (eqb (number x) n) as (
    λ b. IsFoundAt {X = X} (cond b (Some x) (first_with number n xs)) (λ y. cond b (y ∷ xs) (x ∷ with_first number n y xs))
    (cond b xs (x ∷ without_first number n xs)) (x ∷ xs)
    (cond (not b) (1 + position_or_len (λ y. eqb (number y) n) xs) 0)
    ) [
      | true ↦ record { found = refl; set = λ y. refl; taken = refl }
      | false ↦ subst (
          λ i. IsFoundAt {X = X} (first_with number n xs) (λ y. x ∷ with_first number n y xs) (x ∷ without_first number n xs) (x ∷ xs) i
          ) next
          (record {
            found = rest.found;
            set = λ y. ap (λ ys. x ∷ ys) (rest.set y);
            taken = ap (λ ys. x ∷ ys) rest.taken;
          })
    ]

position_or_len-le : {X : Type 0} → (p : X → Bool) (xs : List X) → position_or_len p xs ≤ length xs
position_or_len-le p [] = omega arith
position_or_len-le p (x ∷ xs) =
    let rest : position_or_len p xs ≤ length xs = position_or_len-le p xs in
    elim (p x) as (λ b. cond (not b) (1 + position_or_len p xs) 0 ≤ suc (length xs)) [
      | true ↦ omega arith
      | false ↦ omega arith
    ]

-- what the first index is at which a test passes
pub IsFirstWith-position : {X : Type 0} → (number : X → ℕ) (n : ℕ) (xs : List X)
    → MatchOption (position (λ x. eqb (number x) n) xs) (IsFirstWith number n xs (length xs))
    (λ i. (i < length xs) × IsFirstWith number n xs i)
IsFirstWith-position {X} number n xs =
    let there : IsFirstWith number n xs (position_or_len (λ x. eqb (number x) n) xs) = IsFirstWith-position_or_len number n xs in
    go (ltb (position_or_len (λ x. eqb (number x) n) xs) (length xs)) refl there
  where
    go : (b : Bool) → ltb (position_or_len (λ x. eqb (number x) n) xs) (length xs) ≡ b
        → IsFirstWith number n xs (position_or_len (λ x. eqb (number x) n) xs)
        → MatchOption (cond b (Some (position_or_len (λ x. eqb (number x) n) xs)) None) (IsFirstWith number n xs (length xs))
        (λ i. (i < length xs) × IsFirstWith number n xs i)
    go true e there = (ltb-true _ _ e, there)
    go false e there =
        let past : position_or_len (λ x. eqb (number x) n) xs ≡ length xs
        = omega (arith, ltb-false (position_or_len (λ x. eqb (number x) n) xs) (length xs) e, position_or_len-le (λ x. eqb (number x) n) xs) in
        subst (λ i. IsFirstWith number n xs i) past there

pub first-Some : {X : Type 0} → (number : X → ℕ) (n : ℕ) (xs : List X) (i : ℕ)
    → position (λ x. eqb (number x) n) xs ≡ Some i → (i < length xs) × IsFirstWith number n xs i
first-Some number n xs i e =
    subst (λ o. MatchOption o (IsFirstWith number n xs (length xs)) (λ k. (k < length xs) × IsFirstWith number n xs k)) e
    (IsFirstWith-position number n xs)

pub first-None : {X : Type 0} → (number : X → ℕ) (n : ℕ) (xs : List X)
    → position (λ x. eqb (number x) n) xs ≡ None → IsFirstWith number n xs (length xs)
first-None number n xs e =
    subst (λ o. MatchOption o (IsFirstWith number n xs (length xs)) (λ k. (k < length xs) × IsFirstWith number n xs k)) e
    (IsFirstWith-position number n xs)

-- past the end nothing is found, changed or removed
pub slice_get-past : {X : Type 0} → (xs : List X) → slice_get xs (length xs) ≡ None
slice_get-past [] = refl
slice_get-past (x ∷ xs) = slice_get-past xs

pub slice_get-within : {X : Type 0} → (xs : List X) (i : ℕ) (d : X) → i < length xs → slice_get xs i ≡ Some (get_or xs i d)
slice_get-within [] i d h = absurd (omega arith)
slice_get-within (x ∷ xs) zero d h = refl
slice_get-within (x ∷ xs) (suc i) d h = slice_get-within xs i d (omega arith)
