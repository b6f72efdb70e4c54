-- Lists whose items are identified by a number.
use Rattle.std.specs.Prelude.{ℕ, List, [], ◌∷◌, ◌==◌, if◌then◌else◌, Option, Some, None, ◌≡◌, slice_get, slice_set}
use Rattle.std.specs.Prelude.{remove}

-- The first item with this number.
abbrev pub first_with : {X : Type 0} → (X → ℕ) → ℕ → List X → Option X
first_with number n [] = None
first_with number n (x ∷ xs) = if number x == n then Some x else first_with number n xs

-- The list with this item instead of the first one with this number.
abbrev pub with_first : {X : Type 0} → (X → ℕ) → ℕ → X → List X → List X
with_first number n new [] = []
with_first number n new (x ∷ xs) = if number x == n then new ∷ xs else x ∷ with_first number n new xs

-- The list without the first item with this number.
abbrev pub without_first : {X : Type 0} → (X → ℕ) → ℕ → List X → List X
without_first number n [] = []
without_first number n (x ∷ xs) = if number x == n then xs else x ∷ without_first number n xs

-- An index that is that of the first item with a number, or past the end if there is none. The item there is the one
-- that is found, and a change or a removal is made there.
pub record IsFoundAt {X : Type 0} (item : Option X) (changed : X → List X) (removed : List X) (xs : List X) (i : ℕ)
    : Type 0 where
  pub found : item ≡ slice_get xs i
  pub set : (y : X) → changed y ≡ slice_set xs i y
  pub taken : removed ≡ remove xs i

abbrev pub IsFirstWith : {X : Type 0} → (X → ℕ) → ℕ → List X → ℕ → Type 0
IsFirstWith number n xs i =
    IsFoundAt (first_with number n xs) (λ y. with_first number n y xs) (without_first number n xs) xs i
