use Rattle.std.proofs.Common.{◌≡◌, ◌<◌, ◌+◌, List, [], ◌∷◌, ◌++◌, length, append_assoc, Option, Some, None, option_map, refl, ap, ◌∙◌, arith}
use Rattle.toml.specs.Data.{array}
use Rattle.toml.specs.View.{items_view}
use Rattle.toml.specs.declared.value.Value.{Value}
use Rattle.enip_config.specs.Keys.{address_in}
use Rattle.enip_config.specs.Objects.{two_sizes}

moved : {A : Type 0} (done : List A) (a : A) (rest : Option (List A)) → option_map (λ xs. (done ++ a ∷ []) ++ xs) rest ≡ option_map (λ xs. done ++ xs) (option_map (λ xs. a ∷ xs) rest)
moved done a None = refl
moved done a (Some xs) = ap Some (append_assoc done (a ∷ []) xs)

-- An address has four values.
pub under_four : (vs : List Value) → length vs < 4 → address_in (array (items_view vs)) ≡ None
under_four [] few = refl
under_four (a ∷ []) few = refl
under_four (a ∷ b ∷ []) few = refl
under_four (a ∷ b ∷ c ∷ []) few = refl
under_four (a ∷ b ∷ c ∷ d ∷ vs) few = absurd (omega arith)

pub over_four : (vs : List Value) → 4 < length vs → address_in (array (items_view vs)) ≡ None
over_four [] many = absurd (omega arith)
over_four (a ∷ []) many = absurd (omega arith)
over_four (a ∷ b ∷ []) many = absurd (omega arith)
over_four (a ∷ b ∷ c ∷ []) many = absurd (omega arith)
over_four (a ∷ b ∷ c ∷ d ∷ []) many = absurd (omega arith)
over_four (a ∷ b ∷ c ∷ d ∷ e ∷ vs) many = refl

-- A range of sizes has two values.
pub under_two : (vs : List Value) → length vs < 2 → two_sizes (array (items_view vs)) ≡ None
under_two [] few = refl
under_two (a ∷ []) few = refl
under_two (a ∷ b ∷ vs) few = absurd (omega arith)

pub over_two : (vs : List Value) → 2 < length vs → two_sizes (array (items_view vs)) ≡ None
over_two [] many = absurd (omega arith)
over_two (a ∷ []) many = absurd (omega arith)
over_two (a ∷ b ∷ []) many = absurd (omega arith)
over_two (a ∷ b ∷ c ∷ vs) many = refl
