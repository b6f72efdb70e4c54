use Rattle.std.proofs.Common.{◌≡◌, ℕ, List, [], ◌∷◌, Bool, true, false, not, ◌||◌, ◌↔◌, IsTrue, length, String, Vec, BTreeMap, Global, refl, ap, ◌∙◌, arith}
use Rattle.std.specs.List.{list_any}
use Rattle.std.proofs.lemmas.Bool.{false≢true}
use Rattle.toml.specs.Data.{table}
use Rattle.toml.specs.View.{view, items_view, members_view}
use Rattle.toml.proofs.Views.{Entry, view-Array, view-Table}
use Rattle.toml.specs.declared.value.Value.{Value, Array, Table}
use Rattle.enip_config.specs.Known.{has_key, any_has_key, has_other_keys, any_has_other_keys, has_other_keys_within, object_has_other_keys, any_object_has_other_keys, has_other_keys_in_objects}

-- The values of an array, seen as data.
pub any_key : (vs : List Value) → list_any (λ v. has_key (view v)) vs ≡ any_has_key (items_view vs)
any_key [] = refl
any_key (v ∷ vs) = ap (λ rest. has_key (view v) || rest) (any_key vs)

pub any_other_keys : (known : List (List ℕ)) (vs : List Value) → list_any (λ v. has_other_keys known (view v)) vs ≡ any_has_other_keys known (items_view vs)
any_other_keys known [] = refl
any_other_keys known (v ∷ vs) = ap (λ rest. has_other_keys known (view v) || rest) (any_other_keys known vs)

pub any_object_keys : (vs : List Value) → list_any (λ v. object_has_other_keys (view v)) vs ≡ any_object_has_other_keys (items_view vs)
any_object_keys [] = refl
any_object_keys (v ∷ vs) = ap (λ rest. object_has_other_keys (view v) || rest) (any_object_keys vs)

-- A table with a member.
pub some_member : (b : Bool) (es : List Entry) → (IsTrue b ↔ (length es ≡ 0)) → not b ≡ has_key (table (members_view es))
some_member true [] empty = refl
some_member false [] empty = absurd (false≢true (empty.1 refl))
some_member true (e ∷ es) empty = absurd (omega (arith, empty.0 refl))
some_member false (e ∷ es) empty = refl

-- An array and a table, as values.
pub array_key : (v : Value) (vs : Vec Value Global) → v ≡ Array vs → list_any (λ w. has_key (view w)) vs.items ≡ has_key (view v)
array_key v vs is = any_key vs.items ∙ rw (is, view-Array vs) refl

pub array_other_keys : (known : List (List ℕ)) (v : Value) (vs : Vec Value Global) → v ≡ Array vs
    → list_any (λ w. has_other_keys known (view w)) vs.items ≡ has_other_keys_within known (view v)
array_other_keys known v vs is = any_other_keys known vs.items ∙ rw (is, view-Array vs) refl

pub array_object_keys : (v : Value) (vs : Vec Value Global) → v ≡ Array vs
    → list_any (λ w. object_has_other_keys (view w)) vs.items ≡ has_other_keys_in_objects (view v)
array_object_keys v vs is = any_object_keys vs.items ∙ rw (is, view-Array vs) refl

pub table_key : (v : Value) (m : BTreeMap (String Global) Value) → v ≡ Table m → has_key (table (members_view m.entries)) ≡ has_key (view v)
table_key v m is = rw (is, view-Table m) refl
