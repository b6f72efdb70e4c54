-- A key has the name that it was made of, and no other name has it.
use Rattle.std.proofs.Common.{◌≡◌, ℕ, ◌/◌, ◌%◌, ◌^◌, ◌<◌, true, nat_lt, cond, Some, None, ap, ◌∙◌, arith}
use Rattle.std.proofs.lemmas.Bool.Decides.{nat_tests}
use Rattle.cip_objects.specs.Kept.{name_of}
use Rattle.device_state.specs.Keys.{key_of, name_in}

below : (a b : ℕ) → a < b → nat_lt a b ≡ true
below a b h = grind (arith, nat_tests)

pub record IsNarrow (class instance attribute : ℕ) : Type 0 where
  pub attribute_fits : attribute < 2 ^ 16

key_fits : (c i a : ℕ) → c < 2 ^ 16 → i < 2 ^ 16 → a < 2 ^ 16 → key_of c i a < 2 ^ 48
key_fits c i a hc hi ha = omega arith

class_back : (c i a : ℕ) → i < 2 ^ 16 → a < 2 ^ 16 → key_of c i a / 2 ^ 32 ≡ c
class_back c i a hi ha = omega arith

instance_back : (c i a : ℕ) → i < 2 ^ 16 → a < 2 ^ 16 → key_of c i a / 2 ^ 16 % 2 ^ 16 ≡ i
instance_back c i a hi ha = omega arith

attribute_back : (c i a : ℕ) → a < 2 ^ 16 → key_of c i a % 2 ^ 16 ≡ a
attribute_back c i a ha = omega arith

pub name_back : (c i a : ℕ) → c < 2 ^ 16 → i < 2 ^ 16 → a < 2 ^ 16 → name_in (key_of c i a) ≡ Some (name_of c i a)
name_back c i a hc hi ha =
    let k = key_of c i a in
    ap (λ t. cond t (Some (name_of (k / 2 ^ 32) (k / 2 ^ 16 % 2 ^ 16) (k % 2 ^ 16))) None) (below k (2 ^ 48) (key_fits c i a hc hi ha))
    ∙ ap (λ n. Some (name_of n (k / 2 ^ 16 % 2 ^ 16) (k % 2 ^ 16))) (class_back c i a hi ha)
    ∙ ap (λ n. Some (name_of c n (k % 2 ^ 16))) (instance_back c i a hi ha)
    ∙ ap (λ n. Some (name_of c i n)) (attribute_back c i a ha)

-- the parts of a key make it again
pub key_again : (k : ℕ) → key_of (k / 2 ^ 32) (k / 2 ^ 16 % 2 ^ 16) (k % 2 ^ 16) ≡ k
key_again k = omega arith
