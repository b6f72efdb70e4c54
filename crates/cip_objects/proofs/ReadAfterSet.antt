-- What is read at one key after a value was set at another, or at the same.
use Rattle.std.proofs.Common.{◌≡◌, ℕ, ◌<◌, ◌^◌, eqb, true, false, cond, ◌&&◌, List, [], Some, unwrap_or, ap, ◌∙◌, arith}
use Rattle.std.proofs.lemmas.Bool.Decides.{nat_tests}
use Rattle.std.specs.FinMap.{get-insert}
use Rattle.byteorder.specs.Endian.{little_bytes, little_number}
use Rattle.cip_objects.specs.ObjectMap.{key}
use Rattle.cip_objects.specs.Contents.{Contents, value_at, udint_at, with_value, with_change}
use Rattle.cip_objects.proofs.Map.{key_total, tied}
use Rattle.cip_objects.proofs.Numbers.{number-bytes}

pub value_at-with_value : (m : Contents) (c i a : ℕ) (v : List ℕ) (d j b : ℕ) → value_at (with_value m c i a v) d j b ≡ cond (eqb d c && (eqb j i && eqb b a)) (Some v) (value_at m d j b)
value_at-with_value m c i a v d j b =
    get-insert key_total m.values (key c i a) v (key d j b)
    ∙ ap (λ t. cond t (Some v) (value_at m d j b)) (tied (key d j b) (key c i a))

all_same : (c i a : ℕ) → eqb c c && (eqb i i && eqb a a) ≡ true
all_same c i a = grind (arith, nat_tests)

-- what was set is read
pub value_at-same : (m : Contents) (c i a : ℕ) (v : List ℕ) → value_at (with_value m c i a v) c i a ≡ Some v
value_at-same m c i a v = value_at-with_value m c i a v c i a ∙ ap (λ t. cond t (Some v) (value_at m c i a)) (all_same c i a)

-- every other key keeps its value
pub value_at-other : (m : Contents) (c i a : ℕ) (v : List ℕ) (d j b : ℕ) → eqb d c && (eqb j i && eqb b a) ≡ false → value_at (with_value m c i a v) d j b ≡ value_at m d j b
value_at-other m c i a v d j b h = value_at-with_value m c i a v d j b ∙ ap (λ t. cond t (Some v) (value_at m d j b)) h

pub udint_at-same : (m : Contents) (c i a : ℕ) (v : List ℕ) → udint_at (with_value m c i a v) c i a ≡ little_number 4 v
unfolding udint_at
udint_at-same m c i a v = ap (λ o. little_number 4 (unwrap_or o [])) (value_at-same m c i a v)

pub udint_at-other : (m : Contents) (c i a : ℕ) (v : List ℕ) (d j b : ℕ) → eqb d c && (eqb j i && eqb b a) ≡ false → udint_at (with_value m c i a v) d j b ≡ udint_at m d j b
unfolding udint_at
udint_at-other m c i a v d j b h = ap (λ o. little_number 4 (unwrap_or o [])) (value_at-other m c i a v d j b h)

-- also if the change was counted
pub udint_at-changed : (m : Contents) (c i a : ℕ) (v : List ℕ) → udint_at (with_change m c i a v) c i a ≡ little_number 4 v
unfolding udint_at
udint_at-changed m c i a v = ap (λ o. little_number 4 (unwrap_or o [])) (value_at-same m c i a v)

pub udint_at-elsewhere : (m : Contents) (c i a : ℕ) (v : List ℕ) (d j b : ℕ) → eqb d c && (eqb j i && eqb b a) ≡ false → udint_at (with_change m c i a v) d j b ≡ udint_at m d j b
unfolding udint_at
udint_at-elsewhere m c i a v d j b h = ap (λ o. little_number 4 (unwrap_or o [])) (value_at-other m c i a v d j b h)

-- a number that was set is read again
pub udint_at-set : (m : Contents) (c i a n : ℕ) → n < 2 ^ 32 → udint_at (with_value m c i a (little_bytes 4 n)) c i a ≡ n
udint_at-set m c i a n h = udint_at-same m c i a (little_bytes 4 n) ∙ number-bytes n h
