-- Sets by peers are reported, each of them once. What the device writes is not a set.
use Rattle.std.proofs.Common.{◌≡◌, ℕ, zero, suc, ◌+◌, ◌-◌, ◌%◌, ◌^◌, ◌<◌, ◌≤◌, ◌==◌, ◌&&◌, nat_le, Bool, true, false, cond, if◌then◌else◌, List, [], ◌∷◌, length, Option, Some, None, unwrap_or, refl, sym, ap, subst, ◌∙◌, arith}
use Rattle.std.specs.Prelude.{option_map}
use Rattle.std.specs.Option.{option_and_then}
use Rattle.std.proofs.Math.Nat.{mod-eq_of_lt}
use Rattle.std.proofs.lemmas.Bool.{eqb-true, eq-eqb, and_parts, and_from, false≢true, cases_Bool, false_from_ne_true}
use Rattle.std.proofs.lemmas.Option.{none-some, same_Some}
use Rattle.cip_application.specs.Values.{Writing, from_offset}
use Rattle.cip_bytes.specs.declared.protocol.TheConstants.{ASSEMBLY}
use Rattle.cip_objects.specs.Changes.{Tally, is_key, changes_at, one_more, counted_in}
use Rattle.cip_objects.specs.ChangeServices.{with_bytes_at}
use Rattle.cip_objects.specs.Contents.{Contents, bytes_at, with_value}
use Rattle.cip_objects.specs.DeviceWrites.{device_write, object_write, object_by, with_attribute_by, with_data_of}
use Rattle.cip_objects.specs.ObjectMap.{Key, key}
use Rattle.cip_ledger.specs.Withdrawing.{withdrawal_result}
use Rattle.cip_owner.specs.Owned.{OwnedState}
use Rattle.cip_objects.specs.Tables.{Shape, AttributeShape, shape_at, object_at, attribute_at}
use Rattle.enip_adapter.specs.Calls.{AdapterState, after_call}
use Rattle.enip_adapter.specs.Calls.Call.{Writes}
use Rattle.enip_adapter.specs.OwnWrites.{OwnWrite, WritesData, WritesAttribute, SetsStatus, SetsState, Prepares, Settles, Finishes, Marks, Withdraws, attribute_write}
use Rattle.enip_adapter.proofs.SettleLemmas.{finished-router}
use Rattle.enip_adapter.proofs.WithdrawalLemmas.{by-ticket}
use Rattle.owner_port.specs.declared.set_count.SetCount.{SetCount}
use Rattle.owner_port.specs.Sets.{tallies_in, key_of, count_of, sets_since, after_sets, how_often, reports_law, own_write_law}

-- ---- what the device writes

data_changes : (m : Contents) (instance offset : ℕ) (bytes : List ℕ) (found : Option Shape)
    → (unwrap_or (with_data_of m instance offset bytes found) m).changes ≡ m.changes
data_changes m instance offset bytes None = refl
data_changes m instance offset bytes (Some s) =
    go (nat_le (offset + length bytes) (length (bytes_at m ASSEMBLY instance 3)))
  where
    go : (fits : Bool) → (unwrap_or (if fits then
        Some (with_value m ASSEMBLY instance 3 (with_bytes_at (bytes_at m ASSEMBLY instance 3) offset bytes)) else None) m).changes
        ≡ m.changes
    go true = refl
    go false = refl

pub device_write-changes : (m : Contents) (instance offset : ℕ) (bytes : List ℕ)
    → (unwrap_or (device_write m instance offset bytes) m).changes ≡ m.changes
unfolding device_write
device_write-changes m instance offset bytes = data_changes m instance offset bytes (shape_at instance m.shapes.assemblies)

attribute_changes : (how : Writing) (m : Contents) (class instance attribute : ℕ) (found : Option AttributeShape)
    → (unwrap_or (with_attribute_by how m class instance attribute found) m).changes ≡ m.changes
attribute_changes how m class instance attribute None = refl
attribute_changes how m class instance attribute (Some a) = go (how a.kind (bytes_at m class instance attribute))
  where
    go : (value : Option (List ℕ)) → (unwrap_or (option_map (with_value m class instance attribute) value) m).changes ≡ m.changes
    go None = refl
    go (Some value) = refl

pub object_write-changes : (m : Contents) (class instance attribute offset : ℕ) (bytes : List ℕ)
    → (unwrap_or (object_write m class instance attribute offset bytes) m).changes ≡ m.changes
unfolding object_write
object_write-changes m class instance attribute offset bytes =
    attribute_changes (from_offset offset bytes) m class instance attribute
    (option_and_then (λ o. attribute_at attribute o.attributes) (object_at class instance m.shapes.objects))

pub attribute_write-changes : (m : Contents) (class instance attribute offset : ℕ) (bytes : List ℕ)
    → (unwrap_or (attribute_write m class instance attribute offset bytes) m).changes ≡ m.changes
attribute_write-changes m class instance attribute offset bytes = go ((class == ASSEMBLY) && (attribute == 3))
  where
    go : (is : Bool) → (unwrap_or (if is then device_write m instance offset bytes
        else object_write m class instance attribute offset bytes) m).changes ≡ m.changes
    go true = device_write-changes m instance offset bytes
    go false = object_write-changes m class instance attribute offset bytes

pub own_write : own_write_law
own_write a (WritesData instance offset bytes) =
    device_write-changes a.state.shared.objects.router.objects instance offset bytes
own_write a (WritesAttribute class instance attribute offset bytes) =
    attribute_write-changes a.state.shared.objects.router.objects class instance attribute offset bytes
own_write a (SetsStatus status) = refl
own_write a (SetsState state) = refl
own_write a (Prepares reply) = refl
own_write a (Settles originator number reply) = refl
own_write a (Finishes ticket reply) = refl
own_write a (Marks ticket) = refl
own_write a (Withdraws request) =
    let device = a.state.shared.objects in
    by-ticket (λ d ticket. d.router.objects.changes ≡ device.router.objects.changes) device request refl
    (λ ledger w is facts. refl)
    (λ ledger w ticket is facts of not_handed some.
    ap (λ (o : OwnedState). o.objects.changes) (finished-router ticket withdrawal_result device))

-- ---- keys

is_key-same : (a b : Key) → is_key a b ≡ true → a ≡ b
is_key-same a b is =
    let parts = and_parts (a.class == b.class) ((a.instance == b.instance) && (a.attribute == b.attribute)) is in
    let more = and_parts (a.instance == b.instance) (a.attribute == b.attribute) parts.1 in
    let class : a.class ≡ b.class = eqb-true a.class b.class parts.0 in
    let instance : a.instance ≡ b.instance = eqb-true a.instance b.instance more.0 in
    let attribute : a.attribute ≡ b.attribute = eqb-true a.attribute b.attribute more.1 in
    ap (λ n. key n a.instance a.attribute) class ∙ ap (λ n. key b.class n a.attribute) instance
    ∙ ap (λ n. key b.class b.instance n) attribute

is_key-refl : (a : Key) → is_key a a ≡ true
is_key-refl a =
    and_from (a.class == a.class) ((a.instance == a.instance) && (a.attribute == a.attribute)) (eq-eqb a.class a.class refl)
    (and_from (a.instance == a.instance) (a.attribute == a.attribute) (eq-eqb a.instance a.instance refl)
    (eq-eqb a.attribute a.attribute refl))

is_key-other : (a b : Key) → is_key a b ≡ false → is_key b a ≡ false
is_key-other a b is =
    false_from_ne_true (is_key b a) (λ (same : is_key b a ≡ true).
    false≢true (sym is ∙ subst (λ k. is_key k b ≡ true) (is_key-same b a same) (is_key-refl b)))

-- ---- counts after sets

-- The count of a key after a set of another one, or of itself.
abbrev after_one : Bool → ℕ → ℕ
after_one same n = if same then one_more n else n

counted-head : (k other : Key) (t : Tally) (tallies : List Tally) (n : ℕ) (own its : Bool) → is_key t.of_key k ≡ own
    → is_key t.of_key other ≡ its → changes_at k (t ∷ tallies) ≡ Some n
    → (changes_at k tallies ≡ Some n → changes_at k (counted_in other tallies) ≡ Some (after_one (is_key k other) n))
    → changes_at k (counted_in other (t ∷ tallies)) ≡ Some (after_one (is_key k other) n)
counted-head k other t tallies n true true own its at more =
    let same : is_key k other ≡ true = subst (λ j. is_key j other ≡ true) (is_key-same t.of_key k own) its in
    let is : t.changes ≡ n = same_Some t.changes n (rw own at at) in
    rw (its, own, same) (ap (λ m. Some (one_more m)) is)
counted-head k other t tallies n true false own its at more =
    let same : is_key k other ≡ false = subst (λ j. is_key j other ≡ false) (is_key-same t.of_key k own) its in
    rw (its, own, same) (rw own at at)
counted-head k other t tallies n false true own its at more =
    let same : is_key k other ≡ false =
    is_key-other other k (subst (λ j. is_key j k ≡ false) (is_key-same t.of_key other its) own) in
    rw (its, own, same) (rw own at at)
counted-head k other t tallies n false false own its at more = rw (its, own) (more (rw own at at))

counted-at : (k other : Key) (tallies : List Tally) (n : ℕ) → changes_at k tallies ≡ Some n
    → changes_at k (counted_in other tallies) ≡ Some (after_one (is_key k other) n)
counted-at k other [] n at = absurd (none-some n at)
counted-at k other (t ∷ tallies) n at =
    counted-head k other t tallies n (is_key t.of_key k) (is_key t.of_key other) refl refl at (counted-at k other tallies n)

-- ---- numbers that wrap

abbrev one_or_none : Bool → ℕ
one_or_none same = if same then 1 else 0

small : (n : ℕ) → n < 2 ^ 32 → n ≡ (n + 0) % 2 ^ 32
small n below = let e : n + 0 ≡ n = omega arith in sym (ap (λ k. k % 2 ^ 32) e ∙ mod-eq_of_lt below)

one_step : (same : Bool) (n : ℕ) → n < 2 ^ 32 → after_one same n ≡ (n + one_or_none same) % 2 ^ 32
one_step true n below = refl
one_step false n below = small n below

twice : (a b c : ℕ) → ((a + b) % 2 ^ 32 + c) % 2 ^ 32 ≡ (a + (b + c)) % 2 ^ 32
twice a b c = omega arith

wrapped : (n : ℕ) → n % 2 ^ 32 < 2 ^ 32
wrapped n = omega arith

counted_after : (k : Key) (keys : List Key) (tallies : List Tally) (n : ℕ) → n < 2 ^ 32 → changes_at k tallies ≡ Some n
    → changes_at k (after_sets keys tallies) ≡ Some ((n + how_often k keys) % 2 ^ 32)
counted_after k [] tallies n below at = at ∙ ap (λ m. Some m) (small n below)
counted_after k (other ∷ keys) tallies n below at =
    let same = is_key k other in
    let now : changes_at k (counted_in other tallies) ≡ Some ((n + one_or_none same) % 2 ^ 32) =
    counted-at k other tallies n at ∙ ap (λ m. Some m) (one_step same n below) in
    counted_after k keys (counted_in other tallies) ((n + one_or_none same) % 2 ^ 32) (wrapped (n + one_or_none same)) now
    ∙ ap (λ m. Some m) (twice n (one_or_none same) (how_often k keys))

few_at : (same : Bool) (h n : ℕ) → h ≤ n → one_or_none same + h ≤ n + 1
few_at true h n few = omega arith
few_at false h n few = omega arith

few : (k : Key) (keys : List Key) → how_often k keys ≤ length keys
few k [] = omega arith
few k (other ∷ keys) =
    subst (λ n. one_or_none (is_key k other) + how_often k keys ≤ n) (let e : length keys + 1 ≡ length (other ∷ keys) = omega arith in e)
    (few_at (is_key k other) (how_often k keys) (length keys) (few k keys))

difference : (r h : ℕ) → r < 2 ^ 32 → h < 2 ^ 32 → ((r + h) % 2 ^ 32 + (2 ^ 32 - r)) % 2 ^ 32 ≡ h
difference r h reported sets = omega arith

pub reports : reports_law
reports count tallies keys reported short at =
    let k = key_of count.attribute in
    let now = counted_after k keys tallies count.reported reported at in
    let sets : how_often k keys < 2 ^ 32 = omega (arith, few k keys) in
    ap (λ (o : Option ℕ). (unwrap_or o 0 + (2 ^ 32 - count.reported)) % 2 ^ 32) now
    ∙ difference count.reported (how_often k keys) reported sets
