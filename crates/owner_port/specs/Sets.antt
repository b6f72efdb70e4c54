-- The sets of attributes by peers, and which of them are reported.
use Rattle.std.specs.Prelude.{◌≡◌, ◌<◌, ℕ, ◌+◌, ◌-◌, ◌%◌, ◌^◌, if◌then◌else◌, List, [], ◌∷◌, length, unwrap_or, Some}
use Rattle.std.specs.List.{AllByRecursion}
use Rattle.cip_objects.specs.Changes.{Tally, is_key, changes_at, counted_in}
use Rattle.cip_objects.specs.ObjectMap.{Key, key}
use Rattle.enip_adapter.specs.Calls.{AdapterState, after_call}
use Rattle.enip_adapter.specs.Calls.Call.{Writes}
use Rattle.enip_adapter.specs.OwnWrites.{OwnWrite}
use Rattle.enip_owner.specs.declared.attribute_ref.AttributeRef.{AttributeRef}
use Rattle.owner_port.specs.declared.set_count.SetCount.{SetCount}

-- What the device counts.
abbrev pub tallies_in : AdapterState → List Tally
tallies_in a = a.state.shared.objects.router.objects.changes

abbrev pub key_of : AttributeRef → Key
key_of attribute = key attribute.class attribute.instance attribute.attribute

abbrev pub count_of : List Tally → AttributeRef → ℕ
count_of tallies attribute = unwrap_or (changes_at (key_of attribute) tallies) 0

-- The sets that were not reported. Counts are numbers of 32 bits.
abbrev pub sets_since : List Tally → SetCount → ℕ
sets_since tallies count = (count_of tallies count.attribute + (2 ^ 32 - count.reported)) % 2 ^ 32

abbrev pub with_reported : List Tally → SetCount → SetCount
with_reported tallies count = record count { reported = count_of tallies count.attribute }

abbrev pub new_count : List Tally → AttributeRef → SetCount
new_count tallies attribute = record { attribute = attribute; reported = count_of tallies attribute }

-- Every set was reported.
abbrev pub AreCounted : List Tally → List SetCount → Type 0
AreCounted tallies counts = AllByRecursion (λ (count : SetCount). count.reported ≡ count_of tallies count.attribute) counts

-- ---- the laws

-- The counts of a device after sets of these attributes, one after the other.
abbrev pub after_sets : List Key → List Tally → List Tally
after_sets [] tallies = tallies
after_sets (k ∷ keys) tallies = after_sets keys (counted_in k tallies)

-- How often a key is among these.
abbrev pub how_often : Key → List Key → ℕ
how_often k [] = 0
how_often k (other ∷ keys) = (if is_key k other then 1 else 0) + how_often k keys

-- Of an attribute that the device counts, and whose sets were reported, as many sets are reported as peers have made since:
-- each of them, and no other.
abbrev pub reports_law : Type 0
reports_law =
    (count : SetCount) (tallies : List Tally) (keys : List Key) → count.reported < 2 ^ 32 → length keys < 2 ^ 32
    → changes_at (key_of count.attribute) tallies ≡ Some count.reported
    → sets_since (after_sets keys tallies) count ≡ how_often (key_of count.attribute) keys

-- What the device itself writes is not a set.
abbrev pub own_write_law : Type 0
own_write_law = (a : AdapterState) (write : OwnWrite) → tallies_in (after_call a (Writes write)) ≡ tallies_in a
