-- How many sets of an attribute by peers were executed. The device reads this (our choice: no peer can).
use Rattle.std.specs.Prelude.{ℕ, ◌+◌, ◌%◌, ◌^◌, Bool, ◌&&◌, List, [], ◌∷◌, Option, Some, None, ◌==◌, if◌then◌else◌}
use Rattle.cip_bytes.specs.declared.protocol.TheConstants.{ASSEMBLY}
use Rattle.cip_objects.specs.ObjectMap.{Key, key}

-- The count of the attribute at this key, modulo 2^32.
pub record Tally : Type 0 where
  pub of_key : Key
  pub changes : ℕ

abbrev pub is_key : Key → Key → Bool
is_key a b = (a.class == b.class) && ((a.instance == b.instance) && (a.attribute == b.attribute))

-- The count of the attribute at this key, or None if its changes are not counted.
abbrev pub changes_at : Key → List Tally → Option ℕ
changes_at k [] = None
changes_at k (t ∷ tallies) = if is_key t.of_key k then Some t.changes else changes_at k tallies

-- The key of an assembly's data.
abbrev pub data_key : ℕ → Key
data_key instance = key ASSEMBLY instance 3

-- The count of the data of this assembly, or None if there is no such assembly.
abbrev pub changes_of : ℕ → List Tally → Option ℕ
changes_of instance tallies = changes_at (data_key instance) tallies

-- The count after one more change.
abbrev pub one_more : ℕ → ℕ
one_more changes = (changes + 1) % 2 ^ 32

-- The counts after one more change of the attribute at this key.
abbrev pub counted_in : Key → List Tally → List Tally
counted_in k [] = []
counted_in k (t ∷ tallies) =
    if is_key t.of_key k then record { of_key = t.of_key; changes = one_more t.changes } ∷ tallies
    else t ∷ counted_in k tallies
