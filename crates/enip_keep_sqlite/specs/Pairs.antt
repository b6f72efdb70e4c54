-- Rows of a table with an INTEGER PRIMARY KEY and a BLOB, as pairs.
use Rattle.std.specs.Prelude.{◌≡◌, ℕ, ℤ, pos, List, [], ◌∷◌, map}
use Rattle.std.specs.List.{AllByRecursion}
use Rattle.sqlite_value.specs.declared.value.Value.{Value}
use Rattle.sqlite_value.specs.declared.value.Value.TheVariants.{Null, Int, Real, Text, Blob}
use Rattle.sqlite_value.specs.Order.{Row, column, bytes}
use Rattle.sqlite_trees.specs.Tree.{put_row}
use Rattle.enip_keep.specs.Kept.{Kept}

-- the row as it is stored, where the column of the key is NULL
abbrev pub row_of : ℕ × List ℕ → Row
row_of p = Int (pos p.0) ∷ Null ∷ Blob p.1 ∷ []

abbrev pub key_in : Value → ℕ
key_in (Int (pos n)) = n
key_in _ = 0

abbrev pub pair_in : Row → ℕ × List ℕ
pair_in r = (key_in (column r 0), bytes (column r 2))

abbrev pub pairs_in : List Row → Kept
pairs_in rows = map pair_in rows

-- the row is one that this keeper writes
abbrev pub IsOurs : Row → Type 0
IsOurs r = r ≡ row_of (pair_in r)

-- the rows after these are put, the first of them first
abbrev pub put_rows : Kept → List Row → List Row
put_rows [] rows = rows
put_rows (p ∷ ps) rows = put_rows ps (put_row (row_of p) rows)
