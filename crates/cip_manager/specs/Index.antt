-- The index of the open connections by their O->T IDs, and how many steps a search in it takes.
--
-- `Entry` is the record that `src/index.rt` declares: the ID of an open connection, and the key under which that
-- connection is kept.
use Rattle.std.specs.Prelude.{ℕ, ◌<◌, List, [], ◌∷◌, map, length, ⊤}
use Rattle.std.specs.List.{AllByRecursion}
use Rattle.std.specs.Int.Digits.{digits_of}
use Rattle.cip_manager.specs.declared.index.Entry.{Entry}

abbrev pub ids : List Entry → List ℕ
ids entries = map (λ entry. entry.id) entries

abbrev pub keys : List Entry → List ℕ
keys entries = map (λ entry. entry.key) entries

-- Each number is below the later ones.
abbrev pub Rises : List ℕ → Type 0
Rises [] = ⊤
Rises (n ∷ ns) = AllByRecursion (λ later. n < later) ns × Rises ns

-- How many binary digits a number has. 0 has none.
abbrev pub binary_digits : ℕ → ℕ
binary_digits n = length (digits_of 2 n)
