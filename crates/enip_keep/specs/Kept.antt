-- What is kept, and what a commit makes of it.
use Rattle.std.specs.Prelude.{ℕ, ◌<◌, ◌^◌, ◌==◌, nat_lt, if◌then◌else◌, List, [], ◌∷◌, length, map}
use Rattle.enip_keep.specs.declared.entry.Entry.{Entry}

-- keys, each with its bytes, in the order of the keys
abbrev pub Kept : Type 0
Kept = List (ℕ × List ℕ)

abbrev pub pair_of : Entry → ℕ × List ℕ
pair_of e = (e.key, e.bytes.items)

abbrev pub pairs_of : List Entry → Kept
pairs_of es = map pair_of es

-- with these bytes under the key
abbrev pub set : ℕ → List ℕ → Kept → Kept
set key bytes [] = (key, bytes) ∷ []
set key bytes (p ∷ rest) =
    if p.0 == key then (key, bytes) ∷ rest
    else (if nat_lt key p.0 then (key, bytes) ∷ p ∷ rest else p ∷ set key bytes rest)

-- with these changes, the first of them first
abbrev pub set_all : Kept → Kept → Kept
set_all [] kept = kept
set_all (c ∷ cs) kept = set_all cs (set c.0 c.1 kept)

-- small enough to be kept: the key is a signed number of 64 bits, and there are at most 65,535 bytes
abbrev pub IsKeepable : Entry → Type 0
IsKeepable e = (e.key < 2 ^ 63) × (length e.bytes.items < 2 ^ 16)
