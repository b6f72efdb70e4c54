-- Numbers on the wire (Volume 1, elementary data types): little-endian.
use Rattle.std.specs.Prelude.{ℕ, ◌+◌, ◌*◌, ◌<◌, ◌^◌, List, [], ◌∷◌, slice_index}
use Rattle.byteorder.specs.Endian.{little_bytes, little_from}

-- The n bytes of v, least first.
abbrev pub le : ℕ → ℕ → List ℕ
le n v = little_bytes n v

-- Each element is a byte. (So is the 0 that `slice_index` gives past the end.)
abbrev pub AreBytes : List ℕ → Type 0
AreBytes bs = (i : ℕ) → slice_index bs i < 2 ^ 8

-- Each element is a 16-bit number.
abbrev pub AreWords : List ℕ → Type 0
AreWords ws = (i : ℕ) → slice_index ws i < 2 ^ 16

-- The 16-bit numbers that these bytes spell, two bytes each. A last single byte is left out.
abbrev pub words_of : List ℕ → List ℕ
words_of [] = []
words_of (a ∷ []) = []
words_of (a ∷ b ∷ rest) = (a + 256 * b) ∷ words_of rest

-- The number spelled by the n bytes at an offset, least first.
abbrev pub number_at : ℕ → ℕ → List ℕ → ℕ
number_at place n bytes = little_from place n bytes
