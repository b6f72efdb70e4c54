-- A limit of this adapter (our choice).
use Rattle.std.specs.Prelude.{ℕ}

-- The most bytes of an assembly's data. No attribute has a longer value.
abbrev pub LONGEST_DATA : ℕ
LONGEST_DATA = 3900
