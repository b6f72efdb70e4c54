-- A buffer: a block of bytes, of which a front is written.
use Rattle.std.specs.Prelude.{ℕ, List, ◌≡◌, ◌≤◌, length}

-- The bytes that are written.
pub record Buffer : Type 0 where
  pub items : List ℕ

-- The written size is within the block, which has `room` bytes.
abbrev pub IsWithin : ℕ → ℕ → List ℕ → Type 0
IsWithin room size block = (length block ≡ room) × (size ≤ room)
