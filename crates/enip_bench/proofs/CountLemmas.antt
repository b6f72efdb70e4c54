-- Sequence counts: each is one more than the last, and 0 follows 65,535.
use Rattle.std.proofs.Common.{◌≡◌, ℕ, ◌+◌, ◌%◌, ◌^◌, ◌<◌, ◌≤◌, arith}

-- the count of the request with this number
abbrev pub count_of : ℕ → ℕ → ℕ
count_of first number = (first + number) % 65536

pub count_of-below : (first number : ℕ) → count_of first number < 2 ^ 16
count_of-below first number = omega arith

pub count_of-first : (first : ℕ) → first < 2 ^ 16 → count_of first 0 ≡ first
count_of-first first below = omega arith

pub count_of-next : (first number : ℕ) → (count_of first number + 1) % 65536 ≡ count_of first (number + 1)
count_of-next first number = omega arith

-- different numbers that are less than 65,536 apart have different counts
pub count_of-differs : (first a b : ℕ) → a < b → b ≤ a + 65535 → count_of first a ≡ count_of first b → ⊥
count_of-differs first a b above near same = omega arith
