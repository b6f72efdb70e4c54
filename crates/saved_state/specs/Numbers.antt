-- Numbers of four and of eight bytes, least byte first (Volume 1, elementary data types, UDINT and ULINT).
use Rattle.std.specs.Prelude.{ℕ, List}
use Rattle.cip_bytes.specs.Numbers.{le, number_at}

-- The bytes of a number.
unfoldable pub udint : ℕ → List ℕ
udint v = le 4 v

unfoldable pub ulint : ℕ → List ℕ
ulint v = le 8 v

-- The number at an offset.
unfoldable pub udint_at : ℕ → List ℕ → ℕ
udint_at offset bytes = number_at offset 4 bytes

unfoldable pub ulint_at : ℕ → List ℕ → ℕ
ulint_at offset bytes = number_at offset 8 bytes
