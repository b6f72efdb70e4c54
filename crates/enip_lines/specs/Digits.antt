-- Bytes as hexadecimal digits.
use Rattle.std.specs.Prelude.{ℕ, ◌==◌, not, List, Option}
use Rattle.std.specs.Result.{result_ok}
use Rattle.std.specs.List.{filter}
use Rattle.hex.specs.Hex.{decode_of}

-- A text without spaces.
abbrev pub without_spaces : List ℕ → List ℕ
without_spaces text = filter (λ byte. not (byte == 32)) text

-- The bytes that a text spells in hexadecimal, two digits per byte, with spaces anywhere.
abbrev pub bytes_spelled : List ℕ → Option (List ℕ)
bytes_spelled text = result_ok (decode_of (without_spaces text))
