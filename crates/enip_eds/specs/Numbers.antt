-- The values of Params as text.
use Rattle.std.specs.Prelude.{◌≡◌, ◌<◌, ◌^◌, ◌-◌, ◌&&◌, ℕ, nat_le, nat_lt, List, [], ◌++◌, length, drop, codes, decimal, IsTrue, IsFalse}
use Rattle.std.specs.Prelude.{Option, Some, None, from_bits, if◌then◌else◌}
use Rattle.std.specs.Float.{Format, binary32, binary64, float_is_finite}
use Rattle.std.specs.Float.Parse.{parse_float}
use Rattle.byteorder.specs.Endian.{little_number}
use Rattle.cip_values.specs.declared.element.ElementaryType.{ElementaryType}
use Rattle.cip_values.specs.declared.element.ElementaryType.TheVariants as types
use Rattle.enip_eds.specs.Texts.{capitals, quoted}

-- A number in two's complement, whose negative numbers begin at the bits `half`.
abbrev pub signed : ℕ → ℕ → List ℕ
signed half bits = if nat_lt bits half then decimal bits else codes "-" ++ decimal (half - (bits - half))

-- The bits of a value other than a floating-point number: a bit string in hexadecimal, anything else in decimal.
abbrev pub exact_text : ElementaryType → ℕ → List ℕ
exact_text types.Sint bits = signed 0x80 bits
exact_text types.Int bits = signed 0x8000 bits
exact_text types.Dint bits = signed 0x80000000 bits
exact_text types.Time bits = signed 0x80000000 bits
exact_text types.Lint bits = signed 0x8000000000000000 bits
exact_text types.Ltime bits = signed 0x8000000000000000 bits
exact_text types.Byte bits = codes "0x" ++ capitals 2 bits
exact_text types.Word bits = codes "0x" ++ capitals 4 bits
exact_text types.Dword bits = codes "0x" ++ capitals 8 bits
exact_text types.Lword bits = codes "0x" ++ capitals 16 bits
exact_text element bits = decimal bits

-- The bits of a floating-point number as text: a decimal number that is read as this number, which one is left open. There
-- is no text for an infinite number, and none for NaN.
pub record IsFloatText (format : Format) (bits : ℕ) (text : List ℕ) : Type 0 where
  pub finite : IsTrue (float_is_finite (from_bits format bits)) → parse_float format text ≡ Some (from_bits format bits)
  pub other : IsFalse (float_is_finite (from_bits format bits)) → text ≡ []

-- The bits of a number as text.
abbrev pub IsNumberText : ElementaryType → ℕ → List ℕ → Type 0
IsNumberText types.Real bits text = bits < 2 ^ 32 → IsFloatText binary32 bits text
IsNumberText types.Lreal bits text = IsFloatText binary64 bits text
IsNumberText element bits text = text ≡ exact_text element bits

-- A bound of a value as text: that of the configuration, or else that of the type.
abbrev pub IsBoundText : ElementaryType → Option ℕ → List ℕ → List ℕ → Type 0
IsBoundText element None limit text = text ≡ limit
IsBoundText element (Some bits) limit text = IsNumberText element bits text

-- The bits that up to eight bytes spell.
abbrev pub bits_in : List ℕ → Option ℕ
bits_in bytes =
    if nat_le 1 (length bytes) && nat_le (length bytes) 8 then Some (little_number (length bytes) bytes) else None

-- The bytes of a number as text.
abbrev pub IsBytesText : ElementaryType → Option ℕ → List ℕ → Type 0
IsBytesText element None text = text ≡ []
IsBytesText element (Some bits) text = IsNumberText element bits text

-- The value at the start as text. A SHORT_STRING has its length before its text.
abbrev pub IsStartText : ElementaryType → List ℕ → List ℕ → Type 0
IsStartText types.ShortString bytes text = text ≡ quoted (drop 1 bytes)
IsStartText element bytes text = IsBytesText element (bits_in bytes) text
