-- Values as text.
use Rattle.std.specs.Prelude.{◌≡◌, ◌<◌, ◌==◌, ◌+◌, ◌*◌, ◌-◌, ◌/◌, ◌%◌, ◌^◌, ◌&&◌, ◌||◌, nat_le, nat_lt, ℕ, Bool, true, false, List, [], ◌∷◌, ◌++◌, length, drop, codes, slice_index, slice_range, Option, None, Some, option_map, if◌then◌else◌}
use Rattle.std.specs.Borrow.{Bor}
use Rattle.std.specs.Char.{is_digit, digit_value}
use Rattle.std.specs.Fmt.{decimal, signed_decimal, styled_decimal, digits, padded_integral, format_spec}
use Rattle.std.specs.List.{flat_map}
use Rattle.cip_bytes.specs.Numbers.{le, words_of}
use Rattle.cip_values.specs.Types.{size_of, form_of, unit_of}
use Rattle.cip_values.specs.Values.{Value, Truth, Signed, Unsigned, Bits, Real, Text, Lreal, Wide, Path, Day, Clock, Instant}
use Rattle.cip_values.specs.declared.calendar.Date.{Date}
use Rattle.cip_values.specs.declared.element.ElementaryType.{ElementaryType}
use Rattle.cip_values.specs.declared.element.Form.{Form}
use Rattle.cip_values.specs.declared.element.Form.TheVariants as forms

-- A number as exactly `count` hexadecimal digits, with leading zeros.
abbrev pub hexadecimal : ℕ → ℕ → List ℕ
hexadecimal count number = padded_integral (format_spec 32 0 4 count (2 ^ 64 - 1)) false [] (digits 16 false number)

-- A byte of a text: as it is if it is printable ASCII, except a backslash, and a quote if the text is in quotes.
abbrev pub escape : Bool → ℕ → List ℕ
escape quoted byte =
    if byte == 92 then 92 ∷ 92 ∷ []
    else (if byte == 34 && quoted then 92 ∷ 34 ∷ []
    else (if nat_le 32 byte && nat_le byte 126 then byte ∷ []
    else codes "\\x" ++ hexadecimal 2 byte))

abbrev pub escaped : Bool → List ℕ → List ℕ
escaped quoted bytes = flat_map (escape quoted) bytes

-- The bytes of a path in hexadecimal.
abbrev pub path_text : List ℕ → List ℕ
path_text bytes = flat_map (hexadecimal 2) bytes

-- A character of two bytes: as it is if it is printable ASCII, with the exceptions of `escape`.
abbrev pub wide_escape : Bool → ℕ → List ℕ
wide_escape quoted unit =
    if unit == 92 then 92 ∷ 92 ∷ []
    else (if unit == 34 && quoted then 92 ∷ 34 ∷ []
    else (if nat_le 32 unit && nat_le unit 126 then unit ∷ []
    else codes "\\u" ++ hexadecimal 4 unit))

abbrev pub wide_text : Bool → List ℕ → List ℕ
wide_text quoted bytes = flat_map (wide_escape quoted) (words_of bytes)

-- A string or a path, without its quotes.
abbrev pub counted_text : Bool → Value → List ℕ
counted_text quoted (Text bytes) = escaped quoted bytes
counted_text quoted (Wide bytes) = wide_text quoted bytes
counted_text quoted (Path bytes) = path_text bytes
counted_text quoted value = []

-- A decimal number of at least `count` digits, with leading zeros.
abbrev pub padded_decimal : ℕ → ℕ → List ℕ
padded_decimal count number = styled_decimal (format_spec 32 0 4 count (2 ^ 64 - 1)) number

-- A date as year, month and day.
abbrev pub date_text : Date → List ℕ
date_text date = padded_decimal 4 date.year ++ codes "-" ++ padded_decimal 2 date.month ++ codes "-" ++ padded_decimal 2 date.day

-- Hour, minute, second and milliseconds. From the milliseconds of a day on, it is no time of day: their number.
abbrev pub clock_text : ℕ → List ℕ
clock_text clock =
    if nat_le 86400000 clock then decimal clock
    else padded_decimal 2 (clock / 3600000) ++ codes ":" ++ padded_decimal 2 (clock / 60000 % 60) ++ codes ":"
    ++ padded_decimal 2 (clock / 1000 % 60) ++ codes "." ++ padded_decimal 3 (clock % 1000)

-- A string or a path, in quotes if it is in a list.
abbrev pub quoted_text : Bool → Value → List ℕ
quoted_text false value = counted_text false value
quoted_text true value = codes "\"" ++ counted_text true value ++ codes "\""

-- The text of a value. Which decimal number is printed for a REAL or an LREAL is left open.
abbrev pub text_of : ElementaryType → Bool → Value → Option (List ℕ)
text_of element quoted (Truth false) = Some (codes "0")
text_of element quoted (Truth true) = Some (codes "1")
text_of element quoted (Signed number) = Some (signed_decimal number ++ unit_of element)
text_of element quoted (Unsigned number) = Some (decimal number)
text_of element quoted (Bits number) = Some (codes "0x" ++ hexadecimal (2 * size_of (form_of element)) number)
text_of element quoted (Real bits) = None
text_of element quoted (Lreal bits) = None
text_of element quoted (Day date) = Some (date_text date)
text_of element quoted (Clock milliseconds) = Some (clock_text milliseconds)
text_of element quoted (Instant date milliseconds) = Some (date_text date ++ codes "T" ++ clock_text milliseconds)
text_of element quoted value = Some (quoted_text quoted value)

-- ---- reading a text

-- A word without its quotes, or the whole word if it is not in quotes.
abbrev pub unquoted : List ℕ → List ℕ
unquoted word =
    if nat_le 2 (length word) && (slice_index word 0 == 34) && (slice_index word (length word - 1) == 34)
    then slice_range word 1 (length word - 1) else word

-- The escaped text of a word: in a list it may be in quotes.
abbrev pub escaped_text : Bool → List ℕ → List ℕ
escaped_text true word = unquoted word
escaped_text false word = word

-- A byte and the rest, as the code returns them.
abbrev pub seen : ℕ × Bor (List ℕ) → ℕ × List ℕ
seen read = (read.0, read.1.now)

-- The byte with these two hexadecimal digits.
abbrev pub byte_of_digits : ℕ → ℕ → Option ℕ
byte_of_digits high low =
    if is_digit high 16 && is_digit low 16 then Some (16 * digit_value high + digit_value low) else None

-- The byte that is escaped after a backslash, and the rest: `\\`, `"`, or `x` and two hexadecimal digits.
abbrev pub escaped_byte : List ℕ → Option (ℕ × List ℕ)
escaped_byte [] = None
escaped_byte (first ∷ rest) =
    if first == 120 then (if nat_le 2 (length rest)
    then option_map (λ byte. (byte, drop 2 rest)) (byte_of_digits (slice_index rest 0) (slice_index rest 1)) else None)
    else (if first == 92 || first == 34 then Some (first, rest) else None)

-- The first byte of an escaped text, and the rest.
abbrev pub first_byte : List ℕ → Option (ℕ × List ℕ)
first_byte [] = None
first_byte (byte ∷ rest) = if byte == 92 then escaped_byte rest else Some (byte, rest)

-- The first byte of a path in hexadecimal digits, and the rest.
abbrev pub first_pair : List ℕ → Option (ℕ × List ℕ)
first_pair text =
    if nat_le 2 (length text)
    then option_map (λ byte. (byte, drop 2 text)) (byte_of_digits (slice_index text 0) (slice_index text 1)) else None

abbrev pub two_bytes : Option ℕ → Option ℕ → Option ℕ
two_bytes (Some high) (Some low) = Some (256 * high + low)
two_bytes high low = None

-- The character with these four hexadecimal digits.
abbrev pub unit_of_digits : List ℕ → Option ℕ
unit_of_digits digits =
    two_bytes (byte_of_digits (slice_index digits 0) (slice_index digits 1))
    (byte_of_digits (slice_index digits 2) (slice_index digits 3))

-- The character that is escaped after a backslash, and the rest: `\\`, `"`, or `u` and four hexadecimal digits.
abbrev pub escaped_unit : List ℕ → Option (ℕ × List ℕ)
escaped_unit [] = None
escaped_unit (first ∷ rest) =
    if first == 117 then (if nat_le 4 (length rest)
    then option_map (λ unit. (unit, drop 4 rest)) (unit_of_digits rest) else None)
    else (if first == 92 || first == 34 then Some (first, rest) else None)

-- The first character of an escaped text of ASCII, and the rest.
abbrev pub first_unit : List ℕ → Option (ℕ × List ℕ)
first_unit [] = None
first_unit (byte ∷ rest) = if byte == 92 then escaped_unit rest else (if nat_lt byte 128 then Some (byte, rest) else None)

-- The first character of the text of a string or a path, and the rest.
abbrev pub first_piece : Form → List ℕ → Option (ℕ × List ℕ)
first_piece forms.Wide text = first_unit text
first_piece forms.Path text = first_pair text
first_piece form text = first_byte text

-- How many bytes a character has.
abbrev pub piece_size : Form → ℕ
piece_size forms.Wide = 2
piece_size form = 1

-- The text begins with these bytes, each character as it is or escaped, and the rest follows.
pub data Unescapes (form : Form) (text : List ℕ) : List ℕ → List ℕ → Type 0 where
  Start : Unescapes form text [] text
  More : {bytes rest behind : List ℕ} {number : ℕ} → Unescapes form text bytes rest
      → first_piece form rest ≡ Some (number, behind) → Unescapes form text (bytes ++ le (piece_size form) number) behind

-- After some bytes, what follows is no character: a backslash before what it does not escape, or no digits.
pub record IsBadlyEscaped (form : Form) (text : List ℕ) : Type 0 where
  pub bytes : List ℕ
  pub rest : List ℕ
  pub before : Unescapes form text bytes rest
  pub more : 0 < length rest
  pub bad : first_piece form rest ≡ None
