-- Values of elementary types as JSON.
use Rattle.std.specs.Prelude.{◌≡◌, ⊤, ℕ, ℤ, pos, negsuc, encode_utf8_all, List, [], ◌∷◌, ◌++◌, codes}
use Rattle.std.specs.Char.{encode_utf8}
use Rattle.std.specs.Char.Utf16.{utf16_lossy_chars}
use Rattle.std.specs.List.{flat_map}
use Rattle.cip_bytes.specs.Numbers.{words_of}
use Rattle.cip_values.specs.Values.{Value, Truth, Signed, Unsigned, Bits, Real, Text, Lreal, Wide, Path, Day, Clock, Instant}
use Rattle.cip_values.specs.Texts.{path_text, date_text, clock_text}
use Rattle.serde_json.specs.Data.{Data, boolean, number, unsigned, negative, string, array, Items, no_items, item, depth}

-- A number that is not negative.
abbrev pub count : ℕ → Data
count n = number (unsigned n)

-- Text from a device, which has one byte per character (ISO 8859-1).
abbrev pub latin : List ℕ → List ℕ
latin bytes = flat_map encode_utf8 bytes

-- An integer.
abbrev pub integer : ℤ → Data
integer (pos n) = number (unsigned n)
integer (negsuc n) = number (negative (negsuc n))

-- The characters of a STRING2. A surrogate without its other half becomes U+FFFD.
abbrev pub wide : List ℕ → List ℕ
wide bytes = encode_utf8_all (utf16_lossy_chars (words_of bytes))

-- A value as JSON. Of a REAL or an LREAL, this says only that it does not nest.
abbrev pub IsJsonOf : Value → Data → Type 0
IsJsonOf (Truth truth) d = d ≡ boolean truth
IsJsonOf (Signed z) d = d ≡ integer z
IsJsonOf (Unsigned n) d = d ≡ count n
IsJsonOf (Bits n) d = d ≡ count n
IsJsonOf (Real bits) d = depth d ≡ 0
IsJsonOf (Text bytes) d = d ≡ string (latin bytes)
IsJsonOf (Lreal bits) d = depth d ≡ 0
IsJsonOf (Wide bytes) d = d ≡ string (wide bytes)
IsJsonOf (Path bytes) d = d ≡ string (path_text bytes)
IsJsonOf (Day date) d = d ≡ string (date_text date)
IsJsonOf (Clock clock) d = d ≡ string (clock_text clock)
IsJsonOf (Instant date clock) d = d ≡ string (date_text date ++ codes "T" ++ clock_text clock)

-- Values as JSON, one by one and in their order.
abbrev pub EachJsonOf : List Value → Items → Type 0
EachJsonOf [] no_items = ⊤
EachJsonOf (value ∷ values) (item d ds) = IsJsonOf value d × EachJsonOf values ds
EachJsonOf values items = ⊥

abbrev pub AreJsonOf : List Value → Data → Type 0
AreJsonOf values (array items) = EachJsonOf values items
AreJsonOf values other = ⊥
