-- The types of own attributes: their names, their values, and the ranges of numbers.
use Rattle.std.specs.Prelude.{ℕ, suc, pos, negsuc, ◌+◌, ◌-◌, ◌*◌, ◌==◌, Bool, true, false, not, ◌&&◌, nat_le, nat_lt}
use Rattle.std.specs.Prelude.{if◌then◌else◌, min, List, [], ◌∷◌, ◌++◌, length, replicate, codes, bytes_eq, Option, Some, None}
use Rattle.std.specs.Prelude.{option_map, option_and_then, unwrap_or, to_bits}
use Rattle.std.specs.List.{position_or_len, before_first, after_first}
use Rattle.std.specs.Float.{Float, binary32, binary64, float_is_infinite, round_to_format}
use Rattle.std.specs.Float.Ieee.{of_int}
use Rattle.toml.specs.Data.{Data, string, integer, float, boolean, array, Items, no_items, item, Members, get_member}
use Rattle.toml.specs.Data.{as_str}
use Rattle.cip_bytes.specs.Numbers.{le}
use Rattle.cip_values.specs.Types.{name_of, form_of, size_of}
use Rattle.cip_values.specs.declared.element.ElementaryType.{ElementaryType}
use Rattle.cip_values.specs.declared.element.ElementaryType.TheVariants as elements
use Rattle.cip_application.specs.declared.kind.AttributeKind.{AttributeKind}
use Rattle.cip_application.specs.declared.kind.AttributeKind.TheVariants as kinds
use Rattle.cip_application.specs.declared.number.NumberRange.{NumberRange}
use Rattle.cip_application.specs.declared.number.NumberType.{NumberType}
use Rattle.cip_application.specs.declared.number.NumberType.TheVariants as numbers
use Rattle.attribute_types.specs.declared.attribute_type.AttributeType.{AttributeType}
use Rattle.attribute_types.specs.declared.attribute_type.AttributeType.TheVariants.{One, Array, ShortString, Bytes}
use Rattle.attribute_types.specs.declared.typed.TypedValue.{TypedValue}
use Rattle.attribute_types.specs.Values.{both, number_in, read_or}

-- ---- names

-- every elementary type
abbrev pub every_element : List ElementaryType
every_element =
    elements.Bool ∷ elements.Sint ∷ elements.Int ∷ elements.Dint ∷ elements.Lint ∷ elements.Usint ∷ elements.Uint
    ∷ elements.Udint ∷ elements.Ulint ∷ elements.Byte ∷ elements.Word ∷ elements.Dword ∷ elements.Lword
    ∷ elements.Real ∷ elements.ShortString ∷ elements.Lreal ∷ elements.String ∷ elements.String2 ∷ elements.Epath
    ∷ elements.Date ∷ elements.TimeOfDay ∷ elements.DateAndTime ∷ elements.Time ∷ elements.Ltime ∷ []

-- the first of these types with this name
abbrev pub element_among : List ElementaryType → List ℕ → Option ElementaryType
element_among [] name = None
element_among (element ∷ others) name =
    if bytes_eq name (name_of element) then Some element else element_among others name

unfoldable pub known_element : List ℕ → Option ElementaryType
known_element name = element_among every_element name

-- strings with longer counts, paths, dates and times of day are no types of attributes
abbrev pub own_element : ElementaryType → Option ElementaryType
own_element elements.String = None
own_element elements.String2 = None
own_element elements.Epath = None
own_element elements.Date = None
own_element elements.TimeOfDay = None
own_element elements.DateAndTime = None
own_element element = Some element

abbrev pub element_named : List ℕ → Option ElementaryType
element_named name = option_and_then own_element (known_element name)

-- a count with one more decimal digit, up to 16 bits
abbrev pub with_digit : ℕ → ℕ → Option ℕ
with_digit count byte =
    if (nat_le 48 byte && nat_le byte 57) && nat_le (10 * count + (byte - 48)) 0xffff
    then Some (10 * count + (byte - 48)) else None

-- the count that decimal digits spell, up to the closing bracket at the end
abbrev pub count_from : ℕ → List ℕ → Option ℕ
count_from count [] = None
count_from count (byte ∷ rest) =
    if byte == 93 then (if length rest == 0 then Some count else None)
    else option_and_then (λ more. count_from more rest) (with_digit count byte)

-- a type with a count: an array, or a SHORT_STRING of up to that many bytes
abbrev pub counted_element : ℕ → ElementaryType → Option AttributeType
counted_element count elements.ShortString = if nat_le count 0xff then Some (ShortString count) else None
counted_element count element = Some (Array element count)

abbrev pub counted_type : List ℕ → ℕ → Option AttributeType
counted_type base count =
    if bytes_eq base (codes "BYTES") then Some (Bytes count)
    else option_and_then (counted_element count) (element_named base)

-- a type without a count: one value
abbrev pub single_type : ElementaryType → AttributeType
single_type elements.ShortString = ShortString 0xff
single_type element = One element

-- an opening bracket
abbrev pub is_opening : ℕ → Bool
is_opening byte = byte == 91

-- The type with this name: `UINT`, `UINT[4]`, `SHORT_STRING[32]` or `BYTES[12]`.
abbrev pub type_named : List ℕ → Option AttributeType
type_named name =
    if nat_lt (position_or_len is_opening name) (length name)
    then option_and_then (counted_type (before_first is_opening name)) (count_from 0 (after_first is_opening name))
    else option_map single_type (element_named name)

-- ---- the bytes of values

-- two's complement: the bits from `half` on are the negative numbers
abbrev pub signed_bits : ℕ → Data → Option ℕ
signed_bits half (integer (pos n)) = if nat_lt n half then Some n else None
signed_bits half (integer (negsuc n)) = if nat_lt n half then Some (half + (half - suc n)) else None
signed_bits half _ = None

-- true, false, or the same as a number
abbrev pub truth_bits : Data → Option ℕ
truth_bits (boolean true) = Some 1
truth_bits (boolean false) = Some 0
truth_bits value = number_in 0 1 value

-- the nearest single-precision number to a number that is not beyond all of them
abbrev pub rounded_bits : Float → Float → Option ℕ
rounded_bits number nearest =
    if float_is_infinite nearest && not (float_is_infinite number) then None else Some (to_bits binary32 nearest)

abbrev pub real_bits : Data → Option ℕ
real_bits (float number) = rounded_bits number (round_to_format binary32 number)
real_bits (integer number) = Some (to_bits binary32 (of_int binary32 number))
real_bits _ = None

abbrev pub lreal_bits : Data → Option ℕ
lreal_bits (float number) = Some (to_bits binary64 number)
lreal_bits (integer number) = Some (to_bits binary64 (of_int binary64 number))
lreal_bits _ = None

-- The bits of a value of an elementary type: the number that its bytes spell, least first.
abbrev pub element_bits : ElementaryType → Data → Option ℕ
element_bits elements.Bool value = truth_bits value
element_bits elements.Sint value = signed_bits 0x80 value
element_bits elements.Int value = signed_bits 0x8000 value
element_bits elements.Dint value = signed_bits 0x8000_0000 value
element_bits elements.Lint value = signed_bits 0x8000_0000_0000_0000 value
element_bits elements.Usint value = number_in 0 0xff value
element_bits elements.Uint value = number_in 0 0xffff value
element_bits elements.Udint value = number_in 0 0xffff_ffff value
element_bits elements.Ulint value = number_in 0 0xffff_ffff_ffff_ffff value
element_bits elements.Byte value = number_in 0 0xff value
element_bits elements.Word value = number_in 0 0xffff value
element_bits elements.Dword value = number_in 0 0xffff_ffff value
element_bits elements.Lword value = number_in 0 0xffff_ffff_ffff_ffff value
element_bits elements.Real value = real_bits value
element_bits elements.Lreal value = lreal_bits value
element_bits elements.Time value = signed_bits 0x8000_0000 value
element_bits elements.Ltime value = signed_bits 0x8000_0000_0000_0000 value
element_bits element value = None

-- the bytes of one value
abbrev pub width_of : ElementaryType → ℕ
width_of element = size_of (form_of element)

abbrev pub element_bytes : ElementaryType → Data → Option (List ℕ)
element_bytes element value = option_map (λ bits. le (width_of element) bits) (element_bits element value)

-- the bytes of several values, one after the other
abbrev pub all_bytes : ElementaryType → Items → Option (List ℕ)
all_bytes element no_items = Some []
all_bytes element (item value values) =
    option_and_then (λ bytes. option_map (λ rest. bytes ++ rest) (all_bytes element values))
    (element_bytes element value)

abbrev pub array_bytes : ElementaryType → Data → Option (List ℕ)
array_bytes element (array values) = all_bytes element values
array_bytes element _ = None

-- the bytes of a text of up to 255 bytes, after a byte with its length
abbrev pub text_bytes : Data → Option (List ℕ)
text_bytes (string text) = if nat_le (length text) 0xff then Some (length text ∷ text) else None
text_bytes _ = None

abbrev pub value_bytes : AttributeType → Data → Option (List ℕ)
value_bytes (One element) value = element_bytes element value
value_bytes (Array element count) value = array_bytes element value
value_bytes (Bytes count) value = array_bytes elements.Usint value
value_bytes (ShortString room) value = text_bytes value

-- The size of every value of a type, in 16 bits; that of a SHORT_STRING is the size of the empty text.
abbrev pub fixed_size : AttributeType → ℕ
fixed_size (One element) = width_of element
fixed_size (Array element count) = min (width_of element * count) 0xffff
fixed_size (Bytes count) = count
fixed_size (ShortString room) = 1

-- the key `value`: all zeros if it is left out
abbrev pub first_value : AttributeType → Option Data → Option (List ℕ)
first_value type value = read_or (Some (replicate (fixed_size type) 0)) (value_bytes type) value

-- ---- ranges

-- the type of the numbers that have a range
abbrev pub number_type : ElementaryType → Option NumberType
number_type elements.Sint = Some numbers.Sint
number_type elements.Int = Some numbers.Int
number_type elements.Dint = Some numbers.Dint
number_type elements.Lint = Some numbers.Lint
number_type elements.Usint = Some numbers.Usint
number_type elements.Uint = Some numbers.Uint
number_type elements.Udint = Some numbers.Udint
number_type elements.Ulint = Some numbers.Ulint
number_type elements.Real = Some numbers.Real
number_type elements.Lreal = Some numbers.Lreal
number_type elements.Time = Some numbers.Dint
number_type elements.Ltime = Some numbers.Lint
number_type element = None

-- the bits of the least and of the greatest number of a type
abbrev pub least_bits : NumberType → ℕ
least_bits numbers.Sint = 0x80
least_bits numbers.Int = 0x8000
least_bits numbers.Dint = 0x8000_0000
least_bits numbers.Lint = 0x8000_0000_0000_0000
least_bits numbers.Real = 0xff80_0000
least_bits numbers.Lreal = 0xfff0_0000_0000_0000
least_bits number = 0

abbrev pub greatest_bits : NumberType → ℕ
greatest_bits numbers.Sint = 0x7f
greatest_bits numbers.Int = 0x7fff
greatest_bits numbers.Dint = 0x7fff_ffff
greatest_bits numbers.Lint = 0x7fff_ffff_ffff_ffff
greatest_bits numbers.Usint = 0xff
greatest_bits numbers.Uint = 0xffff
greatest_bits numbers.Udint = 0xffff_ffff
greatest_bits numbers.Ulint = 0xffff_ffff_ffff_ffff
greatest_bits numbers.Real = 0x7f80_0000
greatest_bits numbers.Lreal = 0x7ff0_0000_0000_0000

abbrev pub range_from : NumberType → ℕ × ℕ → NumberRange
range_from number bounds = record { number = number; least = bounds.0; greatest = bounds.1 }

-- a bound, or these bits if it is left out
abbrev pub bound_bits : ElementaryType → Option Data → ℕ → Option ℕ
bound_bits element bound default = read_or (Some default) (element_bits element) bound

-- The range of an element's numbers. A bound that is left out is that of the type.
abbrev pub range_in : ElementaryType → Option Data → Option Data → NumberType → Option NumberRange
range_in element min max number =
    option_map (range_from number)
    (both (bound_bits element min (least_bits number)) (bound_bits element max (greatest_bits number)))

abbrev pub element_range : ElementaryType → Option Data → Option Data → Option NumberRange
element_range element min max = option_and_then (range_in element min max) (number_type element)

-- The keys `min` and `max`, which only numbers and arrays of numbers have. Without them there is no range.
abbrev pub range_of : AttributeType → Option Data → Option Data → Option (Option NumberRange)
range_of type None None = Some None
range_of (One element) min max = option_map (λ range. Some range) (element_range element min max)
range_of (Array element count) min max = option_map (λ range. Some range) (element_range element min max)
range_of type min max = None

-- ---- kinds

abbrev pub kind_of : AttributeType → Option NumberRange → AttributeKind
kind_of (ShortString room) range = kinds.ShortString room
kind_of type range = kinds.Fixed (fixed_size type) range

abbrev pub typed_seen : TypedValue → AttributeKind × List ℕ
typed_seen typed = (typed.kind, typed.value.items)

-- the kind of an attribute of this type, and its first value
abbrev pub typed_as : Members → AttributeType → Option (AttributeKind × List ℕ)
typed_as described type =
    both
    (option_map (kind_of type)
    (range_of type (get_member (codes "min") described) (get_member (codes "max") described)))
    (first_value type (get_member (codes "value") described))

abbrev pub typed_by : Members → List ℕ → Option (AttributeKind × List ℕ)
typed_by described name = option_and_then (typed_as described) (type_named name)

-- A type that does not exist, and a value or a bound that is not of the type, give an attribute of no bytes. The
-- objects refuse it.
abbrev pub untyped : AttributeKind × List ℕ
untyped = (kinds.Fixed 0 None, [])

abbrev pub typed_in : Members → Option (AttributeKind × List ℕ)
typed_in described =
    option_map (λ name. unwrap_or (typed_by described name) untyped)
    (read_or None as_str (get_member (codes "type") described))
