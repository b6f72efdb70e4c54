-- Parsing a word as a value.
use Rattle.std.specs.Prelude.{◌≡◌, ◌≢◌, ◌⊎◌, ◌==◌, ◌<◌, ◌≤◌, ◌*◌, ◌/◌, ◌%◌, ◌^◌, [], length, ⊤, ℕ, ℤ, pos, neg_ℤ, Bool, true, false, ◌&&◌, List, ◌∷◌, ◌++◌, codes, None, Some, to_bits, unsigned_abs, slice_index, take, drop}
use Rattle.std.specs.Char.{is_digit}
use Rattle.std.specs.Float.{Format, binary32, binary64, float_is_infinite}
use Rattle.std.specs.Float.Ieee.{Float}
use Rattle.std.specs.Float.Parse.{parse_float}
use Rattle.std.specs.List.{list_any, AllByRecursion}
use Rattle.std.specs.Str.Parse.{IsNumeral, digits_value}
use Rattle.cip_values.specs.Values.{Value, Truth, Signed, Unsigned, Bits, Real, Lreal, Day, Clock, IsSignedOf, IsUnsignedOf, IsOf, AreBytesOf, spelled, counted}
use Rattle.cip_values.specs.Types.{form_of, size_of, unit_of, unit_size}
use Rattle.cip_values.specs.Times.{IsParsedDate, IsParsedClock, IsParsedInstant, IsDateFault, IsClockFault, IsInstantFault}
use Rattle.cip_values.specs.Texts.{escaped_text, Unescapes, IsBadlyEscaped}
use Rattle.cip_values.specs.declared.element.ElementaryType.{ElementaryType}
use Rattle.cip_values.specs.declared.element.ElementaryType.TheVariants as types
use Rattle.cip_values.specs.declared.element.ValueType.{ValueType}
use Rattle.cip_values.specs.declared.element.Form.{Form}
use Rattle.cip_values.specs.declared.element.Form.TheVariants as forms
use Rattle.cip_values.specs.declared.fault.ValueFault.{ValueFault}
use Rattle.cip_values.specs.declared.fault.ValueFault.TheVariants as faults
use Rattle.cip_values.specs.declared.parsing.ParseFault.{ParseFault}
use Rattle.cip_values.specs.declared.parsing.ParseFault.TheVariants as parse_faults

-- The words of a BOOL.
abbrev pub ParsesAsBool : List ℕ → Bool → Type 0
ParsesAsBool word false = (word ≡ codes "0") ⊎ (word ≡ codes "false")
ParsesAsBool word true = (word ≡ codes "1") ⊎ (word ≡ codes "true")

-- An integer: decimal digits, or a minus sign and decimal digits for one that is not above 0.
abbrev pub ParsesAsInteger : List ℕ → ℤ → Type 0
ParsesAsInteger word number =
    (IsNumeral 10 word × (number ≡ pos (digits_value 10 word)))
    ⊎ ((digits : List ℕ) × ((word ≡ codes "-" ++ digits) × IsNumeral 10 digits × (number ≡ neg_ℤ (pos (digits_value 10 digits)))))

-- The bits of a bit string, as a number: an integer, or `0x` and hexadecimal digits.
abbrev pub ParsesAsBits : List ℕ → ℤ → Type 0
ParsesAsBits word number =
    ParsesAsInteger word number
    ⊎ ((digits : List ℕ) × ((word ≡ codes "0x" ++ digits) × IsNumeral 16 digits × (number ≡ pos (digits_value 16 digits))))

-- An unsigned number of this size: an integer. One of 8 bytes, as an originator or a life is, may be in hexadecimal, too.
abbrev pub ParsesAsSized : Bool → List ℕ → ℤ → Type 0
ParsesAsSized false word number = ParsesAsInteger word number
ParsesAsSized true word number = ParsesAsBits word number

abbrev pub ParsesAsUnsigned : ℕ → List ℕ → ℤ → Type 0
ParsesAsUnsigned size word number = ParsesAsSized (size == 8) word number

-- The word has a decimal digit. `inf` and `nan` have none.
abbrev pub has_digit : List ℕ → Bool
has_digit word = list_any (λ byte. is_digit byte 10) word

-- The word is a decimal number, and the number of the format nearest to it is infinite.
abbrev pub overflows : List ℕ → Float → Bool
overflows word x = float_is_infinite x && has_digit word

-- The bits of the number of the format that is nearest to a decimal number, and finite; or those of `inf` or `nan`.
abbrev pub ParsesAsFloat : Format → List ℕ → ℕ → Type 0
ParsesAsFloat format word bits =
    (x : Float) × ((parse_float format word ≡ Some x) × (overflows word x ≡ false) × (bits ≡ to_bits format x))

-- The decimal number that the word spells is beyond the numbers of the format.
abbrev pub IsBeyond : Format → List ℕ → Type 0
IsBeyond format word = (x : Float) × ((parse_float format word ≡ Some x) × (overflows word x ≡ true))

-- A date, `T` and a time of day.
abbrev pub ParsesAsInstant : List ℕ → Value → Type 0
ParsesAsInstant word value =
    (11 ≤ length word) × (slice_index word 10 ≡ 84) × IsParsedInstant (take 10 word) (drop 11 word) value

-- The word parses as this value, of this kind. Strings and paths are parsed by `ParsesAsText`.
abbrev pub ParsesAs : Form → List ℕ → Value → Type 0
ParsesAs forms.Bool word (Truth truth) = ParsesAsBool word truth
ParsesAs (forms.Signed n) word (Signed number) = ParsesAsInteger word number
ParsesAs (forms.Unsigned n) word (Unsigned number) = ParsesAsUnsigned n word (pos number)
ParsesAs (forms.Bits n) word (Bits number) = ParsesAsBits word (pos number)
ParsesAs forms.Real word (Real bits) = ParsesAsFloat binary32 word bits
ParsesAs forms.Lreal word (Lreal bits) = ParsesAsFloat binary64 word bits
ParsesAs forms.Date word (Day date) = IsParsedDate word date
ParsesAs forms.TimeOfDay word (Clock clock) = IsParsedClock word clock
ParsesAs forms.DateAndTime word value = ParsesAsInstant word value
ParsesAs form word value = ⊥

-- The word without the unit at its end, or the whole word if the unit is not there.
abbrev pub IsWithoutUnit : List ℕ → List ℕ → List ℕ → Type 0
IsWithoutUnit unit word text =
    (word ≡ text ++ unit) ⊎ ((text ≡ word) × ((front : List ℕ) → word ≡ front ++ unit → ⊥))

-- The word, without its unit, parses as this value.
abbrev pub ParsesAsNumber : ElementaryType → List ℕ → Value → Type 0
ParsesAsNumber element word value =
    (text : List ℕ) × (IsWithoutUnit (unit_of element) word text × ParsesAs (form_of element) text value)

-- A string or a path, without its escapes; in a list it may be in quotes.
abbrev pub ParsesAsText : Form → Bool → List ℕ → List ℕ → Type 0
ParsesAsText form is_list word bytes = Unescapes form (escaped_text is_list word) bytes []

-- A kind whose values are strings or paths.
abbrev pub IsText : Form → Type 0
IsText (forms.Text n) = ⊤
IsText forms.Wide = ⊤
IsText forms.Path = ⊤
IsText form = ⊥

-- The first fact for a kind whose values are strings or paths, and the second for any other.
abbrev pub IfText : Form → Type 0 → Type 0 → Type 0
IfText (forms.Text n) P Q = P
IfText forms.Wide P Q = P
IfText forms.Path P Q = P
IfText form P Q = Q

-- A kind whose values are dates or times of day.
abbrev pub IsTimed : Form → Type 0
IsTimed forms.Date = ⊤
IsTimed forms.TimeOfDay = ⊤
IsTimed forms.DateAndTime = ⊤
IsTimed form = ⊥

-- The word is the text of this string or path.
abbrev pub ParsesAsCounted : ValueType → List ℕ → Value → Type 0
ParsesAsCounted value_type word value =
    (bytes : List ℕ) × (ParsesAsText (form_of value_type.element) value_type.is_list word bytes
    × (value ≡ counted (form_of value_type.element) bytes))

-- The word parses as this value, of this type.
abbrev pub ParsesAsOf : ValueType → List ℕ → Value → Type 0
ParsesAsOf value_type word value =
    IfText (form_of value_type.element) (ParsesAsCounted value_type word value) (ParsesAsNumber value_type.element word value)

-- Why a word is not a DATE_AND_TIME: it has no `T` behind ten characters, or one of its parts is refused.
abbrev pub IsDateAndTimeFault : List ℕ → ParseFault → Type 0
IsDateAndTimeFault word parse_faults.Form =
    (length word < 11) ⊎ ((slice_index word 10 ≢ 84) ⊎ IsInstantFault (take 10 word) (drop 11 word) parse_faults.Form)
IsDateAndTimeFault word parse_faults.Range =
    (11 ≤ length word) × (slice_index word 10 ≡ 84) × IsInstantFault (take 10 word) (drop 11 word) parse_faults.Range

-- Why a word does not parse as a value of this kind. For strings and paths this is `IsTextFault`.
abbrev pub IsParseFault : Form → List ℕ → ParseFault → Type 0
IsParseFault forms.Bool word parse_faults.Form = (truth : Bool) → ParsesAsBool word truth → ⊥
IsParseFault (forms.Signed n) word parse_faults.Form = (number : ℤ) → ParsesAsInteger word number → ⊥
IsParseFault (forms.Unsigned n) word parse_faults.Form = (number : ℤ) → ParsesAsUnsigned n word number → ⊥
IsParseFault (forms.Bits n) word parse_faults.Form = (number : ℤ) → ParsesAsBits word number → ⊥
IsParseFault forms.Real word parse_faults.Form = parse_float binary32 word ≡ None
IsParseFault forms.Lreal word parse_faults.Form = parse_float binary64 word ≡ None
IsParseFault forms.Date word fault = IsDateFault word fault
IsParseFault forms.TimeOfDay word fault = IsClockFault word fault
IsParseFault forms.DateAndTime word fault = IsDateAndTimeFault word fault
IsParseFault (forms.Text n) word parse_faults.Form = ⊤
IsParseFault forms.Wide word parse_faults.Form = ⊤
IsParseFault forms.Path word parse_faults.Form = ⊤
IsParseFault (forms.Signed n) word parse_faults.Range = (number : ℤ) × (ParsesAsInteger word number × (IsSignedOf n number → ⊥))
IsParseFault (forms.Unsigned n) word parse_faults.Range = (number : ℤ) × (ParsesAsUnsigned n word number × (IsUnsignedOf n number → ⊥))
IsParseFault (forms.Bits n) word parse_faults.Range = (number : ℤ) × (ParsesAsBits word number × (IsUnsignedOf n number → ⊥))
IsParseFault forms.Real word parse_faults.Range = IsBeyond binary32 word
IsParseFault forms.Lreal word parse_faults.Range = IsBeyond binary64 word
IsParseFault form word parse_faults.Range = ⊥

-- The number of the word, without its unit, has this fault.
abbrev pub IsNumberFault : ElementaryType → List ℕ → ParseFault → Type 0
IsNumberFault element word fault =
    (text : List ℕ) × (IsWithoutUnit (unit_of element) word text × IsParseFault (form_of element) text fault)

-- Why a word is refused as a value of a type other than a string or a path.
abbrev pub IsWordFault : ElementaryType → List ℕ → ValueFault → Type 0
IsWordFault element word (faults.Form text type) = (text.now ≡ word) × (type ≡ element) × IsNumberFault element word parse_faults.Form
IsWordFault element word (faults.Range text type) = (text.now ≡ word) × (type ≡ element) × IsNumberFault element word parse_faults.Range
IsWordFault element word faults.Memory = ⊤
IsWordFault element word fault = ⊥

-- The text of a string or a path has this many characters or words, more than the type can have.
abbrev pub IsOversized : ValueType → List ℕ → ℕ → Type 0
IsOversized value_type word count =
    (bytes : List ℕ) × (ParsesAsText (form_of value_type.element) value_type.is_list word bytes
    × (length bytes / unit_size (form_of value_type.element) ≡ count) × (2 ^ (8 * size_of (form_of value_type.element)) ≤ count))

-- The fault of a string or a path that is too long.
abbrev pub oversized : ElementaryType → ℕ → ValueFault
oversized types.ShortString count = faults.TooLong count
oversized element count = faults.Oversized element count

-- The text is no string, or no path of whole words.
abbrev pub IsMalformed : ValueType → List ℕ → Type 0
IsMalformed value_type word =
    IsBadlyEscaped (form_of value_type.element) (escaped_text value_type.is_list word)
    ⊎ ((bytes : List ℕ) × (ParsesAsText (form_of value_type.element) value_type.is_list word bytes
    × (length bytes % unit_size (form_of value_type.element) ≢ 0)))

-- Why a word is refused as a string or a path: it is malformed, or longer than the type can be.
abbrev pub IsTextFault : ValueType → List ℕ → ValueFault → Type 0
IsTextFault value_type word (faults.Form text type) =
    (text.now ≡ word) × (type ≡ value_type.element) × IsMalformed value_type word
IsTextFault value_type word (faults.TooLong count) = (value_type.element ≡ types.ShortString) × IsOversized value_type word count
IsTextFault value_type word (faults.Oversized type count) =
    (type ≡ value_type.element) × (type ≢ types.ShortString) × IsOversized value_type word count
IsTextFault value_type word faults.Memory = ⊤
IsTextFault value_type word fault = ⊥

-- Why a word is refused as a value of a type.
abbrev pub IsRefusedWord : ValueType → List ℕ → ValueFault → Type 0
IsRefusedWord value_type word fault =
    IfText (form_of value_type.element) (IsTextFault value_type word fault) (IsWordFault value_type.element word fault)

-- The word parses as a value, and the value's bytes are appended.
pub record Appends (value_type : ValueType) (word old new : List ℕ) : Type 0 where
  pub value : Value
  pub parses : ParsesAsOf value_type word value
  pub of_type : IsOf (form_of value_type.element) value
  pub bytes_of : new ≡ old ++ spelled (size_of (form_of value_type.element)) value

-- The bytes are appended as a string or a path of this kind, which they fit.
pub record IsAppended (form : Form) (bytes old new : List ℕ) : Type 0 where
  pub of_type : IsOf form (counted form bytes)
  pub bytes_of : new ≡ old ++ spelled (size_of form) (counted form bytes)

-- Each word parses as its value.
abbrev pub AllParseAs : ValueType → List (List ℕ) → List Value → Type 0
AllParseAs value_type [] [] = ⊤
AllParseAs value_type (word ∷ words) (value ∷ values) =
    ParsesAsOf value_type word value × AllParseAs value_type words values
AllParseAs value_type [] (value ∷ values) = ⊥
AllParseAs value_type (word ∷ words) [] = ⊥

-- The words parse as values of the type, one each, and these are the values' bytes.
pub record AreWritten (value_type : ValueType) (words : List (List ℕ)) (bytes : List ℕ) : Type 0 where
  pub values : List Value
  pub parses : AllParseAs value_type words values
  pub bytes_of : AreBytesOf value_type bytes values

-- A type of one value is not given exactly one word.
abbrev pub IsMiscounted : ValueType → ℕ → ValueFault → Type 0
IsMiscounted value_type words (faults.Count element count) =
    (value_type.is_list ≡ false) × (element ≡ value_type.element) × (count ≡ words) × (count ≢ 1)
IsMiscounted value_type words fault = ⊥

-- The first word that is refused, and why. Those before it parse.
pub record IsFirstRefused (value_type : ValueType) (words : List (List ℕ)) (fault : ValueFault) : Type 0 where
  pub before : List (List ℕ)
  pub word : List ℕ
  pub behind : List (List ℕ)
  pub values : List Value
  pub place : words ≡ before ++ word ∷ behind
  pub parses : AllParseAs value_type before values
  pub of_type : AllByRecursion (IsOf (form_of value_type.element)) values
  pub refused : IsRefusedWord value_type word fault

-- Why words are refused.
abbrev pub IsWriteFault : ValueType → List (List ℕ) → ValueFault → Type 0
IsWriteFault value_type words faults.Memory = ⊤
IsWriteFault value_type words fault =
    IsMiscounted value_type (length words) fault ⊎ IsFirstRefused value_type words fault

-- The number is one that the word parses as, or both are past 64 bits.
abbrev pub Clamps : (ℤ → Type 0) → ℤ → Type 0
Clamps Told number = (z : ℤ) × (Told z × ((number ≡ z) ⊎ ((2 ^ 64 ≤ unsigned_abs z) × (2 ^ 64 ≤ unsigned_abs number))))
