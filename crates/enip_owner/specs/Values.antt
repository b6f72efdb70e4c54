-- Values in a line of an owner, and their bytes.
use Rattle.std.specs.Prelude.{◌≡◌, ◌≢◌, ◌<◌, ◌≤◌, ℕ, ◌+◌, ◌-◌, ◌*◌, ◌&&◌, nat_lt, nat_le, if◌then◌else◌, Bool, true, false, List, [], ◌∷◌, ◌++◌, length, codes}
use Rattle.std.specs.Prelude.{Option, Some, None}
use Rattle.std.specs.Option.{option_map}
use Rattle.cip_values.specs.Parsing.{AreWritten, IsWriteFault}
use Rattle.cip_values.specs.declared.element.ElementaryType.{ElementaryType}
use Rattle.cip_values.specs.declared.element.ElementaryType.TheVariants as types
use Rattle.cip_values.specs.declared.element.ValueType.{ValueType}
use Rattle.cip_values.specs.declared.fault.ValueFault.{ValueFault}
use Rattle.cip_values.specs.declared.fault.ValueFault.TheVariants as value_faults
use Rattle.enip_owner.specs.declared.written_values.Kind.{Kind}
use Rattle.enip_owner.specs.declared.written_values.Kind.TheVariants as kinds
use Rattle.enip_owner.specs.declared.written_values.ValuesFault.{ValuesFault}
use Rattle.enip_owner.specs.declared.written_values.ValuesFault.TheVariants as faults
use Rattle.enip_owner.specs.Requests.{Given, Truth, Number, Text}

-- What a value of a type is in JSON.
abbrev pub kind_of : ElementaryType → Kind
kind_of types.Bool = kinds.Truth
kind_of types.Real = kinds.Real
kind_of types.Lreal = kinds.Real
kind_of types.ShortString = kinds.ShortText
kind_of types.String = kinds.Text
kind_of types.String2 = kinds.Text
kind_of types.Epath = kinds.Text
kind_of types.Date = kinds.Text
kind_of types.TimeOfDay = kinds.Text
kind_of types.DateAndTime = kinds.Text
kind_of element = kinds.Number

-- A value as the word that `cip_values` parses. None if it is of another kind.
abbrev pub word_in : Kind → Given → Option (List ℕ)
word_in kinds.Truth (Truth truth) = Some (if truth then codes "true" else codes "false")
word_in kinds.Number (Number text) = Some text
word_in kinds.Real (Number text) = Some text
word_in kinds.Real (Text text) = Some text
word_in kinds.Text (Text text) = Some text
word_in kind value = None

-- ---- texts of one byte for each character (ISO 8859-1)

-- The two bytes in UTF-8 of a character from U+0080 to U+00FF.
abbrev pub is_pair : ℕ → ℕ → Bool
is_pair lead next = nat_le 194 lead && nat_le lead 195 && (nat_le 128 next && nat_le next 191)

-- The character.
abbrev pub pair_byte : ℕ → ℕ → ℕ
pair_byte lead next = 64 * (lead - 192) + (next - 128)

-- The characters of a text in UTF-8, if all of them are up to U+00FF.
unfoldable pub latin_bytes : List ℕ → Option (List ℕ)
latin_bytes [] = Some []
latin_bytes (byte ∷ []) = if nat_lt byte 128 then Some (byte ∷ []) else None
latin_bytes (byte ∷ next ∷ rest) =
    if nat_lt byte 128 then option_map (λ bytes. byte ∷ bytes) (latin_bytes (next ∷ rest))
    else if is_pair byte next then option_map (λ bytes. pair_byte byte next ∷ bytes) (latin_bytes rest) else None

-- The first character of a text, and the rest, if the text has one and it is up to U+00FF.
abbrev pub IsFirstLatin : List ℕ → Option (ℕ × List ℕ) → Type 0
IsFirstLatin text None = 0 < length text → latin_bytes text ≡ None
IsFirstLatin text (Some read) = latin_bytes text ≡ option_map (λ bytes. read.0 ∷ bytes) (latin_bytes read.1)

-- ---- one value

-- A type of one value.
abbrev pub one_of : ElementaryType → ValueType
one_of element = record { element = element; is_list = false }

-- A SHORT_STRING: the number of its bytes, and the bytes.
pub record IsShortText (text bytes : List ℕ) : Type 0 where
  pub latin : List ℕ
  pub latin_is : latin_bytes text ≡ Some latin
  pub short : length latin < 256
  pub bytes_are : bytes ≡ length latin ∷ latin

-- The word of a value is parsed as these bytes.
pub record IsWord (kind : Kind) (element : ElementaryType) (value : Given) (bytes : List ℕ) : Type 0 where
  pub word : List ℕ
  pub word_is : word_in kind value ≡ Some word
  pub written : AreWritten (one_of element) (word ∷ []) bytes

abbrev pub IsBytesBy : Kind → ElementaryType → Given → List ℕ → Type 0
IsBytesBy kinds.ShortText element (Text text) bytes = IsShortText text bytes
IsBytesBy kind element value bytes = IsWord kind element value bytes

-- These are the bytes of a value.
abbrev pub IsBytes : ElementaryType → Given → List ℕ → Type 0
IsBytes element value bytes = IsBytesBy (kind_of element) element value bytes

-- The bytes of a SHORT_STRING are appended.
pub record AppendsShortText (text old new : List ℕ) : Type 0 where
  pub bytes : List ℕ
  pub are : IsShortText text bytes
  pub appended : new ≡ old ++ bytes

-- The bytes of a word are appended.
pub record AppendsWord (kind : Kind) (element : ElementaryType) (value : Given) (old new : List ℕ) : Type 0 where
  pub bytes : List ℕ
  pub are : IsWord kind element value bytes
  pub appended : new ≡ old ++ bytes

-- The bytes of a value are appended.
pub record AppendsGiven (element : ElementaryType) (value : Given) (old new : List ℕ) : Type 0 where
  pub bytes : List ℕ
  pub are : IsBytes element value bytes
  pub appended : new ≡ old ++ bytes

-- Why a string is not a SHORT_STRING: a character is beyond U+00FF, or it has more than 255 characters.
abbrev pub IsShortTextFault : List ℕ → ValuesFault → Type 0
IsShortTextFault text faults.Kind = latin_bytes text ≡ None
IsShortTextFault text faults.Range = (latin : List ℕ) × ((latin_bytes text ≡ Some latin) × (256 ≤ length latin))
IsShortTextFault text faults.Memory = Unit {0}
IsShortTextFault text faults.Count = ⊥

-- The word is not of the type.
pub record IsNoValue (kind : Kind) (element : ElementaryType) (value : Given) : Type 0 where
  pub word : List ℕ
  pub word_is : word_in kind value ≡ Some word
  pub why : ValueFault
  pub refused : IsWriteFault (one_of element) (word ∷ []) why
  pub not_memory : why ≢ value_faults.Memory

-- Why a value is not one of a type: it is of another kind, or its word is not of the type.
abbrev pub IsWordFault : Kind → ElementaryType → Given → ValuesFault → Type 0
IsWordFault kind element value faults.Kind = word_in kind value ≡ None
IsWordFault kind element value faults.Range = IsNoValue kind element value
IsWordFault kind element value faults.Memory = Unit {0}
IsWordFault kind element value faults.Count = ⊥

abbrev pub IsFaultBy : Kind → ElementaryType → Given → ValuesFault → Type 0
IsFaultBy kinds.ShortText element (Text text) fault = IsShortTextFault text fault
IsFaultBy kind element value fault = IsWordFault kind element value fault

abbrev pub IsValueFault : ElementaryType → Given → ValuesFault → Type 0
IsValueFault element value fault = IsFaultBy (kind_of element) element value fault

-- ---- all values

-- The bytes of these values, one after another.
abbrev pub EachIsBytes : ElementaryType → List Given → List ℕ → Type 0
EachIsBytes element [] bytes = bytes ≡ []
EachIsBytes element (value ∷ values) bytes =
    (front back : List ℕ) × IsBytes element value front × EachIsBytes element values back × (bytes ≡ front ++ back)

-- The bytes of these values of a type: any number of values for a list, otherwise one.
pub record AreGivenBytes (value_type : ValueType) (values : List Given) (bytes : List ℕ) : Type 0 where
  pub each : EachIsBytes value_type.element values bytes
  pub one : value_type.is_list ≡ false → length values ≡ 1

-- The first value that is refused, and why. Those before it are not.
pub record IsFirstFault (element : ElementaryType) (values : List Given) (fault : ValuesFault) : Type 0 where
  pub before : List Given
  pub value : Given
  pub behind : List Given
  pub bytes : List ℕ
  pub place : values ≡ before ++ value ∷ behind
  pub each : EachIsBytes element before bytes
  pub refused : IsValueFault element value fault

-- Why values are not values of a type.
abbrev pub IsGivenFault : ValueType → List Given → ValuesFault → Type 0
IsGivenFault value_type values faults.Count = (value_type.is_list ≡ false) × (length values ≢ 1)
IsGivenFault value_type values faults.Memory = Unit {0}
IsGivenFault value_type values fault = IsFirstFault value_type.element values fault
