-- Values of elementary types, and their bytes (Volume 1, data types).
use Rattle.std.specs.Prelude.{◌≡◌, ◌+◌, ◌-◌, ◌*◌, ◌/◌, ◌%◌, ◌^◌, ◌<◌, ◌≤◌, ⊤, suc, ℕ, ℤ, pos, negsuc, Bool, true, false, List, [], ◌∷◌, ◌++◌, length, slice_index, MatchBool}
use Rattle.std.specs.List.{flat_map, AllByRecursion}
use Rattle.cip_bytes.specs.Numbers.{le, AreBytes, number_at}
use Rattle.cip_values.specs.Calendar.{days_of, IsDayNumber}
use Rattle.cip_values.specs.Types.{size_of, form_of}
use Rattle.cip_values.specs.declared.calendar.Date.{Date}
use Rattle.cip_values.specs.declared.element.Form.{Form}
use Rattle.cip_values.specs.declared.element.ValueType.{ValueType}
use Rattle.cip_values.specs.declared.element.Form.TheVariants as forms
use Rattle.cip_values.specs.declared.value.Value.{Value as ValueInCode}
use Rattle.cip_values.specs.declared.value.Value.TheVariants as values
use Rattle.cip_values.specs.declared.fault.ValueFault.{ValueFault}
use Rattle.cip_values.specs.declared.fault.ValueFault.TheVariants as faults

-- A value of an elementary type.
pub data Value : Type 0 where
  -- A BOOL.
  Truth : (truth : Bool) → Value
  -- A SINT, INT, DINT or LINT.
  Signed : (number : ℤ) → Value
  -- A USINT, UINT, UDINT or ULINT.
  Unsigned : (number : ℕ) → Value
  -- A BYTE, WORD, DWORD or LWORD, its bits as a number.
  Bits : (number : ℕ) → Value
  -- A REAL, as its bits.
  Real : (bits : ℕ) → Value
  -- The bytes of a SHORT_STRING or a STRING.
  Text : (bytes : List ℕ) → Value
  -- An LREAL, as its bits.
  Lreal : (bits : ℕ) → Value
  -- The bytes of a STRING2, two for each character.
  Wide : (bytes : List ℕ) → Value
  -- The bytes of an EPATH.
  Path : (bytes : List ℕ) → Value
  -- A DATE.
  Day : (date : Date) → Value
  -- A TIME_OF_DAY, in milliseconds since midnight.
  Clock : (milliseconds : ℕ) → Value
  -- A DATE_AND_TIME: a date, and milliseconds since midnight.
  Instant : (date : Date) (milliseconds : ℕ) → Value

-- A value of the code, as a value of the specification.
abbrev pub value_in : ValueInCode → Value
value_in (values.Bool truth) = Truth truth
value_in (values.Signed number) = Signed number
value_in (values.Unsigned number) = Unsigned number
value_in (values.Bits number) = Bits number
value_in (values.Real bits) = Real bits
value_in (values.Text bytes) = Text bytes.now
value_in (values.Lreal bits) = Lreal bits
value_in (values.Wide bytes) = Wide bytes.now
value_in (values.Path bytes) = Path bytes.now
value_in (values.Date date) = Day date
value_in (values.TimeOfDay milliseconds) = Clock milliseconds
value_in (values.DateAndTime date milliseconds) = Instant date milliseconds

-- The string or the path with these bytes.
abbrev pub counted : Form → List ℕ → Value
counted forms.Wide bytes = Wide bytes
counted forms.Path bytes = Path bytes
counted form bytes = Text bytes

-- The integer fits two's complement of n bytes: -2^(8n-1) to 2^(8n-1) - 1.
abbrev pub IsSignedOf : ℕ → ℤ → Type 0
IsSignedOf n (pos k) = k < 2 ^ (8 * n - 1)
IsSignedOf n (negsuc k) = k < 2 ^ (8 * n - 1)

-- The integer fits an unsigned number of n bytes.
abbrev pub IsUnsignedOf : ℕ → ℤ → Type 0
IsUnsignedOf n (pos k) = k < 2 ^ (8 * n)
IsUnsignedOf n (negsuc k) = ⊥

-- The bytes of fewer than 2^n units of two bytes.
abbrev pub AreUnits : ℕ → List ℕ → Type 0
AreUnits n bytes = (length bytes % 2 ≡ 0) × (length bytes / 2 < 2 ^ n) × AreBytes bytes

-- The value is of this kind, and in range.
abbrev pub IsOf : Form → Value → Type 0
IsOf forms.Bool (Truth truth) = ⊤
IsOf (forms.Signed n) (Signed number) = IsSignedOf n number
IsOf (forms.Unsigned n) (Unsigned number) = number < 2 ^ (8 * n)
IsOf (forms.Bits n) (Bits number) = number < 2 ^ (8 * n)
IsOf forms.Real (Real bits) = bits < 2 ^ 32
IsOf (forms.Text n) (Text bytes) = (length bytes < 2 ^ (8 * n)) × AreBytes bytes
IsOf forms.Lreal (Lreal bits) = bits < 2 ^ 64
IsOf forms.Wide (Wide bytes) = AreUnits 16 bytes
IsOf forms.Path (Path bytes) = AreUnits 8 bytes
IsOf forms.Date (Day date) = IsDayNumber date
IsOf forms.TimeOfDay (Clock milliseconds) = milliseconds < 2 ^ 32
IsOf forms.DateAndTime (Instant date milliseconds) = IsDayNumber date × (milliseconds < 2 ^ 32)
IsOf form value = ⊥

-- An integer in two's complement of n bytes, as an unsigned number: 2^(8n) is added to a negative one.
abbrev pub complement : ℕ → ℤ → ℕ
complement n (pos k) = k
complement n (negsuc k) = 2 ^ (8 * n) - suc k

-- The bytes of a value. A number has n of them.
abbrev pub spelled : ℕ → Value → List ℕ
spelled n (Truth false) = 0 ∷ []
spelled n (Truth true) = 1 ∷ []
spelled n (Signed number) = le n (complement n number)
spelled n (Unsigned number) = le n number
spelled n (Bits number) = le n number
spelled n (Real bits) = le 4 bits
spelled n (Text bytes) = le n (length bytes) ++ bytes
spelled n (Lreal bits) = le 8 bits
spelled n (Wide bytes) = le 2 (length bytes / 2) ++ bytes
spelled n (Path bytes) = le 1 (length bytes / 2) ++ bytes
spelled n (Day date) = le 2 (days_of date)
spelled n (Clock milliseconds) = le 4 milliseconds
spelled n (Instant date milliseconds) = le 4 milliseconds ++ le 2 (days_of date)

-- The bytes begin with this value, and the rest follows.
pub record BeginsWith (form : Form) (bytes : List ℕ) (value : Value) (rest : List ℕ) : Type 0 where
  pub of_type : IsOf form value
  pub bytes_of : bytes ≡ spelled (size_of form) value ++ rest

-- How many bytes the value at the front has.
abbrev pub needed : Form → List ℕ → ℕ
needed (forms.Text n) bytes = n + 1 * number_at 0 n bytes
needed forms.Wide bytes = 2 + 2 * number_at 0 2 bytes
needed forms.Path bytes = 1 + 2 * number_at 0 1 bytes
needed form bytes = size_of form

-- A string or a path, whose count is these bytes.
abbrev pub IsCounted : Form → List ℕ → Type 0
IsCounted (forms.Text n) front = (1 ≤ n) × (n ≤ 2) × (length front ≡ n)
IsCounted forms.Wide front = length front ≡ 2
IsCounted forms.Path front = length front ≡ 1
IsCounted form front = ⊥

-- A date or a time of day, in these bytes.
abbrev pub IsClocked : Form → List ℕ → Type 0
IsClocked forms.Date bytes = length bytes ≡ 2
IsClocked forms.TimeOfDay bytes = length bytes ≡ 4
IsClocked forms.DateAndTime bytes = length bytes ≡ 6
IsClocked form bytes = ⊥

-- Why the bytes do not begin with a value.
abbrev pub IsValueFault : Form → List ℕ → ValueFault → Type 0
IsValueFault form bytes faults.Short = length bytes < needed form bytes
IsValueFault form bytes (faults.NotBool byte) = (form ≡ forms.Bool) × (slice_index bytes 0 ≡ byte) × (2 ≤ byte)
IsValueFault form bytes fault = ⊥

-- The bytes of these values, one after another.
abbrev pub joined : Form → List Value → List ℕ
joined form values = flat_map (spelled (size_of form)) values

-- The bytes begin with these values, one after another, and the rest follows.
pub record BeginsWithAll (form : Form) (bytes : List ℕ) (values : List Value) (rest : List ℕ) : Type 0 where
  pub of_type : AllByRecursion (IsOf form) values
  pub bytes_of : bytes ≡ joined form values ++ rest

-- The bytes are these values of the type: any number of values for a list, otherwise one.
pub record AreBytesOf (value_type : ValueType) (bytes : List ℕ) (values : List Value) : Type 0 where
  pub begins : BeginsWithAll (form_of value_type.element) bytes values []
  pub one : value_type.is_list ≡ false → length values ≡ 1

-- Why the bytes are not one value.
abbrev pub IsSingleFault : Form → List ℕ → ValueFault → Type 0
IsSingleFault form bytes (faults.Trailing count) =
    (0 < count) × ((value : Value) × ((rest : List ℕ) × (BeginsWith form bytes value rest × (length rest ≡ count))))
IsSingleFault form bytes faults.Memory = ⊤
IsSingleFault form bytes fault = IsValueFault form bytes fault

-- After some values there are more bytes, and these do not begin with a value.
pub record IsCutOff (form : Form) (bytes : List ℕ) (fault : ValueFault) : Type 0 where
  pub values : List Value
  pub rest : List ℕ
  pub begins : BeginsWithAll form bytes values rest
  pub more : 0 < length rest
  pub unread : IsValueFault form rest fault

-- Why the bytes are not a list of values.
abbrev pub IsListFault : Form → List ℕ → ValueFault → Type 0
IsListFault form bytes faults.Memory = ⊤
IsListFault form bytes fault = IsCutOff form bytes fault

-- After fewer values than these, the bytes do not go on with a value.
pub record IsFrontCutOff (form : Form) (count : ℕ) (bytes : List ℕ) (fault : ValueFault) : Type 0 where
  pub values : List Value
  pub rest : List ℕ
  pub begins : BeginsWithAll form bytes values rest
  pub fewer : length values < count
  pub unread : IsValueFault form rest fault

-- Why the bytes do not begin with this many values.
abbrev pub IsFrontFault : Form → ℕ → List ℕ → ValueFault → Type 0
IsFrontFault form count bytes faults.Memory = ⊤
IsFrontFault form count bytes fault = IsFrontCutOff form count bytes fault

-- Why the bytes are not values of a type.
abbrev pub IsReadFault : ValueType → List ℕ → ValueFault → Type 0
IsReadFault value_type bytes fault =
    MatchBool value_type.is_list (IsListFault (form_of value_type.element) bytes fault) (IsSingleFault (form_of value_type.element) bytes fault)
