-- The elementary data types (Volume 1, data types): their names, and the kind of their values.
use Rattle.std.specs.Prelude.{◌≤◌, ⊤, ℕ, List, [], ◌++◌, codes, if◌then◌else◌}
use Rattle.cip_values.specs.declared.element.ElementaryType.{ElementaryType}
use Rattle.cip_values.specs.declared.element.ElementaryType.TheVariants as types
use Rattle.cip_values.specs.declared.element.Form.{Form}
use Rattle.cip_values.specs.declared.element.Form.TheVariants as forms
use Rattle.cip_values.specs.declared.element.ValueType.{ValueType}

abbrev pub name_of : ElementaryType → List ℕ
name_of types.Bool = codes "BOOL"
name_of types.Sint = codes "SINT"
name_of types.Int = codes "INT"
name_of types.Dint = codes "DINT"
name_of types.Lint = codes "LINT"
name_of types.Usint = codes "USINT"
name_of types.Uint = codes "UINT"
name_of types.Udint = codes "UDINT"
name_of types.Ulint = codes "ULINT"
name_of types.Byte = codes "BYTE"
name_of types.Word = codes "WORD"
name_of types.Dword = codes "DWORD"
name_of types.Lword = codes "LWORD"
name_of types.Real = codes "REAL"
name_of types.ShortString = codes "SHORT_STRING"
name_of types.Lreal = codes "LREAL"
name_of types.String = codes "STRING"
name_of types.String2 = codes "STRING2"
name_of types.Epath = codes "EPATH"
name_of types.Date = codes "DATE"
name_of types.TimeOfDay = codes "TIME_OF_DAY"
name_of types.DateAndTime = codes "DATE_AND_TIME"
name_of types.Time = codes "TIME"
name_of types.Ltime = codes "LTIME"

-- A list type is named after its elements, with brackets.
abbrev pub type_name_of : ValueType → List ℕ
type_name_of value_type = name_of value_type.element ++ (if value_type.is_list then codes "[]" else [])

-- The kind of a type's values, and their size in bytes.
abbrev pub form_of : ElementaryType → Form
form_of types.Bool = forms.Bool
form_of types.Sint = forms.Signed 1
form_of types.Int = forms.Signed 2
form_of types.Dint = forms.Signed 4
form_of types.Lint = forms.Signed 8
form_of types.Usint = forms.Unsigned 1
form_of types.Uint = forms.Unsigned 2
form_of types.Udint = forms.Unsigned 4
form_of types.Ulint = forms.Unsigned 8
form_of types.Byte = forms.Bits 1
form_of types.Word = forms.Bits 2
form_of types.Dword = forms.Bits 4
form_of types.Lword = forms.Bits 8
form_of types.Real = forms.Real
form_of types.ShortString = forms.Text 1
form_of types.Lreal = forms.Lreal
form_of types.String = forms.Text 2
form_of types.String2 = forms.Wide
form_of types.Epath = forms.Path
form_of types.Date = forms.Date
form_of types.TimeOfDay = forms.TimeOfDay
form_of types.DateAndTime = forms.DateAndTime
form_of types.Time = forms.Signed 4
form_of types.Ltime = forms.Signed 8

-- The unit that follows a number: milliseconds or microseconds.
abbrev pub unit_of : ElementaryType → List ℕ
unit_of types.Time = codes "ms"
unit_of types.Ltime = codes "us"
unit_of element = []

-- Numbers have 1 to 8 bytes, and the count of a text 1 or 2.
abbrev pub IsSized : Form → Type 0
IsSized (forms.Signed size) = (1 ≤ size) × (size ≤ 8)
IsSized (forms.Unsigned size) = (1 ≤ size) × (size ≤ 8)
IsSized (forms.Bits size) = (1 ≤ size) × (size ≤ 8)
IsSized (forms.Text size) = (1 ≤ size) × (size ≤ 2)
IsSized form = ⊤

-- The size of a value in bytes. Of a string or a path it is the size of its count alone.
abbrev pub size_of : Form → ℕ
size_of forms.Bool = 1
size_of (forms.Signed size) = size
size_of (forms.Unsigned size) = size
size_of (forms.Bits size) = size
size_of forms.Real = 4
size_of forms.Lreal = 8
size_of (forms.Text size) = size
size_of forms.Wide = 2
size_of forms.Path = 1
size_of forms.Date = 2
size_of forms.TimeOfDay = 4
size_of forms.DateAndTime = 6

-- The size in bytes of what the count of a string or a path counts: characters of one or two bytes, or words.
abbrev pub unit_size : Form → ℕ
unit_size forms.Wide = 2
unit_size forms.Path = 2
unit_size form = 1
