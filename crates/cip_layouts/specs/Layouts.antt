-- The text of a layout (ours): fields such as speed:UINT or USINT[4], with a comma between each two.
use Rattle.std.specs.Prelude.{ℕ, ◌≡◌, ◌+◌, ◌-◌, ◌*◌, ◌==◌, ◌&&◌, ◌||◌, Bool, true, false, List, [], ◌∷◌, ◌++◌, length, map, take, slice_index, codes}
use Rattle.std.specs.Prelude.{Option, Some, None, Result, Ok, Err, nat_lt, nat_le, is_some, option_map, if◌then◌else◌}
use Rattle.std.specs.Borrow.{Bor}
use Rattle.std.specs.List.{position_or_len, before_first, after_first, slice_split, list_all, list_any, find, flat_map}
use Rattle.std.specs.Str.{bytes_eq}
use Rattle.std.specs.Fmt.{decimal}
use Rattle.std.specs.Char.{encode_utf8}
use Rattle.cip_bytes.specs.Reading.{◌>>=◌}
use Rattle.cip_values.specs.Types.{name_of as type_name}
use Rattle.cip_values.specs.declared.element.ElementaryType.{ElementaryType}
use Rattle.cip_values.specs.declared.element.ElementaryType.TheVariants as types
use Rattle.cip_layouts.specs.declared.fault.FieldFault.{FieldFault}
use Rattle.cip_layouts.specs.declared.fault.FieldFault.TheVariants as fault
use Rattle.cip_layouts.specs.declared.fault.LayoutFault.{LayoutFault}
use Rattle.cip_layouts.specs.declared.field.Field.{Field as FieldInCode}
use Rattle.cip_layouts.specs.declared.layout.Layout.{Layout}
use Rattle.cip_layouts.specs.declared.layout.TheConstants.{MOST_FIELDS}
use Rattle.cip_layouts.specs.declared.name.FieldName.{FieldName}
use Rattle.cip_layouts.specs.declared.name.TheConstants.{LONGEST_NAME}

-- A field: its name, if the layout has names, the type of its values, and their number, if it is an array.
pub record Field : Type 0 where
  pub name : Option (List ℕ)
  pub element : ElementaryType
  pub count : Option ℕ

-- The characters of a name.
abbrev pub name_of : FieldName → List ℕ
name_of name = take name.length name.bytes

-- A field and the fields of a layout of the code, as those of the specification.
abbrev pub field_in : FieldInCode → Field
field_in f = record { name = option_map name_of f.name; element = f.element; count = f.count }

-- The fields of a layout, as the code has them.
abbrev pub fields_of : Layout → List FieldInCode
fields_of layout = take layout.length layout.fields

abbrev pub fields_in : Layout → List Field
fields_in layout = map field_in (fields_of layout)

-- ---- a text cut in two

abbrev pub is_byte : ℕ → ℕ → Bool
is_byte c = λ byte. byte == c

abbrev pub has_byte : ℕ → List ℕ → Bool
has_byte c text = nat_lt (position_or_len (is_byte c) text) (length text)

-- What precedes and what follows the first such byte, if there is one.
unfoldable pub cut_in : ℕ → List ℕ → Option (List ℕ × List ℕ)
cut_in c text = if has_byte c text then Some (before_first (is_byte c) text, after_first (is_byte c) text) else None

-- The two texts, as the code returns them.
abbrev pub cut_seen : Bor (List ℕ) × Bor (List ℕ) → List ℕ × List ℕ
cut_seen cut = (cut.0.now, cut.1.now)

-- ---- the name of a type

abbrev pub elements : List ElementaryType
elements =
    types.Bool ∷ types.Sint ∷ types.Int ∷ types.Dint ∷ types.Lint ∷ types.Usint ∷ types.Uint ∷ types.Udint ∷ types.Ulint
    ∷ types.Byte ∷ types.Word ∷ types.Dword ∷ types.Lword ∷ types.Real ∷ types.ShortString ∷ types.Lreal ∷ types.String
    ∷ types.String2 ∷ types.Epath ∷ types.Date ∷ types.TimeOfDay ∷ types.DateAndTime ∷ types.Time ∷ types.Ltime ∷ []

-- The type with this name, if there is one.
unfoldable pub element_named : List ℕ → Option ElementaryType
element_named name = find (λ element. bytes_eq name (type_name element)) elements

abbrev pub element_by : Option ElementaryType → Result ElementaryType FieldFault
element_by None = Err fault.Type
element_by (Some element) = Ok element

abbrev pub element_in : List ℕ → Result ElementaryType FieldFault
element_in name = element_by (element_named name)

-- ---- a count

abbrev pub is_digit : ℕ → Bool
is_digit byte = nat_le 48 byte && nat_le byte 57

-- The decimal number below 2^16 whose digits follow those of n.
abbrev pub number_after : ℕ → List ℕ → Option ℕ
number_after n [] = Some n
number_after n (byte ∷ text) =
    if is_digit byte && nat_lt (10 * n + (byte - 48)) 65536 then number_after (10 * n + (byte - 48)) text else None

-- The decimal number from 1 to 65,535 that the text is, without leading zeros.
abbrev pub number_in : List ℕ → Option ℕ
number_in text = if (length text == 0) || (slice_index text 0 == 48) then None else number_after 0 text

abbrev pub number_by : Option ℕ → Result ℕ FieldFault
number_by None = Err fault.Count
number_by (Some number) = Ok number

-- A number, `]` and nothing after it.
abbrev pub count_by_cut : Option (List ℕ × List ℕ) → Result ℕ FieldFault
count_by_cut None = Err fault.Count
count_by_cut (Some (digits, rest)) = if length rest == 0 then number_by (number_in digits) else Err fault.Count

abbrev pub count_in : List ℕ → Result ℕ FieldFault
count_in text = count_by_cut (cut_in 93 text)

-- ---- a field

-- A field with this name, if it has one, whose type is cut at its bracket.
abbrev pub typed_by_cut : Option (List ℕ) → List ℕ → Option (List ℕ × List ℕ) → Result Field FieldFault
typed_by_cut name text None = element_in text >>= λ element. Ok (record { name = name; element = element; count = None })
typed_by_cut name text (Some (type, rest)) =
    element_in type >>= λ element. count_in rest >>= λ count. Ok (record { name = name; element = element; count = Some count })

abbrev pub typed_in : Option (List ℕ) → List ℕ → Result Field FieldFault
typed_in name text = typed_by_cut name text (cut_in 91 text)

-- A letter, a digit, `_`, `-` or `.`.
abbrev pub is_name_byte : ℕ → Bool
is_name_byte byte =
    is_digit byte || (nat_le 65 byte && nat_le byte 90) || (nat_le 97 byte && nat_le byte 122) || (byte == 95)
    || (byte == 45) || (byte == 46)

abbrev pub is_name : List ℕ → Bool
is_name text = nat_lt 0 (length text) && nat_le (length text) LONGEST_NAME && list_all is_name_byte text

abbrev pub name_in : List ℕ → Option (List ℕ)
name_in text = if is_name text then Some text else None

-- A field whose name is this one, if it is a name.
abbrev pub named_by : Option (List ℕ) → List ℕ → Result Field FieldFault
named_by None rest = Err fault.Name
named_by (Some name) rest = typed_in (Some name) rest

-- A field that is cut at its colon, if it has one.
abbrev pub field_by_cut : List ℕ → Option (List ℕ × List ℕ) → Result Field FieldFault
field_by_cut text None = typed_in None text
field_by_cut text (Some (name, rest)) = named_by (name_in name) rest

-- The field that a text is.
abbrev pub field_of : List ℕ → Result Field FieldFault
field_of text = if length text == 0 then Err fault.Empty else field_by_cut text (cut_in 58 text)

-- ---- the fields

abbrev pub differ : Option (List ℕ) → Option (List ℕ) → Bool
differ (Some name) None = true
differ None (Some name) = true
differ name other = false

-- The fields have names and this one has none, or the other way round.
abbrev pub mixes : List Field → Field → Bool
mixes [] field = false
mixes (first ∷ fields) field = differ first.name field.name

abbrev pub is_same : Option (List ℕ) → List ℕ → Bool
is_same None name = false
is_same (Some other) name = bytes_eq other name

-- A field has this name.
abbrev pub has_name : List Field → List ℕ → Bool
has_name fields name = list_any (λ field. is_same field.name name) fields

abbrev pub doubles_by : List Field → Option (List ℕ) → Bool
doubles_by fields None = false
doubles_by fields (Some name) = has_name fields name

-- A field has the same name as this one.
abbrev pub doubles : List Field → Field → Bool
doubles fields field = doubles_by fields field.name

-- The fields have names.
abbrev pub has_names : List FieldInCode → Bool
has_names [] = false
has_names (field ∷ fields) = is_some field.name

-- The fields with one more.
unfoldable pub with_field : List Field → Field → Result (List Field) FieldFault
with_field fields field =
    if mixes fields field then Err fault.Mixed
    else (if doubles fields field then Err fault.Doubled
    else (if nat_le MOST_FIELDS (length fields) then Err fault.TooMany else Ok (fields ++ field ∷ [])))

-- A fault of the field with this number.
abbrev pub numbered : ℕ → Result (List Field) FieldFault → Result (List Field) LayoutFault
numbered number (Ok fields) = Ok fields
numbered number (Err reason) = Err (record { number = number; reason = reason })

-- The fields with the one that a text is.
unfoldable pub with_text : List Field → List ℕ → Result (List Field) LayoutFault
with_text fields text = numbered (length fields + 1) (field_of text >>= λ field. with_field fields field)

-- The fields with those that these texts are.
abbrev pub with_texts : List Field → List (List ℕ) → Result (List Field) LayoutFault
with_texts fields [] = Ok fields
with_texts fields (text ∷ texts) = with_text fields text >>= λ more. with_texts more texts

-- The fields of a layout with this text.
abbrev pub layout_in : List ℕ → Result (List Field) LayoutFault
layout_in text = with_texts [] (slice_split (is_byte 44) text)

-- What a call made of the fields of a layout.
abbrev pub changed : {E : Type 0} → Result (Unit {0}) E → List Field → Result (List Field) E
changed (Ok done) fields = Ok fields
changed (Err why) fields = Err why

-- A field that was parsed, and a layout.
abbrev pub field_seen : Result FieldInCode FieldFault → Result Field FieldFault
field_seen (Ok field) = Ok (field_in field)
field_seen (Err why) = Err why

abbrev pub layout_seen : Result Layout LayoutFault → Result (List Field) LayoutFault
layout_seen (Ok layout) = Ok (fields_in layout)
layout_seen (Err why) = Err why

-- ---- printing

-- A name as it prints: each byte as a character.
abbrev pub name_shown : FieldName → List ℕ
name_shown name = flat_map encode_utf8 (name_of name)

abbrev pub name_text : Option FieldName → List ℕ
name_text None = []
name_text (Some name) = name_shown name ++ codes ":"

abbrev pub count_text : Option ℕ → List ℕ
count_text None = []
count_text (Some count) = codes "[" ++ decimal count ++ codes "]"

abbrev pub field_text : FieldInCode → List ℕ
field_text field = name_text field.name ++ type_name field.element ++ count_text field.count

-- A field behind a comma.
abbrev pub other_text : FieldInCode → List ℕ
other_text field = codes "," ++ field_text field

abbrev pub layout_text : List FieldInCode → List ℕ
layout_text [] = []
layout_text (field ∷ fields) = field_text field ++ flat_map other_text fields
