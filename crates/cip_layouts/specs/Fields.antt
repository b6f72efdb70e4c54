-- The values of the fields of a layout, and their bytes.
use Rattle.std.specs.Prelude.{◌≡◌, ◌≢◌, ◌<◌, ◌+◌, ◌⊎◌, ⊤, ℕ, Option, None, Some, Bool, true, List, [], ◌∷◌, ◌++◌, length}
use Rattle.cip_values.specs.Types.{form_of}
use Rattle.cip_values.specs.Values.{Value, BeginsWithAll, IsFrontFault}
use Rattle.cip_values.specs.Parsing.{AllParseAs, AreWritten, IsWriteFault}
use Rattle.cip_values.specs.declared.element.ValueType.{ValueType}
use Rattle.cip_values.specs.declared.fault.ValueFault.{ValueFault}
use Rattle.cip_values.specs.declared.fault.ValueFault.TheVariants as value_faults
use Rattle.cip_layouts.specs.declared.fault.FieldsFault.{FieldsFault}
use Rattle.cip_layouts.specs.declared.fault.FieldsFault.TheVariants as faults
use Rattle.cip_layouts.specs.declared.field.Field.{Field}

-- How many values a field has.
abbrev pub count_by : Option ℕ → ℕ
count_by None = 1
count_by (Some count) = count

abbrev pub count_of : Field → ℕ
count_of field = count_by field.count

-- How many values the fields have.
abbrev pub total : List Field → ℕ
total [] = 0
total (field ∷ fields) = count_of field + total fields

-- The type of a field's values in a list.
abbrev pub list_type : Field → ValueType
list_type field = record { element = field.element; is_list = true }

-- The bytes begin with the values of this field, and the rest follows.
pub record FieldBegins (field : Field) (bytes : List ℕ) (values : List Value) (rest : List ℕ) : Type 0 where
  pub begins : BeginsWithAll (form_of field.element) bytes values rest
  pub counted : length values ≡ count_of field

-- The bytes are these values, those of each field after those of the fields before it, and nothing else.
abbrev pub AreBytesOfFields : List Field → List ℕ → List Value → Type 0
AreBytesOfFields [] bytes values = (bytes ≡ []) × (values ≡ [])
AreBytesOfFields (field ∷ fields) bytes values =
    (mine : List Value) × ((others : List Value) × ((rest : List ℕ)
    × (FieldBegins field bytes mine rest × (values ≡ mine ++ others) × AreBytesOfFields fields rest others)))

-- Why the bytes do not begin with the values of the field with this number.
abbrev pub IsUnread : ℕ → Field → List ℕ → FieldsFault → Type 0
IsUnread number field bytes (faults.Field place fault) =
    (place ≡ number) × (fault ≢ value_faults.Memory) × IsFrontFault (form_of field.element) (count_of field) bytes fault
IsUnread number field bytes fault = ⊥

-- Bytes are left over.
abbrev pub IsTrailing : List ℕ → FieldsFault → Type 0
IsTrailing bytes (faults.Trailing count) = (0 < count) × (count ≡ length bytes)
IsTrailing bytes fault = ⊥

-- Why the bytes are not the values of these fields, the first of which has this number: the first field that cannot be
-- read, or what is left over.
abbrev pub IsReadFaultFrom : ℕ → List Field → List ℕ → FieldsFault → Type 0
IsReadFaultFrom number [] bytes fault = IsTrailing bytes fault
IsReadFaultFrom number (field ∷ fields) bytes fault =
    IsUnread number field bytes fault
    ⊎ ((values : List Value) × ((rest : List ℕ)
    × (FieldBegins field bytes values rest × IsReadFaultFrom (number + 1) fields rest fault)))

-- Why bytes are refused.
abbrev pub IsReadFault : List Field → List ℕ → FieldsFault → Type 0
IsReadFault fields bytes faults.Memory = ⊤
IsReadFault fields bytes fault = IsReadFaultFrom 1 fields bytes fault

-- ---- one field

-- The bytes begin with the values of this field, which follow some values, and the rest follows.
pub record FieldFollows (field : Field) (bytes rest : List ℕ) (old new : List Value) : Type 0 where
  pub values : List Value
  pub begins : FieldBegins field bytes values rest
  pub appended : new ≡ old ++ values

-- Why the bytes do not begin with the values of the field, or memory was refused.
abbrev pub IsFieldFault : ℕ → Field → List ℕ → FieldsFault → Type 0
IsFieldFault number field bytes faults.Memory = ⊤
IsFieldFault number field bytes fault = IsUnread number field bytes fault

-- ---- words

-- The words begin with one for each value of this field, which parse as these values, and the rest follows.
pub record FieldParses (field : Field) (words : List (List ℕ)) (values : List Value) (rest : List (List ℕ)) : Type 0 where
  pub mine : List (List ℕ)
  pub split : words ≡ mine ++ rest
  pub counted : length mine ≡ count_of field
  pub parses : AllParseAs (list_type field) mine values

-- The words parse as these values, one each.
abbrev pub FieldsParse : List Field → List (List ℕ) → List Value → Type 0
FieldsParse [] words values = (words ≡ []) × (values ≡ [])
FieldsParse (field ∷ fields) words values =
    (mine : List Value) × ((others : List Value) × ((rest : List (List ℕ))
    × (FieldParses field words mine rest × (values ≡ mine ++ others) × FieldsParse fields rest others)))

-- The words parse as the values of the fields, one each, and these are the values' bytes.
pub record AreFieldsWritten (fields : List Field) (words : List (List ℕ)) (bytes : List ℕ) : Type 0 where
  pub values : List Value
  pub parses : FieldsParse fields words values
  pub bytes_of : AreBytesOfFields fields bytes values

-- One of the words for a field is refused.
pub record IsRefusedField (field : Field) (words : List (List ℕ)) (fault : ValueFault) : Type 0 where
  pub mine : List (List ℕ)
  pub rest : List (List ℕ)
  pub split : words ≡ mine ++ rest
  pub counted : length mine ≡ count_of field
  pub known : fault ≢ value_faults.Memory
  pub refused : IsWriteFault (list_type field) mine fault

-- Why the words do not begin with the values of the field with this number.
abbrev pub IsUnwritten : ℕ → Field → List (List ℕ) → FieldsFault → Type 0
IsUnwritten number field words (faults.Field place fault) = (place ≡ number) × IsRefusedField field words fault
IsUnwritten number field words fault = ⊥

-- The first field, of these from this number on, for which a word is refused.
abbrev pub IsWriteFaultFrom : ℕ → List Field → List (List ℕ) → FieldsFault → Type 0
IsWriteFaultFrom number [] words fault = ⊥
IsWriteFaultFrom number (field ∷ fields) words fault =
    IsUnwritten number field words fault
    ⊎ ((values : List Value) × ((rest : List (List ℕ))
    × (FieldParses field words values rest × IsWriteFaultFrom (number + 1) fields rest fault)))

-- ---- the words of one field

-- The first words parse as the values of the field, whose bytes are appended, and the rest follows.
pub record FieldIsWritten (field : Field) (words rest : List (List ℕ)) (old new : List ℕ) : Type 0 where
  pub mine : List (List ℕ)
  pub split : words ≡ mine ++ rest
  pub counted : length mine ≡ count_of field
  pub bytes : List ℕ
  pub written : AreWritten (list_type field) mine bytes
  pub appended : new ≡ old ++ bytes

-- Why the first words are refused as the values of the field with this number, or memory was refused.
abbrev pub IsFieldRefused : ℕ → Field → List (List ℕ) → FieldsFault → Type 0
IsFieldRefused number field words faults.Memory = ⊤
IsFieldRefused number field words fault = IsUnwritten number field words fault

-- ---- the words of several fields

-- The words parse as the values of these fields, whose bytes are appended.
pub record AreAppended (fields : List Field) (words : List (List ℕ)) (old new : List ℕ) : Type 0 where
  pub bytes : List ℕ
  pub written : AreFieldsWritten fields words bytes
  pub appended : new ≡ old ++ bytes

-- Why the words are refused as the values of these fields, the first of which has this number.
abbrev pub AreRefusedFrom : ℕ → List Field → List (List ℕ) → FieldsFault → Type 0
AreRefusedFrom number fields words faults.Memory = ⊤
AreRefusedFrom number fields words fault = IsWriteFaultFrom number fields words fault

-- ---- all words

-- Why words are refused: there are too few or too many, or one of them is refused.
abbrev pub IsFieldsWriteFault : List Field → List (List ℕ) → FieldsFault → Type 0
IsFieldsWriteFault fields words faults.Memory = ⊤
IsFieldsWriteFault fields words (faults.Count wanted given) =
    (wanted ≡ total fields) × (given ≡ length words) × (given ≢ wanted)
IsFieldsWriteFault fields words fault = (length words ≡ total fields) × IsWriteFaultFrom 1 fields words fault
