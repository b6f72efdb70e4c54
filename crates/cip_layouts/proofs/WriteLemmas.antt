-- Fields written one after another.
use Rattle.std.proofs.Common.{◌≡◌, ℕ, ◌+◌, ◌<◌, ◌≤◌, List, [], ◌∷◌, ◌++◌, length, drop, get_or, Result, Ok, Err, inl, inr, refl, sym, ap, subst, ◌∙◌, append_assoc, arith}
use Rattle.std.specs.Prelude.{OnOk}
use Rattle.std.proofs.lemmas.List.{append-nil}
use Rattle.cip_values.specs.Types.{form_of}
use Rattle.cip_values.specs.Values.{Value, joined}
use Rattle.cip_values.specs.Parsing.{AllParseAs}
use Rattle.cip_values.specs.declared.element.ValueType.{ValueType}
use Rattle.cip_layouts.specs.Fields.{FieldBegins, FieldParses, AreFieldsWritten, FieldIsWritten, AreAppended, AreRefusedFrom, IsWriteFaultFrom, IsFieldRefused, IsFieldsWriteFault, total, list_type}
use Rattle.cip_layouts.specs.declared.fault.FieldsFault.{FieldsFault}
use Rattle.cip_layouts.specs.declared.fault.FieldsFault.TheVariants as faults
use Rattle.cip_layouts.specs.declared.field.Field.{Field}
use Rattle.cip_layouts.proofs.ReadLemmas.{left_is}

parse_length : (value_type : ValueType) (words : List (List ℕ)) (values : List Value) → AllParseAs value_type words values
    → length values ≡ length words
parse_length value_type [] [] h = refl
parse_length value_type [] (value ∷ values) h = absurd h
parse_length value_type (word ∷ words) [] h = absurd h
parse_length value_type (word ∷ words) (value ∷ values) h =
    let rest = parse_length value_type words values h.1 in omega (arith, rest)

field_begins : (field : Field) (words rest : List (List ℕ)) (old new back : List ℕ) (one : FieldIsWritten field words rest old new)
    → FieldBegins field (one.bytes ++ back) one.written.values back
field_begins field words rest old new back one =
    let alone : one.bytes ≡ joined (form_of field.element) one.written.values =
    one.written.bytes_of.begins.bytes_of ∙ append-nil (joined (form_of field.element) one.written.values) in
    record {
      begins = record {
        of_type = one.written.bytes_of.begins.of_type;
        bytes_of = ap (λ (bytes : List ℕ). bytes ++ back) alone;
      };
      counted = parse_length (list_type field) one.mine one.written.values one.written.parses ∙ one.counted;
    }

field_parses : (field : Field) (words rest : List (List ℕ)) (old new : List ℕ) (one : FieldIsWritten field words rest old new)
    → FieldParses field words one.written.values rest
field_parses field words rest old new one =
    record { mine = one.mine; split = one.split; counted = one.counted; parses = one.written.parses }

with_one : (field : Field) (fields : List Field) (words rest : List (List ℕ)) (old new back : List ℕ)
    (one : FieldIsWritten field words rest old new) → AreFieldsWritten fields rest back
    → AreFieldsWritten (field ∷ fields) words (one.bytes ++ back)
with_one field fields words rest old new back one h = record {
  values = one.written.values ++ h.values;
  parses = (one.written.values, (h.values, (rest, (field_parses field words rest old new one, refl, h.parses))));
  bytes_of = (one.written.values, (h.values, (back, (field_begins field words rest old new back one, refl, h.bytes_of))));
}

pub one_appended : (fields : List Field) (index : ℕ) (field : Field) (words rest : List (List ℕ)) (old mid new : List ℕ)
    → index < length fields → field ≡ get_or fields index field → FieldIsWritten field words rest old mid
    → AreAppended (drop (index + 1) fields) rest mid new → AreAppended (drop index fields) words old new
one_appended fields index field words rest old mid new inside is one h =
    subst (λ (fs : List Field). AreAppended fs words old new) (sym (left_is fields index field inside is)) (record {
      bytes = one.bytes ++ h.bytes;
      written = with_one field (drop (index + 1) fields) words rest old mid h.bytes one h.written;
      appended = h.appended ∙ ap (λ (bs : List ℕ). bs ++ h.bytes) one.appended ∙ append_assoc old one.bytes h.bytes;
    })

pub ok_appended : {E : Type 0} (r : Result (Unit {0}) E) (fields : List Field) (index : ℕ) (field : Field) (words rest : List (List ℕ))
    (old mid new : List ℕ) → index < length fields → field ≡ get_or fields index field → FieldIsWritten field words rest old mid
    → OnOk r (AreAppended (drop (index + 1) fields) rest mid new) → OnOk r (AreAppended (drop index fields) words old new)
ok_appended (Ok done) fields index field words rest old mid new inside is one h =
    one_appended fields index field words rest old mid new inside is one h
ok_appended (Err why) fields index field words rest old mid new inside is one h = h

-- a fault of a field, and of the fields behind it
pub field_refused : (fields : List Field) (index : ℕ) (field : Field) (words : List (List ℕ)) (fault : FieldsFault) → index < length fields
    → field ≡ get_or fields index field → IsFieldRefused (index + 1) field words fault → AreRefusedFrom (index + 1) (drop index fields) words fault
field_refused fields index field words faults.Memory inside is h = tt
field_refused fields index field words (faults.Trailing count) inside is h = absurd h
field_refused fields index field words (faults.Count wanted given) inside is h = absurd h
field_refused fields index field words (faults.Field number fault) inside is h =
    subst (λ (fs : List Field). IsWriteFaultFrom (index + 1) fs words (faults.Field number fault)) (sym (left_is fields index field inside is)) (inl h)

behind : (fields : List Field) (index : ℕ) (field : Field) (words rest : List (List ℕ)) (old new : List ℕ) (fault : FieldsFault)
    → index < length fields → field ≡ get_or fields index field → FieldIsWritten field words rest old new
    → IsWriteFaultFrom (index + 1 + 1) (drop (index + 1) fields) rest fault → IsWriteFaultFrom (index + 1) (drop index fields) words fault
behind fields index field words rest old new fault inside is one h =
    subst (λ (fs : List Field). IsWriteFaultFrom (index + 1) fs words fault) (sym (left_is fields index field inside is))
    (inr (one.written.values, (rest, (field_parses field words rest old new one, h))))

-- a fault of a field is never one of the number of words
no_count : (number : ℕ) (fields : List Field) (words : List (List ℕ)) (wanted given : ℕ)
    → IsWriteFaultFrom number fields words (faults.Count wanted given) → ⊥
no_count number [] words wanted given h = h
no_count number (field ∷ fields) words wanted given (inl h) = h
no_count number (field ∷ fields) words wanted given (inr (values, (rest, (parses, h)))) = no_count (number + 1) fields rest wanted given h

pub all_refused : (fields : List Field) (words : List (List ℕ)) (fault : FieldsFault) → length words ≡ total fields
    → AreRefusedFrom 1 fields words fault → IsFieldsWriteFault fields words fault
all_refused fields words faults.Memory enough h = tt
all_refused fields words (faults.Trailing count) enough h = (enough, h)
all_refused fields words (faults.Field number fault) enough h = (enough, h)
all_refused fields words (faults.Count wanted given) enough h = absurd (no_count 1 fields words wanted given h)

-- ---- how many values the fields have
