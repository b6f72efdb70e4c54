-- Fields read one after another.
use Rattle.std.proofs.Common.{◌≡◌, ℕ, ◌+◌, ◌<◌, ◌≤◌, List, [], ◌∷◌, ◌++◌, length, drop, get_or, inl, inr, refl, sym, ap, subst, ◌∙◌, append_assoc, arith}
use Rattle.std.proofs.lemmas.List.{append-nil, drop_more, drop_all}
use Rattle.cip_values.specs.Types.{form_of}
use Rattle.cip_values.specs.Values.{Value}
use Rattle.cip_layouts.specs.Fields.{FieldBegins, FieldFollows, AreBytesOfFields, IsUnread, IsFieldFault, IsReadFaultFrom, IsReadFault, IsTrailing}
use Rattle.cip_layouts.specs.declared.fault.FieldsFault.{FieldsFault}
use Rattle.cip_layouts.specs.declared.fault.FieldsFault.TheVariants as faults
use Rattle.cip_layouts.specs.declared.field.Field.{Field}

-- What is read of some fields, and what is left: values of the fields that are left make all values, and a fault of
-- these is one of all.
pub record ReadSoFar (fields : List Field) (bytes : List ℕ) (index : ℕ) (values : List Value) (rest : List ℕ) : Type 0 where
  pub read : (others : List Value) → AreBytesOfFields (drop index fields) rest others → AreBytesOfFields fields bytes (values ++ others)
  pub refused : (fault : FieldsFault) → IsReadFaultFrom (index + 1) (drop index fields) rest fault → IsReadFaultFrom 1 fields bytes fault

-- a field is the first of those from its index on
pub left_is : (fields : List Field) (index : ℕ) (field : Field) → index < length fields → field ≡ get_or fields index field
    → drop index fields ≡ field ∷ drop (index + 1) fields
left_is fields index field inside is =
    drop_more fields index field inside ∙ ap (λ (f : Field). f ∷ drop (index + 1) fields) (sym is)

pub read_more : (fields : List Field) (bytes : List ℕ) (index : ℕ) (field : Field) (old new : List Value) (rest behind : List ℕ)
    → index < length fields → field ≡ get_or fields index field → ReadSoFar fields bytes index old rest
    → FieldFollows field rest behind old new → ReadSoFar fields bytes (index + 1) new behind
read_more fields bytes index field old new rest behind inside is before one =
    let left : drop index fields ≡ field ∷ drop (index + 1) fields = left_is fields index field inside is in
    record {
      read = λ others h.
          let mine : AreBytesOfFields (field ∷ drop (index + 1) fields) rest (one.values ++ others) =
          (one.values, (others, (behind, (one.begins, refl, h)))) in
          let all : AreBytesOfFields fields bytes (old ++ (one.values ++ others)) =
          before.read (one.values ++ others) (subst (λ (fs : List Field). AreBytesOfFields fs rest (one.values ++ others)) (sym left) mine) in
          subst (λ (vs : List Value). AreBytesOfFields fields bytes vs)
          (sym (append_assoc old one.values others) ∙ ap (λ (vs : List Value). vs ++ others) (sym one.appended)) all;
      refused = λ fault h.
          let mine : IsReadFaultFrom (index + 1) (field ∷ drop (index + 1) fields) rest fault =
          inr (one.values, (behind, (one.begins, h))) in
          before.refused fault (subst (λ (fs : List Field). IsReadFaultFrom (index + 1) fs rest fault) (sym left) mine);
    }

pub nothing_left : (fields : List Field) (index : ℕ) → length fields ≡ index → drop index fields ≡ []
nothing_left fields index all = drop_all index fields (omega (arith, all))

no_bytes : (rest : List ℕ) → length rest ≡ 0 → rest ≡ []
no_bytes [] none = refl
no_bytes (byte ∷ rest) none = absurd (omega (arith, none))

pub all_read : (fields : List Field) (bytes : List ℕ) (index : ℕ) (values : List Value) (rest : List ℕ) → length fields ≡ index
    → length rest ≡ 0 → ReadSoFar fields bytes index values rest → AreBytesOfFields fields bytes values
all_read fields bytes index values rest all none h =
    let left : AreBytesOfFields (drop index fields) rest [] =
    subst (λ (fs : List Field). AreBytesOfFields fs rest []) (sym (nothing_left fields index all)) (no_bytes rest none, refl) in
    subst (λ (vs : List Value). AreBytesOfFields fields bytes vs) (append-nil values) (h.read [] left)

unread_left : (fields : List Field) (bytes : List ℕ) (index : ℕ) (field : Field) (values : List Value) (rest : List ℕ)
    (fault : FieldsFault) → index < length fields → field ≡ get_or fields index field → ReadSoFar fields bytes index values rest
    → IsUnread (index + 1) field rest fault → IsReadFaultFrom 1 fields bytes fault
unread_left fields bytes index field values rest fault inside is h unread =
    let mine : IsReadFaultFrom (index + 1) (field ∷ drop (index + 1) fields) rest fault = inl unread in
    h.refused fault (subst (λ (fs : List Field). IsReadFaultFrom (index + 1) fs rest fault) (sym (left_is fields index field inside is)) mine)

pub field_refused : (fields : List Field) (bytes : List ℕ) (index : ℕ) (field : Field) (values : List Value) (rest : List ℕ)
    (fault : FieldsFault) → index < length fields → field ≡ get_or fields index field → ReadSoFar fields bytes index values rest
    → IsFieldFault (index + 1) field rest fault → IsReadFault fields bytes fault
field_refused fields bytes index field values rest faults.Memory inside is h refused = tt
field_refused fields bytes index field values rest (faults.Field number fault) inside is h refused =
    unread_left fields bytes index field values rest (faults.Field number fault) inside is h refused
field_refused fields bytes index field values rest (faults.Trailing count) inside is h refused = absurd refused
field_refused fields bytes index field values rest (faults.Count wanted given) inside is h refused = absurd refused
