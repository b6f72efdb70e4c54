-- Bytes have one reading as the values of fields.
use Rattle.std.proofs.Common.{◌≡◌, ℕ, ◌+◌, ◌<◌, ◌≤◌, ◌⊎◌, Bool, true, false, ltb, List, [], ◌∷◌, ◌++◌, length, take, drop, inl, inr, refl, sym, ap, subst, ◌∙◌, append_assoc, arith}
use Rattle.std.specs.List.{AllByRecursion}
use Rattle.std.proofs.lemmas.List.{append-nil, length-append, take-append-le, take-append-drop, take_at, drop_at}
use Rattle.std.proofs.lemmas.Bool.{ltb-true, ltb-false}
use Rattle.cip_values.specs.Types.{form_of, size_of}
use Rattle.cip_values.specs.Values.{Value, IsOf, spelled, joined, BeginsWith, BeginsWithAll, IsValueFault, IsFrontFault}
use Rattle.cip_values.specs.declared.element.ElementaryType.{ElementaryType}
use Rattle.cip_values.specs.declared.fault.ValueFault.{ValueFault}
use Rattle.cip_values.specs.declared.fault.ValueFault.TheVariants as value_faults
use Rattle.cip_values.proofs.OneSpelling.{one_way, is_read, front_is_read, form_sized}
use Rattle.cip_layouts.specs.Fields.{FieldBegins, AreBytesOfFields, IsUnread, IsTrailing, IsReadFaultFrom, IsReadFault, count_of}
use Rattle.cip_layouts.specs.declared.fault.FieldsFault.{FieldsFault}
use Rattle.cip_layouts.specs.declared.fault.FieldsFault.TheVariants as faults
use Rattle.cip_layouts.specs.declared.field.Field.{Field}

-- ---- one value

abbrev bytes_of : ElementaryType → Value → List ℕ
bytes_of type v = spelled (size_of (form_of type)) v

alone : (type : ElementaryType) (v : Value) (bytes : List ℕ) → IsOf (form_of type) v → bytes ≡ bytes_of type v → BeginsWithAll (form_of type) bytes (v ∷ []) []
alone type v bytes h e = record {
  of_type = (h, tt);
  bytes_of = e ∙ sym (append-nil (bytes_of type v)) ∙ sym (append-nil (bytes_of type v ++ []));
}

-- the bytes of a value do not begin with another value
no_longer : (type : ElementaryType) (v w : Value) (mid : List ℕ) → IsOf (form_of type) v → IsOf (form_of type) w
    → bytes_of type v ≡ bytes_of type w ++ mid → (v ≡ w) × (mid ≡ [])
no_longer type v w [] hv hw e =
    let same : v ∷ [] ≡ w ∷ [] = one_way (form_of type) (bytes_of type v) (v ∷ []) (w ∷ []) (form_sized type)
    (alone type v (bytes_of type v) hv refl) (alone type w (bytes_of type v) hw (e ∙ append-nil (bytes_of type w))) in
    (cc, refl)
no_longer type v w (m ∷ ms) hv hw e =
    let front : BeginsWith (form_of type) (bytes_of type v) w (m ∷ ms) = record { of_type = hw; bytes_of = e } in
    let not : value_faults.Trailing (length (m ∷ ms)) ≡ value_faults.Memory =
    is_read false (form_of type) (bytes_of type v) (v ∷ []) (value_faults.Trailing (length (m ∷ ms))) (form_sized type)
    (alone type v (bytes_of type v) hv refl) (λ _. refl) (omega arith, (w, (m ∷ ms, (front, refl)))) in
    absurd cc

longer : (a b r s : List ℕ) → a ++ r ≡ b ++ s → length b ≤ length a → a ≡ b ++ drop (length b) a
longer a b r s e fits =
    let front : take (length b) a ≡ b = sym (take-append-le (length b) a r fits) ∙ ap (take (length b)) e ∙ take_at b s (length b) refl in
    sym (take-append-drop (length b) a) ∙ ap (λ (xs : List ℕ). xs ++ drop (length b) a) front

rests : (a r s : List ℕ) → a ++ r ≡ a ++ s → r ≡ s
rests a r s e = sym (drop_at a r (length a) refl) ∙ ap (drop (length a)) e ∙ drop_at a s (length a) refl

pub same_first : (type : ElementaryType) (v w : Value) (r s : List ℕ) → IsOf (form_of type) v → IsOf (form_of type) w
    → bytes_of type v ++ r ≡ bytes_of type w ++ s → (v ≡ w) × (r ≡ s)
same_first type v w r s hv hw e = by (order (length (bytes_of type w)) (length (bytes_of type v)))
  where
    order_by : (m n : ℕ) (t : Bool) → ltb m n ≡ t → (m ≤ n) ⊎ (n ≤ m)
    order_by m n true e = let less : m < n = ltb-true m n e in inl (omega arith)
    order_by m n false e = inr (ltb-false m n e)

    order : (m n : ℕ) → (m ≤ n) ⊎ (n ≤ m)
    order m n = order_by m n (ltb m n) refl

    same : v ≡ w → (v ≡ w) × (r ≡ s)
    same is = (is, rests (bytes_of type w) r s (ap (λ (x : Value). bytes_of type x ++ r) (sym is) ∙ e))

    by : (length (bytes_of type w) ≤ length (bytes_of type v))
        ⊎ (length (bytes_of type v) ≤ length (bytes_of type w)) → (v ≡ w) × (r ≡ s)
    by (inl fits) =
        let more = longer (bytes_of type v) (bytes_of type w) r s e fits in
        same (no_longer type v w (drop (length (bytes_of type w)) (bytes_of type v)) hv hw more).0
    by (inr fits) =
        let more = longer (bytes_of type w) (bytes_of type v) s r (sym e) fits in
        same (sym (no_longer type w v (drop (length (bytes_of type v)) (bytes_of type w)) hw hv more).0)

-- ---- as many values

first_and_rest : (type : ElementaryType) (v : Value) (vs : List Value) (r : List ℕ)
    → joined (form_of type) (v ∷ vs) ++ r ≡ bytes_of type v ++ (joined (form_of type) vs ++ r)
first_and_rest type v vs r = append_assoc (bytes_of type v) (joined (form_of type) vs) r

same_all : (type : ElementaryType) (vs ws : List Value) (r s : List ℕ) → AllByRecursion (IsOf (form_of type)) vs → AllByRecursion (IsOf (form_of type)) ws
    → length vs ≡ length ws → joined (form_of type) vs ++ r ≡ joined (form_of type) ws ++ s → (vs ≡ ws) × (r ≡ s)
same_all type [] [] r s hv hw lengths e = (refl, e)
same_all type [] (w ∷ ws) r s hv hw lengths e = absurd (omega (arith, lengths))
same_all type (v ∷ vs) [] r s hv hw lengths e = absurd (omega (arith, lengths))
same_all type (v ∷ vs) (w ∷ ws) r s hv hw lengths e =
    let first = same_first type v w (joined (form_of type) vs ++ r) (joined (form_of type) ws ++ s) hv.0 hw.0
    (sym (first_and_rest type v vs r) ∙ e ∙ first_and_rest type w ws s) in
    let others = same_all type vs ws r s hv.1 hw.1 (omega (arith, lengths)) first.1 in
    (rw (first.0, others.0) refl, others.1)

same_field : (field : Field) (bytes : List ℕ) (vs ws : List Value) (r s : List ℕ) → FieldBegins field bytes vs r
    → FieldBegins field bytes ws s → (vs ≡ ws) × (r ≡ s)
same_field field bytes vs ws r s h k =
    same_all field.element vs ws r s h.begins.of_type k.begins.of_type
    (h.counted ∙ sym k.counted) (sym h.begins.bytes_of ∙ k.begins.bytes_of)

-- after fewer values, what is left begins with a value
next_value : (type : ElementaryType) (vs ws : List Value) (r s : List ℕ) → AllByRecursion (IsOf (form_of type)) vs → AllByRecursion (IsOf (form_of type)) ws
    → length ws < length vs → joined (form_of type) vs ++ r ≡ joined (form_of type) ws ++ s → (x : Value) × ((more : List ℕ) × BeginsWith (form_of type) s x more)
next_value type [] ws r s hv hw fewer e = absurd (omega (arith, fewer))
next_value type (v ∷ vs) [] r s hv hw fewer e =
    (v, (joined (form_of type) vs ++ r, record { of_type = hv.0; bytes_of = sym e ∙ first_and_rest type v vs r }))
next_value type (v ∷ vs) (w ∷ ws) r s hv hw fewer e =
    let first = same_first type v w (joined (form_of type) vs ++ r) (joined (form_of type) ws ++ s) hv.0 hw.0
    (sym (first_and_rest type v vs r) ∙ e ∙ first_and_rest type w ws s) in
    next_value type vs ws r s hv.1 hw.1 (omega (arith, fewer)) first.1

-- ---- all fields

pub same_values : (fields : List Field) (bytes : List ℕ) (values others : List Value) → AreBytesOfFields fields bytes values
    → AreBytesOfFields fields bytes others → values ≡ others
same_values [] bytes values others h k = h.1 ∙ sym k.1
same_values (field ∷ fields) bytes values others (vs, (more, (r, (begins, values_are, left)))) (ws, (most, (s, (starts, others_are, behind)))) =
    let mine = same_field field bytes vs ws r s begins starts in
    let rest : more ≡ most = same_values fields r more most left (subst (λ (b : List ℕ). AreBytesOfFields fields b most) (sym mine.1) behind) in
    values_are ∙ ap (λ (xs : List Value). xs ++ more) mine.0 ∙ ap (λ (xs : List Value). ws ++ xs) rest ∙ sym others_are

front_read : (field : Field) (bytes : List ℕ) (values : List Value) (rest : List ℕ) (fault : ValueFault)
    → FieldBegins field bytes values rest → (fault ≡ value_faults.Memory → ⊥) → IsFrontFault (form_of field.element) (count_of field) bytes fault → ⊥
front_read field bytes values rest fault h known =
    elim fault as (λ f. (f ≡ value_faults.Memory → ⊥) → IsFrontFault (form_of field.element) (count_of field) bytes f → ⊥) [
      | value_faults.Memory ↦ λ not cut. not refl
      | other ↦ λ not cut.
          let fewer : length cut.values < length values = omega (arith, cut.fewer, h.counted) in
          let (x, (more, front)) = next_value field.element values cut.values rest cut.rest
          h.begins.of_type cut.begins.of_type fewer (sym h.begins.bytes_of ∙ cut.begins.bytes_of) in
          front_is_read (form_of field.element) cut.rest x more other (form_sized field.element) front cut.unread
    ] known

field_read : (number : ℕ) (field : Field) (bytes : List ℕ) (values : List Value) (rest : List ℕ) (fault : FieldsFault)
    → FieldBegins field bytes values rest → IsUnread number field bytes fault → ⊥
field_read number field bytes values rest (faults.Field place fault) h (at, known, refused) = front_read field bytes values rest fault h known refused
field_read number field bytes values rest (faults.Trailing count) h unread = unread
field_read number field bytes values rest (faults.Count wanted given) h unread = unread
field_read number field bytes values rest faults.Memory h unread = unread

nothing_trails : (bytes : List ℕ) (fault : FieldsFault) → bytes ≡ [] → IsTrailing bytes fault → ⊥
nothing_trails bytes (faults.Trailing count) none (some, is) = let size = ap length none in omega (arith, some, is, size)
nothing_trails bytes (faults.Field place fault) none trailing = trailing
nothing_trails bytes (faults.Count wanted given) none trailing = trailing
nothing_trails bytes faults.Memory none trailing = trailing

all_read : (number : ℕ) (fields : List Field) (bytes : List ℕ) (values : List Value) (fault : FieldsFault)
    → AreBytesOfFields fields bytes values → IsReadFaultFrom number fields bytes fault → ⊥
all_read number [] bytes values fault h refused = nothing_trails bytes fault h.0 refused
all_read number (field ∷ fields) bytes values fault (vs, (more, (r, (begins, values_are, left)))) (inl unread) =
    field_read number field bytes vs r fault begins unread
all_read number (field ∷ fields) bytes values fault (vs, (more, (r, (begins, values_are, left)))) (inr (ws, (s, (starts, refused)))) =
    let mine = same_field field bytes vs ws r s begins starts in
    all_read (number + 1) fields s more fault (subst (λ (b : List ℕ). AreBytesOfFields fields b more) mine.1 left) refused

pub is_read_again : (fields : List Field) (bytes : List ℕ) (values : List Value) (fault : FieldsFault) → AreBytesOfFields fields bytes values
    → IsReadFault fields bytes fault → fault ≡ faults.Memory
is_read_again fields bytes values faults.Memory h refused = refl
is_read_again fields bytes values (faults.Field place fault) h refused = absurd (all_read 1 fields bytes values (faults.Field place fault) h refused)
is_read_again fields bytes values (faults.Trailing count) h refused = absurd (all_read 1 fields bytes values (faults.Trailing count) h refused)
is_read_again fields bytes values (faults.Count wanted given) h refused = absurd (all_read 1 fields bytes values (faults.Count wanted given) h refused)
