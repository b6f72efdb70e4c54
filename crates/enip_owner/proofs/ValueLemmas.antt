-- The bytes of values, one after another.
use Rattle.std.proofs.Common.{◌≡◌, ℕ, zero, suc, ◌+◌, ◌<◌, ◌≤◌, ◌-◌, ◌*◌, List, [], ◌∷◌, ◌++◌, length, map, take, drop, get_or, refl, sym, ap, subst, ◌∙◌, append_assoc, append-nil, arith, Option, Some, None, Bool, true, false, ◌&&◌, nat_lt, nat_le}
use Rattle.std.specs.Option.{option_map}
use Rattle.std.proofs.lemmas.Bool.{lt-ltb, le-ltb}
use Rattle.std.proofs.lemmas.List.{take_more, take_all, map-append}
use Rattle.cip_values.specs.declared.element.ElementaryType.{ElementaryType}
use Rattle.enip_owner.specs.declared.request.GivenValue.{GivenValue}
use Rattle.enip_owner.specs.declared.written_values.Kind.{Kind}
use Rattle.enip_owner.specs.declared.written_values.Kind.TheVariants as kinds
use Rattle.enip_owner.specs.declared.written_values.ValuesFault.{ValuesFault}
use Rattle.enip_owner.specs.declared.written_values.ValuesFault.TheVariants as faults
use Rattle.cip_values.specs.declared.element.ValueType.{ValueType}
use Rattle.enip_owner.specs.Requests.{Given, Text, given_in}
use Rattle.enip_owner.specs.Values.{kind_of, IsBytes, EachIsBytes, AppendsGiven, IsFaultBy, IsFirstFault, IsValueFault, IsGivenFault, latin_bytes, is_pair, pair_byte}

each_more : (element : ElementaryType) (values : List Given) (value : Given) (bytes more : List ℕ) → EachIsBytes element values bytes
    → IsBytes element value more → EachIsBytes element (values ++ value ∷ []) (bytes ++ more)
each_more element [] value bytes more each is =
    (more, [], is, refl, ap (λ (l : List ℕ). l ++ more) each ∙ sym (append-nil more))
each_more element (first ∷ values) value bytes more each is = (
  each.0,
  each.1 ++ more,
  each.2,
  each_more element values value each.1 more each.3 is,
  ap (λ (l : List ℕ). l ++ more) each.4 ∙ append_assoc each.0 each.1 more,
)

-- The first values are appended, and then one more is.
pub one_more : (element : ElementaryType) (values : List GivenValue) (index : ℕ) (default_ : GivenValue) (old new : List ℕ) → index < length values
    → EachIsBytes element (map given_in (take index values)) old → AppendsGiven element (given_in (get_or values index default_)) old new
    → EachIsBytes element (map given_in (take (index + 1) values)) new
one_more element values index default_ old new inside each appends =
    let shown : map given_in (take (index + 1) values) ≡ map given_in (take index values) ++ given_in (get_or values index default_) ∷ [] =
    ap (map given_in) (take_more values index default_ inside) ∙ map-append given_in (take index values) (get_or values index default_ ∷ []) in
    subst (λ (vs : List Given). EachIsBytes element vs new) (sym shown)
    (subst (λ (l : List ℕ). EachIsBytes element (map given_in (take index values) ++ given_in (get_or values index default_) ∷ []) l)
    (sym appends.appended)
    (each_more element (map given_in (take index values)) (given_in (get_or values index default_)) old appends.bytes each appends.are))

pub all_done : (element : ElementaryType) (values : List GivenValue) (index : ℕ) (bytes : List ℕ) → length values ≤ index
    → EachIsBytes element (map given_in (take index values)) bytes → EachIsBytes element (map given_in values) bytes
all_done element values index bytes done each =
    subst (λ (vs : List GivenValue). EachIsBytes element (map given_in vs) bytes) (take_all index values done) each

-- ---- refusals

-- One value is never refused for the number of the values.
count_never : (kind : Kind) (element : ElementaryType) (value : Given) → IsFaultBy kind element value faults.Count → ⊥
count_never kinds.ShortText element (Text text) h = h
count_never kind element value h = h

split_at : (values : List GivenValue) (index : ℕ) (default_ : GivenValue) → index < length values
    → map given_in values ≡ map given_in (take index values) ++ given_in (get_or values index default_) ∷ map given_in (drop (index + 1) values)
split_at [] index default_ inside = absurd (omega (arith, inside))
split_at (value ∷ values) zero default_ inside = refl
split_at (value ∷ values) (suc index) default_ inside =
    let next : suc index + 1 ≡ suc (index + 1) = omega arith in
    rw next (ap (λ (vs : List Given). given_in value ∷ vs) (split_at values index default_ (omega (arith, inside))))

-- The first values are appended, and the next one is refused.
pub given_fault : (value_type : ValueType) (values : List GivenValue) (index : ℕ) (default_ : GivenValue) (bytes : List ℕ) (fault : ValuesFault)
    → index < length values → EachIsBytes value_type.element (map given_in (take index values)) bytes
    → IsValueFault value_type.element (given_in (get_or values index default_)) fault → IsGivenFault value_type (map given_in values) fault
given_fault value_type values index default_ bytes faults.Count inside each is =
    absurd (count_never (kind_of value_type.element) value_type.element (given_in (get_or values index default_)) is)
given_fault value_type values index default_ bytes faults.Memory inside each is = tt
given_fault value_type values index default_ bytes fault inside each is = record {
  before = map given_in (take index values);
  value = given_in (get_or values index default_);
  behind = map given_in (drop (index + 1) values);
  bytes = bytes;
  place = split_at values index default_ inside;
  each = each;
  refused = is;
}

pub length_given : (values : List GivenValue) → length (map given_in values) ≡ length values
length_given [] = refl
length_given (value ∷ values) = ap suc (length_given values)

-- ---- texts of one byte for each character

pub first_short : (text : List ℕ) → 0 < length text → get_or text 0 0 < 128
    → latin_bytes text ≡ option_map (λ bytes. get_or text 0 0 ∷ bytes) (latin_bytes (drop 1 text))
unfolding latin_bytes
first_short [] some small = absurd (omega (arith, some))
first_short (byte ∷ []) some small = rw (lt-ltb byte 128 small) refl
first_short (byte ∷ next ∷ rest) some small = rw (lt-ltb byte 128 small) refl

pub first_pair : (text : List ℕ) → 2 ≤ length text → 128 ≤ get_or text 0 0 → is_pair (get_or text 0 0) (get_or text 1 0) ≡ true
    → latin_bytes text ≡ option_map (λ bytes. pair_byte (get_or text 0 0) (get_or text 1 0) ∷ bytes) (latin_bytes (drop 2 text))
unfolding latin_bytes
first_pair [] two big pair = absurd (omega (arith, two))
first_pair (byte ∷ []) two big pair = absurd (omega (arith, two))
first_pair (byte ∷ next ∷ rest) two big pair = rw (le-ltb byte 128 big, pair) refl

pub first_alone : (text : List ℕ) → length text < 2 → 0 < length text → 128 ≤ get_or text 0 0 → latin_bytes text ≡ None
unfolding latin_bytes
first_alone [] one some big = absurd (omega (arith, some))
first_alone (byte ∷ []) one some big = rw (le-ltb byte 128 big) refl
first_alone (byte ∷ next ∷ rest) one some big = absurd (omega (arith, one))

pub first_wide : (text : List ℕ) → 2 ≤ length text → 128 ≤ get_or text 0 0 → is_pair (get_or text 0 0) (get_or text 1 0) ≡ false
    → latin_bytes text ≡ None
unfolding latin_bytes
first_wide [] two big pair = absurd (omega (arith, two))
first_wide (byte ∷ []) two big pair = absurd (omega (arith, two))
first_wide (byte ∷ next ∷ rest) two big pair = rw (le-ltb byte 128 big, pair) refl

-- Bytes in front of those that follow.
abbrev pub with_front : List ℕ → Option (List ℕ) → Option (List ℕ)
with_front front rest = option_map (λ bytes. front ++ bytes) rest

pub nothing_read : (rest : Option (List ℕ)) → with_front [] rest ≡ rest
nothing_read None = refl
nothing_read (Some bytes) = refl

pub all_read : (front rest : List ℕ) → length rest ≡ 0 → with_front front (latin_bytes rest) ≡ Some front
unfolding latin_bytes
all_read front [] none = ap Some (append-nil front)
all_read front (byte ∷ rest) none = absurd (omega (arith, none))
