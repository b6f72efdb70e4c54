-- Values that are written to a line.
use Rattle.std.proofs.Common.{◌≡◌, ℕ, ◌+◌, ◌<◌, ◌≤◌, List, [], ◌∷◌, ◌++◌, length, take, get_or, map, Result, Ok, Err, Option, Some, None, Vec, String, BTreeMap, Global, Float, decimal, refl, sym, ap, subst, ◌∙◌, append_assoc, append-nil, arith, rules, ℤ, OnOk, inl, inr, ◌⊎◌, Bool, string_bytes, codes}
use Rattle.std.specs.Fmt.{signed_decimal}
use Rattle.std.specs.Float.{binary64}
use Rattle.std.specs.Float.Parse.{parse_float}
use Rattle.std.specs.List.{flat_map}
use Rattle.std.specs.Result.{IsErr}
use Rattle.std.proofs.lemmas.Bool.{false≢true}
use Rattle.std.proofs.lemmas.List.{take_more, take_all, map-append}
use Rattle.std.proofs.lemmas.Option.{none-some, same_Some}
use Rattle.std.specs.declared.alloc.AllocError.{AllocError}
use Rattle.json.specs.Json as json
use Rattle.json.specs.Json.{Json}
use Rattle.json.specs.Token.{Token, key, begin_object, end_object, begin_array, end_array, number, string}
use Rattle.json.specs.Tree.{json_tokens, items_tokens, depth, items_depth}
use Rattle.json.specs.Value.{items_of}
use Rattle.json.specs.Written.{Written, Writes}
use Rattle.serde_json.specs.Data as scalar
use Rattle.serde_json.specs.Data.{Data, Num}
use Rattle.serde_json.specs.Find.{as_u64, as_i64, to_float}
use Rattle.serde_json.specs.View.{view, number_view}
use Rattle.serde_json.specs.declared.number.Number.{Number as NumberInCode}
use Rattle.serde_json.specs.declared.value.Value.{Value as Scalar, Null, Bool as Truth, String as Text, Array, Object, the_lemmas}
use Rattle.serde_json.proofs.Views.{view-Array, view-Object}
use Rattle.std.specs.Net.Text.{ip_text}
use Rattle.hex.specs.Hex.{encode_lower}
use Rattle.cip_values.specs.Values.{Value, value_in, AreBytesOf}
use Rattle.cip_values.specs.declared.element.ValueType.{ValueType}
use Rattle.cip_values.specs.declared.value.Value.{Value as ValueInCode}
use Rattle.enip_owner.specs.declared.attribute_ref.AttributeRef.{AttributeRef}
use Rattle.enip_owner.specs.declared.event.AskedEvent.{AskedEvent}
use Rattle.enip_owner.specs.declared.event.ChangedEvent.{ChangedEvent}
use Rattle.enip_owner.specs.declared.event.ValueEvent.{ValueEvent}
use Rattle.enip_owner.specs.Events.{IsNumberJson, IsScalarJson, IsShownAs, EachShownAs, AreShownAs, named, count, hexadecimal, with_attribute, with_values, with_address, asked_json, changed_json, value_json}
use Rattle.enip_owner.specs.Shown.{AddsOne, AddsValues, AddsShown, list_tokens, shown_tokens, attribute_head, asked_front, asked_head, number_of_attribute}
use Rattle.enip_owner.specs.Parts.{text_member}
use Rattle.enip_owner.proofs.PartLemmas.{AreAdded}

-- ---- one value

pub adds_token : (r : Result (Unit {0}) AllocError) (old new : Written) (token : Token) (Is : Json → Type 0) (j : Json) → json_tokens j ≡ token ∷ []
    → Is j → Writes r old new token → AddsOne r old new Is
adds_token (Ok done) old new token Is j same it writes = record {
  ok = (j, (it, writes.ok ∙ ap (λ l. old.tokens ++ l) (sym same)));
  before = writes.room.0;
}
adds_token (Err why) old new token Is j same it writes = record { ok = tt; before = writes.room.0 }

pub unsigned_from : (n : Num) (k : ℕ) → Some k ≡ as_u64 n → n ≡ scalar.unsigned k
unsigned_from (scalar.unsigned m) k is = ap scalar.unsigned (sym (same_Some k m is))
unsigned_from (scalar.negative z) k is = absurd (none-some k (sym is))
unsigned_from (scalar.float x) k is = absurd (none-some k (sym is))

pub negative_from : (n : Num) (z : ℤ) → None ≡ as_u64 n → Some z ≡ as_i64 n → n ≡ scalar.negative z
negative_from (scalar.unsigned m) z none is = absurd (none-some m none)
negative_from (scalar.negative y) z none is = ap scalar.negative (sym (same_Some z y is))
negative_from (scalar.float x) z none is = absurd (none-some z (sym is))

pub float_from : (n : Num) (x : Float) → None ≡ as_u64 n → None ≡ as_i64 n → Some x ≡ Some (to_float n) → n ≡ scalar.float x
float_from (scalar.unsigned m) x none neither is = absurd (none-some m none)
float_from (scalar.negative y) x none neither is = absurd (none-some y neither)
float_from (scalar.float y) x none neither is = ap scalar.float (sym (same_Some x y is))

pub adds_float : (r : Result (Unit {0}) AllocError) (old new : Written) (x : Float)
    → OnOk r ((s : List ℕ) × (new.tokens ≡ old.tokens ++ number s ∷ []) × (parse_float binary64 s ≡ Some x)) → new.before ≡ old.before
    → AddsOne r old new (IsNumberJson (scalar.float x))
adds_float (Ok done) old new x added before = record {
  ok = (json.number added.0, (inl (added.0, (refl, added.2)), added.1));
  before = before;
}
adds_float (Err why) old new x added before = record { ok = tt; before = before }

pub view-Null : view Null ≡ scalar.null
view-Null = search (rules, the_lemmas)

pub view-Truth : (truth : Bool) → view (Truth truth) ≡ scalar.boolean truth
view-Truth truth = search (rules, the_lemmas)

pub view-Text : (text : String Global) → view (Text text) ≡ scalar.string (string_bytes text)
view-Text text = search (rules, the_lemmas)

-- What does not occur is written as null.
pub none_shown : (v : Scalar) → (v ≡ Null) ⊎ (((items : Vec Scalar Global) × (v ≡ Array items)) ⊎ ((all : BTreeMap (String Global) Scalar) × (v ≡ Object all)))
    → IsScalarJson (view v) json.null
none_shown v (inl is) = rw (is, view-Null) refl
none_shown v (inr (inl (items, is))) = rw (is, view-Array items) refl
none_shown v (inr (inr (all, is))) = rw (is, view-Object all) refl

-- ---- lists of values

-- The first values were written as a list.
pub record AreListed (old new : Written) (values : List Value) : Type 0 where
  pub js : List Json
  pub each : EachShownAs values js
  pub added : AreAdded old new (key (codes "values") ∷ begin_array ∷ flat_map json_tokens js)

pub list_begun : (old mid new : Written) → mid.tokens ≡ old.tokens ++ key (codes "values") ∷ [] → mid.before ≡ old.before
    → new.tokens ≡ mid.tokens ++ begin_array ∷ [] → new.before ≡ mid.before → AreListed old new []
list_begun old mid new first before second too = record {
  js = [];
  each = tt;
  added = record {
    tokens = second ∙ ap (λ l. l ++ begin_array ∷ []) first ∙ append_assoc old.tokens (key (codes "values") ∷ []) (begin_array ∷ []);
    before = too ∙ before;
  };
}

each_more : (values : List Value) (js : List Json) (value : Value) (j : Json) → EachShownAs values js → IsShownAs value j
    → EachShownAs (values ++ value ∷ []) (js ++ j ∷ [])
each_more [] [] value j each is = (is, tt)
each_more [] (k ∷ js) value j each is = absurd each
each_more (v ∷ values) [] value j each is = absurd each
each_more (v ∷ values) (k ∷ js) value j each is = (each.0, each_more values js value j each.1 is)

flat_more : (js : List Json) (j : Json) → flat_map json_tokens (js ++ j ∷ []) ≡ flat_map json_tokens js ++ json_tokens j
flat_more [] j = append-nil (json_tokens j)
flat_more (k ∷ js) j =
    ap (λ l. json_tokens k ++ l) (flat_more js j) ∙ sym (append_assoc (json_tokens k) (flat_map json_tokens js) (json_tokens j))

listed_more : (old mid new : Written) (values : List Value) (value : Value) (j : Json) → AreListed old mid values → IsShownAs value j
    → new.tokens ≡ mid.tokens ++ json_tokens j → new.before ≡ mid.before → AreListed old new (values ++ value ∷ [])
listed_more old mid new values value j listed is more before = record {
  js = listed.js ++ j ∷ [];
  each = each_more values listed.js value j listed.each is;
  added = record {
    tokens = more ∙ ap (λ l. l ++ json_tokens j) listed.added.tokens
        ∙ append_assoc old.tokens (key (codes "values") ∷ begin_array ∷ flat_map json_tokens listed.js) (json_tokens j)
        ∙ ap (λ l. old.tokens ++ key (codes "values") ∷ begin_array ∷ l) (sym (flat_more listed.js j));
    before = before ∙ listed.added.before;
  };
}

pub value_listed : (values : List ValueInCode) (index : ℕ) (default_ : ValueInCode) (old mid new : Written) → index < length values
    → AreListed old mid (map value_in (take index values)) → new.before ≡ mid.before
    → (j : Json) × (IsShownAs (value_in (get_or values index default_)) j × (new.tokens ≡ mid.tokens ++ json_tokens j))
    → AreListed old new (map value_in (take (index + 1) values))
value_listed values index default_ old mid new inside listed before (j, (is, more)) =
    let shown : map value_in (take (index + 1) values) ≡ map value_in (take index values) ++ value_in (get_or values index default_) ∷ [] =
    ap (map value_in) (take_more values index default_ inside) ∙ map-append value_in (take index values) (get_or values index default_ ∷ []) in
    subst (AreListed old new) (sym shown)
    (listed_more old mid new (map value_in (take index values)) (value_in (get_or values index default_)) j listed is more before)

items_tokens-list : (js : List Json) → items_tokens (items_of js) ≡ flat_map json_tokens js ++ end_array ∷ []
items_tokens-list [] = refl
items_tokens-list (j ∷ js) =
    ap (λ l. json_tokens j ++ l) (items_tokens-list js) ∙ sym (append_assoc (json_tokens j) (flat_map json_tokens js) (end_array ∷ []))

list_done : (r : Result (Unit {0}) AllocError) (old mid new : Written) (values : List Value) → AreListed old mid values
    → Writes r mid new end_array → AddsValues r old new values
list_done (Ok done) old mid new values listed writes = record {
  ok = (
    listed.js,
    (
      listed.each,
      writes.ok ∙ ap (λ l. l ++ end_array ∷ []) listed.added.tokens
          ∙ append_assoc old.tokens (key (codes "values") ∷ begin_array ∷ flat_map json_tokens listed.js) (end_array ∷ [])
          ∙ ap (λ l. old.tokens ++ key (codes "values") ∷ begin_array ∷ l) (sym (items_tokens-list listed.js)),
    ),
  );
  before = writes.room.0 ∙ listed.added.before;
}
list_done (Err why) old mid new values listed writes = record { ok = tt; before = writes.room.0 ∙ listed.added.before }

pub list_ended : (r : Result (Unit {0}) AllocError) (values : List ValueInCode) (index : ℕ) (old mid new : Written) → length values ≤ index
    → AreListed old mid (map value_in (take index values)) → Writes r mid new end_array → AddsValues r old new (map value_in values)
list_ended r values index old mid new done listed writes =
    list_done r old mid new (map value_in values) (subst (λ vs. AreListed old mid (map value_in vs)) (take_all index values done) listed) writes

pub list_failed : (r : Result (Unit {0}) AllocError) (old mid new : Written) (so_far values : List Value) → IsErr r → AreListed old mid so_far
    → new.before ≡ mid.before → AddsValues r old new values
list_failed (Ok done) old mid new so_far values failed listed same = absurd (false≢true failed)
list_failed (Err why) old mid new so_far values failed listed same = record { ok = tt; before = same ∙ listed.added.before }

-- ---- values in a line

pub values_shown : (r : Result (Unit {0}) AllocError) (old new : Written) (value_type : ValueType) (bytes : List ℕ) (values : List Value)
    → AreBytesOf value_type bytes values → AddsValues r old new values → AddsShown r old new (Some value_type) bytes
values_shown (Ok done) old new value_type bytes values are adds = record {
  ok = (Some adds.ok.0, ((values, (are, adds.ok.1.0)), adds.ok.1.1));
  before = adds.before;
}
values_shown (Err why) old new value_type bytes values are adds = record { ok = tt; before = adds.before }

number_flat : (n : Num) (j : Json) → IsNumberJson n j → depth j ≡ 0
number_flat (scalar.unsigned n) j is = ap depth is
number_flat (scalar.negative z) j is = ap depth is
number_flat (scalar.float x) j (inl (text, (is, reads))) = ap depth is
number_flat (scalar.float x) j (inr (is, never)) = ap depth is

scalar_flat : (d : Data) (j : Json) → IsScalarJson d j → depth j ≡ 0
scalar_flat scalar.null j is = ap depth is
scalar_flat (scalar.boolean truth) j is = ap depth is
scalar_flat (scalar.number n) j is = number_flat n j is
scalar_flat (scalar.string text) j is = ap depth is
scalar_flat (scalar.array items) j is = ap depth is
scalar_flat (scalar.object all) j is = ap depth is

each_flat : (values : List Value) (js : List Json) → EachShownAs values js → items_depth (items_of js) ≡ 0
each_flat [] [] each = refl
each_flat [] (j ∷ js) each = absurd each
each_flat (value ∷ values) [] each = absurd each
each_flat (value ∷ values) (j ∷ js) each = rw (scalar_flat each.0.0 j each.0.1.1, each_flat values js each.1) refl

list_shallow : (value_type : Option ValueType) (bytes : List ℕ) (js : List Json) → AreShownAs value_type bytes (Some js)
    → items_depth (items_of js) ≡ 0
list_shallow None bytes js are = absurd are
list_shallow (Some value_type) bytes js are = each_flat are.0 js are.1.1

-- ---- the lines with values

pub changed_tokens : (e : ChangedEvent) (shown : Option (List Json))
    → attribute_head (codes "changed") e.attribute e.«data».now
    ++ (shown_tokens shown ++ key (codes "by") ∷ string (ip_text e.by) ∷ end_object ∷ end_object ∷ [])
    ≡ json_tokens (changed_json e shown)
changed_tokens e None = refl
changed_tokens e (Some js) =
    ap (λ l. attribute_head (codes "changed") e.attribute e.«data».now ++ key (codes "values") ∷ begin_array ∷ l)
    (sym (append_assoc (items_tokens (items_of js)) (key (codes "by") ∷ string (ip_text e.by) ∷ end_object ∷ []) (end_object ∷ [])))

pub value_tokens : (e : ValueEvent) (shown : Option (List Json))
    → attribute_head (codes "value") e.attribute e.«data».now ++ (shown_tokens shown ++ end_object ∷ end_object ∷ [])
    ≡ json_tokens (value_json e shown)
value_tokens e None = refl
value_tokens e (Some js) =
    ap (λ l. attribute_head (codes "value") e.attribute e.«data».now ++ key (codes "values") ∷ begin_array ∷ l)
    (sym (append_assoc (items_tokens (items_of js)) (end_object ∷ []) (end_object ∷ [])))

pub changed_shallow : (e : ChangedEvent) (shown : Option (List Json)) → AreShownAs e.value_type e.«data».now shown
    → depth (changed_json e shown) ≤ 128
changed_shallow e None are = omega arith
changed_shallow e (Some js) are =
    let flat = list_shallow e.value_type e.«data».now js are in omega (arith, flat)

pub value_shallow : (e : ValueEvent) (shown : Option (List Json)) → AreShownAs e.value_type e.«data».now shown
    → depth (value_json e shown) ≤ 128
value_shallow e None are = omega arith
value_shallow e (Some js) are =
    let flat = list_shallow e.value_type e.«data».now js are in omega (arith, flat)

-- with this attribute
abbrev asked_head_by : Option ℕ → AskedEvent → List Token
asked_head_by attribute e =
    asked_front e ++ (number_of_attribute attribute ++ text_member (codes "data") (encode_lower e.«data».now))

abbrev asked_json_by : Option ℕ → AskedEvent → Option (List Json) → Json
asked_json_by attribute e values =
    named (codes "asked")
    (json.member (codes "question") (count e.question)
    (json.member (codes "class") (count e.class)
    (json.member (codes "instance") (count e.instance)
    (json.member (codes "service") (count e.service)
    (with_attribute attribute
    (json.member (codes "data") (hexadecimal e.«data».now) (with_values values (with_address (Some e.by) json.no_members))))))))

asked_shown : (attribute : Option ℕ) (e : AskedEvent) (shown : Option (List Json))
    → asked_head_by attribute e
    ++ (shown_tokens shown ++ key (codes "by") ∷ string (ip_text e.by) ∷ end_object ∷ end_object ∷ [])
    ≡ json_tokens (asked_json_by attribute e shown)
asked_shown None e None = refl
asked_shown (Some a) e None = refl
asked_shown None e (Some js) =
    ap (λ l. asked_head_by None e ++ key (codes "values") ∷ begin_array ∷ l)
    (sym (append_assoc (items_tokens (items_of js)) (key (codes "by") ∷ string (ip_text e.by) ∷ end_object ∷ []) (end_object ∷ [])))
asked_shown (Some a) e (Some js) =
    ap (λ l. asked_head_by (Some a) e ++ key (codes "values") ∷ begin_array ∷ l)
    (sym (append_assoc (items_tokens (items_of js)) (key (codes "by") ∷ string (ip_text e.by) ∷ end_object ∷ []) (end_object ∷ [])))

pub asked_tokens : (e : AskedEvent) (shown : Option (List Json))
    → asked_head e ++ (shown_tokens shown ++ key (codes "by") ∷ string (ip_text e.by) ∷ end_object ∷ end_object ∷ [])
    ≡ json_tokens (asked_json e shown)
asked_tokens e shown = asked_shown e.attribute e shown

asked_flat : (attribute : Option ℕ) (e : AskedEvent) (shown : Option (List Json))
    → AreShownAs e.value_type e.«data».now shown → depth (asked_json_by attribute e shown) ≤ 128
asked_flat None e None are = omega arith
asked_flat (Some a) e None are = omega arith
asked_flat None e (Some js) are =
    let flat = list_shallow e.value_type e.«data».now js are in omega (arith, flat)
asked_flat (Some a) e (Some js) are =
    let flat = list_shallow e.value_type e.«data».now js are in omega (arith, flat)

pub asked_shallow : (e : AskedEvent) (shown : Option (List Json)) → AreShownAs e.value_type e.«data».now shown
    → depth (asked_json e shown) ≤ 128
asked_shallow e shown are = asked_flat e.attribute e shown are
