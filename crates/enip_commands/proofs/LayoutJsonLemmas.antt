-- The values of fields as JSON, field by field.
use Rattle.std.proofs.Common.{◌≡◌, ℕ, ◌+◌, ◌<◌, ◌≤◌, Bool, true, false, List, [], ◌∷◌, ◌++◌, length, map, take, drop, get_or, Option, Some, None, Result, Ok, Err, Ordering, Less, Equal, Greater, sym, ap, subst, ◌∙◌, append_assoc, arith, suc, String, Global, string_bytes}
use Rattle.std.specs.Prelude.{OnOk, IfOk, MatchBool}
use Rattle.std.specs.Ordering.{match_ordering}
use Rattle.std.proofs.lemmas.List.{drop_more, take-map, drop-map}
use Rattle.json.specs.Lex.{tokens}
use Rattle.json.specs.Print.{print}
use Rattle.serde_json.specs.Read.{read, max_depth}
use Rattle.serde_json.specs.Data.{Data, null, boolean, number, string, array, object, Items, no_items, item, Members, no_members, member, put, depth, items_depth, members_depth}
use Rattle.serde_json.specs.View.{view, items_of, items_view}
use Rattle.serde_json.specs.declared.value.Value.{Value as Json}
use Rattle.cip_values.specs.Values.{Value, value_in}
use Rattle.cip_values.specs.declared.value.Value.{Value as ValueInCode}
use Rattle.cip_layouts.specs.Fields.{count_of}
use Rattle.cip_layouts.specs.Layouts.{fields_of, has_names, name_of}
use Rattle.cip_layouts.specs.declared.field.Field.{Field}
use Rattle.cip_layouts.specs.declared.layout.Layout.{Layout}
use Rattle.cip_layouts.specs.declared.name.FieldName.{FieldName}
use Rattle.enip_lines.specs.JsonValues.{latin, IsJsonOf, AreJsonOf}
use Rattle.enip_commands.specs.LayoutJson.{IsFieldJson, AddsMember, with_named, AreItemsOf, AreMembersOf, AddsItems, AreFieldsJson, IsFieldsObject, IsFieldsLine}
use Rattle.enip_commands.proofs.JsonLemmas.{told_flat, list_nests}

left_is : (fields : List Field) (index : ℕ) (field : Field) → index < length fields → field ≡ get_or fields index field
    → drop index fields ≡ field ∷ drop (index + 1) fields
left_is fields index field inside is =
    drop_more fields index field inside ∙ ap (λ (f : Field). f ∷ drop (index + 1) fields) (sym is)

-- ---- members

one_more_member : (fields : List Field) (index : ℕ) (field : Field) (values : List Value) (before mid after : Members)
    → index < length fields → field ≡ get_or fields index field → AddsMember field (take (count_of field) values) before mid
    → AreMembersOf (drop (index + 1) fields) (drop (count_of field) values) mid after → AreMembersOf (drop index fields) values before after
one_more_member fields index field values before mid after inside is one h =
    subst (λ (fs : List Field). AreMembersOf fs values before after) (sym (left_is fields index field inside is)) (mid, (one, h))

-- the values of a slice that is split for a field
pub record Split (field : Field) (values mine rest : List ValueInCode) : Type 0 where
  pub count : ℕ
  pub counts : count ≡ count_of field
  pub front : mine ≡ take count values
  pub back : rest ≡ drop count values

front_is : (field : Field) (values mine rest : List ValueInCode) → Split field values mine rest
    → map value_in mine ≡ take (count_of field) (map value_in values)
front_is field values mine rest h =
    ap (map value_in) h.front ∙ sym (take-map value_in h.count values) ∙ ap (λ (n : ℕ). take n (map value_in values)) h.counts

back_is : (field : Field) (values mine rest : List ValueInCode) → Split field values mine rest
    → map value_in rest ≡ drop (count_of field) (map value_in values)
back_is field values mine rest h =
    ap (map value_in) h.back ∙ sym (drop-map value_in h.count values) ∙ ap (λ (n : ℕ). drop n (map value_in values)) h.counts

pub more_members : {E : Type 0} (r : Result (Unit {0}) E) (fields : List Field) (index : ℕ) (field : Field) (values mine rest : List ValueInCode)
    (before mid after : Members) → index < length fields → field ≡ get_or fields index field → Split field values mine rest
    → AddsMember field (map value_in mine) before mid
    → OnOk r (AreMembersOf (drop (index + 1) fields) (map value_in rest) mid after)
    → OnOk r (AreMembersOf (drop index fields) (map value_in values) before after)
more_members (Ok done) fields index field values mine rest before mid after inside is split one h =
    one_more_member fields index field (map value_in values) before mid after inside is
    (subst (λ (vs : List Value). AddsMember field vs before mid) (front_is field values mine rest split) one)
    (subst (λ (vs : List Value). AreMembersOf (drop (index + 1) fields) vs mid after) (back_is field values mine rest split) h)
more_members (Err why) fields index field values mine rest before mid after inside is split one h = h

-- ---- items

one_more_item : (fields : List Field) (index : ℕ) (field : Field) (values : List Value) (json : Json) (old mid new : List Json)
    → index < length fields → field ≡ get_or fields index field → IsFieldJson field.count (take (count_of field) values) (view json)
    → mid ≡ old ++ json ∷ [] → AddsItems (drop (index + 1) fields) (drop (count_of field) values) mid new
    → AddsItems (drop index fields) values old new
one_more_item fields index field values json old mid new inside is one pushed h =
    subst (λ (fs : List Field). AddsItems fs values old new) (sym (left_is fields index field inside is)) (record {
      added = json ∷ h.added;
      items = (one, h.items);
      appended = h.appended ∙ ap (λ (xs : List Json). xs ++ h.added) pushed ∙ append_assoc old (json ∷ []) h.added;
    })

pub more_items : {E : Type 0} (r : Result (Unit {0}) E) (fields : List Field) (index : ℕ) (field : Field) (values mine rest : List ValueInCode)
    (json : Json) (old mid new : List Json) → index < length fields → field ≡ get_or fields index field → Split field values mine rest
    → IsFieldJson field.count (map value_in mine) (view json) → mid ≡ old ++ json ∷ []
    → OnOk r (AddsItems (drop (index + 1) fields) (map value_in rest) mid new)
    → OnOk r (AddsItems (drop index fields) (map value_in values) old new)
more_items (Ok done) fields index field values mine rest json old mid new inside is split one pushed h =
    one_more_item fields index field (map value_in values) json old mid new inside is
    (subst (λ (vs : List Value). IsFieldJson field.count vs (view json)) (front_is field values mine rest split) one) pushed
    (subst (λ (vs : List Value). AddsItems (drop (index + 1) fields) vs mid new) (back_is field values mine rest split) h)
more_items (Err why) fields index field values mine rest json old mid new inside is split one pushed h = h

-- ---- how deep the values nest

single_flat : (values : List Value) (d : Data) → IsFieldJson None values d → depth d ≤ 1
single_flat [] d h = let n = list_nests [] d h in omega (arith, n)
single_flat (value ∷ []) d h = let n = told_flat value d h in omega (arith, n)
single_flat (value ∷ other ∷ values) d h = let n = list_nests (value ∷ other ∷ values) d h in omega (arith, n)

field_nests : (count : Option ℕ) (values : List Value) (d : Data) → IsFieldJson count values d → depth d ≤ 1
field_nests None values d h = single_flat values d h
field_nests (Some count) values d h = let n = list_nests values d h in omega (arith, n)

items_nest : (fields : List Field) (values : List Value) (items : Items) → AreItemsOf fields values items → items_depth items ≤ 1
items_nest [] values no_items h = omega arith
items_nest [] values (item d ds) h = absurd h
items_nest (field ∷ fields) values no_items h = absurd h
items_nest (field ∷ fields) values (item d ds) h =
    let first = field_nests field.count (take (count_of field) values) d h.0 in
    let others = items_nest fields (drop (count_of field) values) ds h.1 in
    omega (arith, first, others)

ordered_nest : (o : Ordering) (a b c : Members) (n : ℕ) → members_depth a ≤ n → members_depth b ≤ n → members_depth c ≤ n
    → members_depth (match_ordering o a b c) ≤ n
ordered_nest Less a b c n p q r = p
ordered_nest Equal a b c n p q r = q
ordered_nest Greater a b c n p q r = r

put_nests : (k : List ℕ) (d : Data) (ms : Members) (n : ℕ) → depth d ≤ n → members_depth ms ≤ n → members_depth (put k d ms) ≤ n
put_nests k d no_members n p q = omega arith
put_nests k d (member l e ms) n p q =
    ordered_nest _ (member k d (member l e ms)) (member l d ms) (member l e (put k d ms)) n (omega arith) (omega arith)
    (omega (arith, put_nests k d ms n p (omega arith)))

named_nests : (field : Field) (values : List Value) (before after : Members) → AddsMember field values before after → members_depth before ≤ 1
    → members_depth after ≤ 1
named_nests field values before after (d, (one, is)) fits =
    subst (λ (ms : Members). members_depth ms ≤ 1) (sym is) (by field.name)
  where
    flat : depth d ≤ 1
    flat = field_nests field.count values d one

    by : (name : Option FieldName) → members_depth (with_named name d before) ≤ 1
    by None = fits
    by (Some name) = put_nests (latin (name_of name)) d before 1 flat fits

members_nest : (fields : List Field) (values : List Value) (before after : Members) → AreMembersOf fields values before after
    → members_depth before ≤ 1 → members_depth after ≤ 1
members_nest [] values before after h fits = subst (λ (ms : Members). members_depth ms ≤ 1) (sym h) fits
members_nest (field ∷ fields) values before after (mid, (one, others)) fits =
    members_nest fields (drop (count_of field) values) mid after others
    (named_nests field (take (count_of field) values) before mid one fits)

given_nests : (fields : List Field) (values : List Value) (d : Data) → AreFieldsJson fields values d → depth d ≤ 2
given_nests fields values d h = by (has_names fields) h
  where
    by : (t : Bool) → MatchBool t ((members : Members) × (AreMembersOf fields values no_members members × (d ≡ object members)))
        ((items : Items) × (AreItemsOf fields values items × (d ≡ array items))) → depth d ≤ 2
    by true (members, (h, is)) =
        let n = members_nest fields values no_members members h (omega arith) in
        let size = ap depth is in
        omega (arith, n, size)
    by false (items, (h, is)) =
        let n = items_nest fields values items h in
        let size = ap depth is in
        omega (arith, n, size)

pub fields_nest : (bytes : List ℕ) (layout : Layout) (values : List Value) (d : Data) → IsFieldsObject bytes layout values d → depth d ≤ 3
fields_nest bytes layout values d (given, (h, is)) =
    let n = given_nests (fields_of layout) values given h in
    let size = ap depth is in
    omega (arith, n, size)

-- What is known of the line of some values, if there is one.
pub fields_line_from : {E : Type 0} (d : Data) (bytes : List ℕ) (layout : Layout) (values : List Value) (r : Result (String Global) E)
    → IsFieldsObject bytes layout values d → depth d ≤ max_depth → IfOk r (λ s. depth d ≤ max_depth → read (string_bytes s) ≡ Some d)
    → IfOk r (λ s. string_bytes s ≡ print (tokens (string_bytes s))) → IfOk r (λ s. IsFieldsLine bytes layout values (string_bytes s))
fields_line_from d bytes layout values (Ok s) shown flat reads compact = (d, (shown, reads flat, compact))
fields_line_from d bytes layout values (Err why) shown flat reads compact = tt
