-- The values of a layout as JSON: a list, or if its fields have names, an object.
use Rattle.std.specs.Prelude.{◌≡◌, ⊤, ℕ, Bool, true, false, Option, None, Some, List, [], ◌∷◌, ◌++◌, take, drop, codes, MatchBool}
use Rattle.hex.specs.Hex.{encode_lower}
use Rattle.json.specs.Lex.{tokens}
use Rattle.json.specs.Print.{print}
use Rattle.serde_json.specs.Read.{read}
use Rattle.serde_json.specs.View.{items_view}
use Rattle.serde_json.specs.declared.value.Value.{Value as Json}
use Rattle.serde_json.specs.Data.{Data, string, array, object, Items, no_items, item, Members, member, no_members, put}
use Rattle.cip_values.specs.Values.{Value}
use Rattle.cip_layouts.specs.Fields.{count_of}
use Rattle.cip_layouts.specs.Layouts.{fields_of, name_of, has_names, layout_text}
use Rattle.cip_layouts.specs.declared.field.Field.{Field}
use Rattle.cip_layouts.specs.declared.layout.Layout.{Layout}
use Rattle.cip_layouts.specs.declared.name.FieldName.{FieldName}
use Rattle.enip_lines.specs.JsonValues.{count, latin, IsJsonOf, AreJsonOf}

-- The values of one field: a list if the field is an array, otherwise its one value.
abbrev pub IsFieldJson : Option ℕ → List Value → Data → Type 0
IsFieldJson None (value ∷ []) d = IsJsonOf value d
IsFieldJson number values d = AreJsonOf values d

-- The member of one field is added, if it has a name.
abbrev pub with_named : Option FieldName → Data → Members → Members
with_named None d members = members
with_named (Some name) d members = put (latin (name_of name)) d members

abbrev pub AddsMember : Field → List Value → Members → Members → Type 0
AddsMember field values before after = (d : Data) × (IsFieldJson field.count values d × (after ≡ with_named field.name d before))

-- One item for each field, in their order.
abbrev pub AreItemsOf : List Field → List Value → Items → Type 0
AreItemsOf [] values no_items = ⊤
AreItemsOf (field ∷ fields) values (item d ds) =
    IsFieldJson field.count (take (count_of field) values) d × AreItemsOf fields (drop (count_of field) values) ds
AreItemsOf fields values items = ⊥

-- The members after those of the fields are added, in their order.
abbrev pub AreMembersOf : List Field → List Value → Members → Members → Type 0
AreMembersOf [] values before after = after ≡ before
AreMembersOf (field ∷ fields) values before after = (mid : Members)
    × (AddsMember field (take (count_of field) values) before mid × AreMembersOf fields (drop (count_of field) values) mid after)

-- One value more for each field.
pub record AddsItems (fields : List Field) (values : List Value) (old new : List Json) : Type 0 where
  pub added : List Json
  pub items : AreItemsOf fields values (items_view added)
  pub appended : new ≡ old ++ added

-- The values of all fields.
abbrev pub AreFieldsJson : List Field → List Value → Data → Type 0
AreFieldsJson fields values d = MatchBool (has_names fields)
    ((members : Members) × (AreMembersOf fields values no_members members × (d ≡ object members)))
    ((items : Items) × (AreItemsOf fields values items × (d ≡ array items)))

-- A reply, with its data in hexadecimal, their layout and their values.
abbrev pub fields_json : List ℕ → Layout → Data → Data
fields_json bytes layout given =
    object (member (codes "data") (string (encode_lower bytes))
    (member (codes "status") (count 0)
    (member (codes "type") (string (layout_text (fields_of layout)))
    (member (codes "values") given no_members))))

abbrev pub IsFieldsObject : List ℕ → Layout → List Value → Data → Type 0
IsFieldsObject bytes layout values d =
    (given : Data) × (AreFieldsJson (fields_of layout) values given × (d ≡ fields_json bytes layout given))

-- The line parses to that object, and has nothing between its tokens.
abbrev pub IsFieldsLine : List ℕ → Layout → List Value → List ℕ → Type 0
IsFieldsLine bytes layout values line =
    (d : Data) × (IsFieldsObject bytes layout values d × (read line ≡ Some d) × (line ≡ print (tokens line)))
