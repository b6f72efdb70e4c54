-- The types of the attributes of own objects. What is not an attribute with a type counts as one of no bytes.
use Rattle.std.specs.Prelude.{List, [], ◌∷◌, Vec, codes, Option, Some, None, unwrap_or}
use Rattle.std.specs.declared.alloc.Global.{Global}
use Rattle.toml.specs.Data.{Data, string, array, table, Items, no_items, item, Members, get_member}
use Rattle.attribute_types.specs.declared.attribute_type.AttributeType.{AttributeType}
use Rattle.attribute_types.specs.declared.attribute_type.AttributeType.TheVariants.{Bytes}
use Rattle.attribute_types.specs.Types.{type_named}

abbrev pub map_items : {A : Type 0} → (Data → A) → Items → List A
map_items read no_items = []
map_items read (item value values) = read value ∷ map_items read values

abbrev pub type_in : Option Data → AttributeType
type_in (Some (string name)) = unwrap_or (type_named name) (Bytes 0)
type_in _ = Bytes 0

abbrev pub type_of_attribute : Data → AttributeType
type_of_attribute (table described) = type_in (get_member (codes "type") described)
type_of_attribute _ = Bytes 0

abbrev pub types_in : Option Data → List AttributeType
types_in (Some (array values)) = map_items type_of_attribute values
types_in _ = []

abbrev pub types_of_object : Data → List AttributeType
types_of_object (table described) = types_in (get_member (codes "attribute") described)
types_of_object _ = []

abbrev pub all_types_in : Option Data → List (List AttributeType)
all_types_in (Some (array values)) = map_items types_of_object values
all_types_in _ = []

-- the types of the attributes of each object, in the order of the file
abbrev pub types_of : Members → List (List AttributeType)
types_of described = all_types_in (get_member (codes "object") described)

abbrev pub types_seen : Vec AttributeType Global → List AttributeType
types_seen types = types.items
