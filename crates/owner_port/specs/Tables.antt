-- The types of attributes, and which of them peers can set.
use Rattle.std.specs.Prelude.{ℕ, ◌==◌, ◌&&◌, if◌then◌else◌, Bool, true, false, List, [], ◌∷◌, ◌++◌, Option, Some, None, string_bytes, ◌≡◌, Vec}
use Rattle.std.specs.declared.alloc.Global.{Global}
use Rattle.std.specs.List.{flat_map}
use Rattle.cip_application.specs.declared.config.AttributeConfig.{AttributeConfig}
use Rattle.cip_application.specs.declared.config.ObjectConfig.{ObjectConfig}
use Rattle.cip_application.specs.declared.kind.AttributeKind.{AttributeKind}
use Rattle.cip_application.specs.declared.kind.AttributeKind.TheVariants as kinds
use Rattle.cip_bytes.specs.declared.protocol.TheConstants.{ASSEMBLY}
use Rattle.cip_objects.specs.declared.config.AssemblyConfig.{AssemblyConfig}
use Rattle.cip_objects.specs.declared.config.Config.{Config}
use Rattle.cip_values.specs.declared.element.ElementaryType.TheVariants as types
use Rattle.cip_values.specs.declared.element.ValueType.{ValueType}
use Rattle.attribute_types.specs.declared.attribute_type.AttributeType.{AttributeType}
use Rattle.attribute_types.specs.declared.attribute_type.AttributeType.TheVariants as attribute_types
use Rattle.enip_config.specs.declared.configuration.Configuration.{Configuration}
use Rattle.attribute_types.specs.StandardTypes.{type_of_standard}
use Rattle.enip_owner.specs.declared.attribute_ref.AttributeRef.{AttributeRef}
use Rattle.owner_port.specs.declared.attribute_table.TypedAttribute.{TypedAttribute}
use Rattle.owner_port.specs.declared.device_table.DeviceTable.{DeviceTable}

-- A table has the identity of a configuration.
pub record HasIdentity (config : Config) (table : DeviceTable) : Type 0 where
  pub vendor_is : table.vendor ≡ config.vendor
  pub product_code_is : table.product_code ≡ config.product_code
  pub serial_is : table.serial ≡ config.serial
  pub name_is : string_bytes table.name ≡ string_bytes config.name

abbrev pub is_named : AttributeRef → AttributeRef → Bool
is_named one other =
    (one.class == other.class) && ((one.instance == other.instance) && (one.attribute == other.attribute))

-- The type of an attribute, if it is known.
abbrev pub type_at : AttributeRef → List TypedAttribute → Option ValueType
type_at attribute [] = None
type_at attribute (typed ∷ types) = if is_named typed.attribute attribute then Some typed.value_type else type_at attribute types

abbrev pub named : ℕ → ℕ → ℕ → AttributeRef
named class instance attribute = record { class = class; instance = instance; attribute = attribute }

-- ---- what peers can set, in the order of the configuration

abbrev pub if_settable : Bool → AttributeRef → List AttributeRef
if_settable settable attribute = if settable then attribute ∷ [] else []

abbrev pub settable_data : AssemblyConfig → List AttributeRef
settable_data assembly = if_settable assembly.settable (named ASSEMBLY assembly.instance 3)

abbrev pub settable_attribute : ObjectConfig → AttributeConfig → List AttributeRef
settable_attribute object attribute = if_settable attribute.settable (named object.class object.instance attribute.number)

abbrev pub settable_attributes : ObjectConfig → List AttributeRef
settable_attributes object = flat_map (settable_attribute object) object.attributes.items

-- The data of the assemblies, and the attributes of the application objects.
abbrev pub settable_in : Config → List AttributeRef
settable_in config = flat_map settable_data config.assemblies.items ++ flat_map settable_attributes config.objects.items

-- ---- types

-- The type of what an attribute has. None for bytes of any meaning.
abbrev pub value_type_of : AttributeType → Option ValueType
value_type_of (attribute_types.One element) = Some (record { element = element; is_list = false })
value_type_of (attribute_types.Array element count) = Some (record { element = element; is_list = true })
value_type_of (attribute_types.ShortString most) = Some (record { element = types.ShortString; is_list = false })
value_type_of (attribute_types.Bytes count) = None

-- An attribute of an object with its type, unless it has bytes of any meaning.
abbrev pub typed_if : AttributeRef → Option ValueType → List TypedAttribute
typed_if attribute None = []
typed_if attribute (Some value_type) = record { attribute = attribute; value_type = value_type } ∷ []

abbrev pub typed_attribute : ObjectConfig → AttributeConfig → AttributeType → List TypedAttribute
typed_attribute object attribute type = typed_if (named object.class object.instance attribute.number) (value_type_of type)

-- The attributes of an own object, each with the type at the same index.
abbrev pub own_types : ObjectConfig → List AttributeConfig → List AttributeType → List TypedAttribute
own_types object [] types = []
own_types object (attribute ∷ attributes) [] = []
own_types object (attribute ∷ attributes) (type ∷ types) = typed_attribute object attribute type ++ own_types object attributes types

abbrev pub all_own_types : List ObjectConfig → List (Vec AttributeType Global) → List TypedAttribute
all_own_types [] types = []
all_own_types (object ∷ objects) [] = []
all_own_types (object ∷ objects) (first ∷ types) =
    own_types object object.attributes.items first.items ++ all_own_types objects types

-- The size of a value, if all values of its kind have the same.
abbrev pub size_of_kind : AttributeKind → ℕ
size_of_kind (kinds.Fixed size range) = size
size_of_kind (kinds.ShortString room) = 0

-- The attributes of the TCP/IP Interface and of the Ethernet Link have the types of the standard.
abbrev pub standard_type : ObjectConfig → AttributeConfig → AttributeType
standard_type object attribute = type_of_standard object.class attribute.number (size_of_kind attribute.kind)

abbrev pub standard_types : ObjectConfig → AttributeConfig → List TypedAttribute
standard_types object attribute = typed_attribute object attribute (standard_type object attribute)

abbrev pub standard_types_if : ObjectConfig → List TypedAttribute
standard_types_if object = if object.standard then flat_map (standard_types object) object.attributes.items else []

-- The types of own attributes in the order of the configuration, then those of the two objects of the standard.
abbrev pub types_in : Configuration → List TypedAttribute
types_in configuration =
    all_own_types configuration.objects.objects.items configuration.attribute_types.items
    ++ flat_map standard_types_if configuration.objects.objects.items
