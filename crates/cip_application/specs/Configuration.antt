-- The application objects that a configuration describes, and its checks: the first that fails refuses it.
use Rattle.std.specs.Prelude.{◌≡◌, ◌<◌, ℕ, ◌%◌, Bool, false, not, ◌==◌, ◌&&◌, ◌||◌, nat_lt, if◌then◌else◌, List, []}
use Rattle.std.specs.Prelude.{◌∷◌, length, map, sum, Option, Some, None, is_err}
use Rattle.std.specs.List.{list_any}
use Rattle.std.specs.String.{string_bytes}
use Rattle.std.specs.declared.alloc.Global.{Global}
use Rattle.std.specs.declared.string.String.{String}
use Rattle.cip_application.specs.declared.config.AttributeConfig.{AttributeConfig}
use Rattle.cip_application.specs.declared.config.ObjectConfig.{ObjectConfig}
use Rattle.cip_application.specs.declared.config.ObjectFault.{ObjectFault}
use Rattle.cip_application.specs.declared.config.ObjectFault.TheVariants.{Object, Attribute, Service, Memory}
use Rattle.cip_application.specs.declared.config.ServiceConfig.{ServiceConfig}
use Rattle.cip_application.specs.declared.config.ServiceKind.{ServiceKind}
use Rattle.cip_application.specs.declared.config.ServiceKind.TheVariants as kinds
use Rattle.cip_application.specs.declared.kind.AttributeKind.{AttributeKind}
use Rattle.cip_application.specs.declared.kind.AttributeKind.TheVariants.{Fixed, ShortString}
use Rattle.cip_application.specs.declared.number.NumberRange.{NumberRange}
use Rattle.cip_bytes.specs.declared.protocol.TheConstants.{IDENTITY, MESSAGE_ROUTER, ASSEMBLY, CONNECTION_MANAGER}
use Rattle.cip_bytes.specs.declared.protocol.TheConstants.{COUNTER}
use Rattle.cip_application.specs.Attributes.{AttributeValues, in_order}
use Rattle.cip_application.specs.Numbers.{width_of, is_at_most}
use Rattle.cip_application.specs.Objects.{ObjectValues, position_of}
use Rattle.cip_application.specs.Values.{capacity, check_value}

-- The numbers of the faults, as printed.
abbrev pub object_fault_number : ObjectFault → ℕ
object_fault_number Memory = 6
object_fault_number Object = 10
object_fault_number Attribute = 11
object_fault_number Service = 12

-- The classes that the adapter has itself. The command ledger is 0x65. The counter's class is free if the counter is
-- left out.
abbrev pub is_taken_class : Bool → ℕ → Bool
is_taken_class counter class =
    (class == IDENTITY) || (class == ASSEMBLY) || (class == CONNECTION_MANAGER) || (class == 0x65)
    || (counter && (class == COUNTER))

-- The Message Router is 2. The TCP/IP Interface and the Ethernet Link object are 0xf5 and 0xf6.
abbrev pub is_standard_class : ℕ → Bool
is_standard_class class = (class == MESSAGE_ROUTER) || (class == 0xf5) || (class == 0xf6)

-- An object of the standard has one of these classes, instance number 1 and no service for lists. No other object has
-- one of them.
abbrev pub is_misplaced : ObjectConfig → Bool
is_misplaced o =
    if o.standard then not (is_standard_class o.class) || not (o.instance == 1) || o.lists
    else is_standard_class o.class

abbrev pub has_taken_class : Bool → ObjectConfig → Bool
has_taken_class counter o = is_taken_class counter o.class || is_misplaced o

-- A name is optional. It has 1 to 32 bytes, each 0x20 to 0x7e.
abbrev pub is_invalid_name : List ℕ → Bool
is_invalid_name name =
    (length name == 0) || nat_lt 32 (length name) || list_any (λ byte. nat_lt byte 0x20 || nat_lt 0x7e byte) name

abbrev pub has_invalid_name : Option (String Global) → Bool
has_invalid_name None = false
has_invalid_name (Some name) = is_invalid_name (string_bytes name)

-- Class 0 does not exist, and instance 0 is the class itself.
abbrev pub is_invalid_object : Bool → ObjectConfig → Bool
is_invalid_object counter o =
    (o.class == 0) || has_taken_class counter o || (o.instance == 0) || has_invalid_name o.name

abbrev pub has_object : ℕ → ℕ → List ObjectConfig → Bool
has_object class instance objects = list_any (λ o. (o.class == class) && (o.instance == instance)) objects

-- An object is invalid, or has the class and the instance number of a later one.
abbrev pub are_invalid_objects : Bool → List ObjectConfig → Bool
are_invalid_objects counter [] = false
are_invalid_objects counter (o ∷ objects) =
    is_invalid_object counter o || has_object o.class o.instance objects || are_invalid_objects counter objects

-- The bounds do not rise, one of them is NaN, or the size is not that of whole numbers.
abbrev pub is_invalid_range : ℕ → Option NumberRange → Bool
is_invalid_range size None = false
is_invalid_range size (Some range) =
    not (is_at_most range.number range.least range.greatest) || not (size % width_of range.number == 0)

abbrev pub has_invalid_range : AttributeKind → Bool
has_invalid_range (Fixed size range) = is_invalid_range size range
has_invalid_range (ShortString room) = false

-- The values of this kind have no byte or over 500, or their range is invalid.
abbrev pub is_invalid_kind : AttributeKind → Bool
is_invalid_kind kind = (capacity kind == 0) || nat_lt 500 (capacity kind) || has_invalid_range kind

-- Attribute 0 does not exist. The initial value must be one that a peer could set.
abbrev pub is_invalid_attribute : AttributeConfig → Bool
is_invalid_attribute a = (a.number == 0) || is_invalid_kind a.kind || is_err (check_value a.kind a.value.items)

-- An attribute is invalid, or has the number of a later one.
abbrev pub are_invalid_attributes : List AttributeConfig → Bool
are_invalid_attributes [] = false
are_invalid_attributes (a ∷ attributes) =
    is_invalid_attribute a || list_any (λ b. b.number == a.number) attributes || are_invalid_attributes attributes

abbrev pub has_invalid_attributes : ObjectConfig → Bool
has_invalid_attributes o = nat_lt 32 (length o.attributes.items) || are_invalid_attributes o.attributes.items

-- The most bytes of all values of an object, and of all objects.
abbrev pub capacity_of : List AttributeConfig → ℕ
capacity_of attributes = sum (map (λ a. capacity a.kind) attributes)

abbrev pub total_capacity : List ObjectConfig → ℕ
total_capacity objects = sum (map (λ o. capacity_of o.attributes.items) objects)

-- A service cannot be of this kind. The reply of a queued service has at most 476 bytes. Get_Result is 0x4e, and its
-- data are a ticket of 4 bytes.
abbrev pub is_invalid_as : ServiceKind → ServiceConfig → Bool
is_invalid_as kinds.Asked s = false
is_invalid_as kinds.Queued s = nat_lt 476 s.reply
is_invalid_as kinds.Result s = not (s.number == 0x4e) || not (s.least == 4) || not (s.most == 4)

-- Own services are vendor or class specific: 0x32 to 0x63. The data of one, and of its reply, have at most 480 bytes.
abbrev pub is_invalid_service : ServiceConfig → Bool
is_invalid_service s =
    nat_lt s.number 0x32 || nat_lt 0x63 s.number || nat_lt s.most s.least || nat_lt 480 s.most || nat_lt 480 s.reply
    || is_invalid_as s.kind s

-- A service is invalid, or has the number of a later one.
abbrev pub are_invalid_services : List ServiceConfig → Bool
are_invalid_services [] = false
are_invalid_services (s ∷ services) =
    is_invalid_service s || list_any (λ t. t.number == s.number) services || are_invalid_services services

abbrev pub has_invalid_services : ObjectConfig → Bool
has_invalid_services o = nat_lt 16 (length o.services.items) || are_invalid_services o.services.items

-- The first check that fails, in the order of the numbers. Running out of memory is not one of them.
unfoldable pub fault_of : Bool → List ObjectConfig → Option ObjectFault
fault_of counter objects =
    if nat_lt 32 (length objects) || are_invalid_objects counter objects then Some Object
    else (if list_any has_invalid_attributes objects || nat_lt 16384 (total_capacity objects) then Some Attribute
    else (if list_any has_invalid_services objects then Some Service
    else None))

-- An attribute of a configuration. No peer has set it.
abbrev pub attribute_of_config : AttributeConfig → AttributeValues
attribute_of_config a = record {
  number = a.number;
  kind = a.kind;
  settable = a.settable;
  checked = a.checked;
  value = a.value.items;
  changes = 0;
}

-- An object of a configuration, its attributes in the order of their numbers.
abbrev pub object_of_config : ObjectConfig → ObjectValues
object_of_config o = record {
  class = o.class;
  instance = o.instance;
  attributes = in_order (map attribute_of_config o.attributes.items);
  services = o.services.items;
  lists = o.lists;
}

-- The objects of a configuration.
abbrev pub objects_of_config : List ObjectConfig → List ObjectValues
objects_of_config objects = map object_of_config objects

-- No object has a class of the adapter's own, none is a class itself, and no two have the same class and instance
-- number.
abbrev pub AreOwn : Bool → List ObjectValues → Type 0
AreOwn counter [] = Unit {0}
AreOwn counter (o ∷ objects) =
    (is_taken_class counter o.class ≡ false) × (0 < o.class) × (0 < o.instance)
    × (position_of o.class o.instance objects ≡ None) × AreOwn counter objects

-- The number is less than that of the next attribute.
abbrev pub IsBefore : ℕ → List AttributeValues → Type 0
IsBefore number [] = Unit {0}
IsBefore number (a ∷ attributes) = number < a.number

-- The numbers of an object's attributes rise.
abbrev pub AreInOrder : List AttributeValues → Type 0
AreInOrder [] = Unit {0}
AreInOrder (a ∷ attributes) = IsBefore a.number attributes × AreInOrder attributes
