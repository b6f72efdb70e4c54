-- The constant tables, which the configuration fixes: the services of each instance of a class, the attributes that
-- can be set, and the bytes of each member of an assembly.
use Rattle.std.specs.Prelude.{ℕ, ◌+◌, ◌-◌, Bool, not, List, [], ◌∷◌, ◌++◌, Option, Some, None, option_map, ◌==◌, ◌&&◌, ◌||◌}
use Rattle.std.specs.Prelude.{if◌then◌else◌, nat_lt, length, slice_index, sum, take, max}
use Rattle.std.specs.List.{list_any}
use Rattle.std.specs.Option.{option_and_then}
use Rattle.cip_application.specs.declared.config.ServiceConfig.{ServiceConfig}
use Rattle.cip_application.specs.declared.kind.AttributeKind.{AttributeKind}
use Rattle.cip_application.specs.declared.kind.AttributeKind.TheVariants.{Fixed}
use Rattle.cip_bytes.specs.declared.protocol.TheConstants.{IDENTITY, ASSEMBLY, CONNECTION_MANAGER, COUNTER}
use Rattle.cip_objects.specs.declared.service.Service.{Service}
use Rattle.cip_objects.specs.declared.service.Service.TheVariants.{GetAttributesAll, GetAttributeList, SetAttributeList}
use Rattle.cip_objects.specs.declared.service.Service.TheVariants.{GetAttributeSingle, SetAttributeSingle, GetMember}
use Rattle.cip_objects.specs.declared.service.Service.TheVariants.{SetMember, Add, Clear}
use Rattle.cip_objects.specs.declared.assembly.Span.{Span}

-- The constant part of an assembly: its instance number, whether its data can be set, its member sizes in bytes, and
-- whether it has the services for lists of attributes.
pub record Shape : Type 0 where
  pub instance : ℕ
  pub settable : Bool
  pub members : List ℕ
  pub lists : Bool

-- The assembly with this instance number: the first, if there are two.
abbrev pub shape_at : ℕ → List Shape → Option Shape
shape_at instance [] = None
shape_at instance (s ∷ shapes) = if s.instance == instance then Some s else shape_at instance shapes

-- The constant part of an attribute of an application object: its number, the kind of its values, whether peers can set
-- it, and whether the device's owner is asked before.
pub record AttributeShape : Type 0 where
  pub number : ℕ
  pub kind : AttributeKind
  pub settable : Bool
  pub checked : Bool

-- The constant part of an application object: among it whether it has the service that sets a list of attributes.
pub record ObjectShape : Type 0 where
  pub class : ℕ
  pub instance : ℕ
  pub attributes : List AttributeShape
  pub services : List ServiceConfig
  pub lists : Bool

-- The application object of this class with this instance number: the first, if there are two.
abbrev pub object_at : ℕ → ℕ → List ObjectShape → Option ObjectShape
object_at class instance [] = None
object_at class instance (o ∷ objects) =
    if (o.class == class) && (o.instance == instance) then Some o else object_at class instance objects

-- The index of that object.
abbrev pub position_at : ℕ → ℕ → List ObjectShape → Option ℕ
position_at class instance [] = None
position_at class instance (o ∷ objects) =
    if (o.class == class) && (o.instance == instance) then Some 0
    else option_map (λ k. k + 1) (position_at class instance objects)

-- The attribute with this number: the first, if there are two.
abbrev pub attribute_at : ℕ → List AttributeShape → Option AttributeShape
attribute_at number [] = None
attribute_at number (a ∷ attributes) = if a.number == number then Some a else attribute_at number attributes

-- The instance numbers of a class of application objects.
abbrev pub numbers_in : ℕ → List ObjectShape → List ℕ
numbers_in class [] = []
numbers_in class (o ∷ objects) =
    if o.class == class then o.instance ∷ numbers_in class objects else numbers_in class objects

abbrev pub greatest_number : List ℕ → ℕ
greatest_number [] = 0
greatest_number (n ∷ ns) = max n (greatest_number ns)

-- What the configuration fixes of all objects: the assemblies, whether there is a counter, and the application objects.
pub record Shapes : Type 0 where
  pub assemblies : List Shape
  pub has_counter : Bool
  pub objects : List ObjectShape

-- The class is the counter's, and the device has one.
abbrev pub is_counter_class : Shapes → ℕ → Bool
is_counter_class shapes class = (class == COUNTER) && shapes.has_counter

-- The services of a class whose one instance has these.
abbrev pub class_or_first : ℕ → List Service → Option (List Service)
class_or_first instance services =
    if instance == 0 then Some (GetAttributeSingle ∷ [])
    else (if instance == 1 then Some services else None)

-- The services of a class of application objects, and of its instances.
abbrev pub object_services : List Service
object_services = GetAttributesAll ∷ GetAttributeList ∷ GetAttributeSingle ∷ SetAttributeSingle ∷ []

-- Those for lists of attributes, if the object has them. Get_Attributes_All is one that it has anyway.
abbrev pub object_list_services : List Service
object_list_services = SetAttributeList ∷ []

abbrev pub services_of_object : ObjectShape → List Service
services_of_object o = object_services ++ (if o.lists then object_list_services else [])

abbrev pub application_services : ℕ → ℕ → List ObjectShape → Option (List Service)
application_services class instance objects =
    if instance == 0 then
    (if list_any (λ o. o.class == class) objects then Some (GetAttributeSingle ∷ []) else None)
    else option_map services_of_object (object_at class instance objects)

-- The same of assemblies.
abbrev pub assembly_services : List Service
assembly_services = GetAttributeList ∷ GetAttributeSingle ∷ SetAttributeSingle ∷ GetMember ∷ SetMember ∷ []

abbrev pub assembly_list_services : List Service
assembly_list_services = SetAttributeList ∷ GetAttributesAll ∷ []

abbrev pub services_of_assembly : Shape → List Service
services_of_assembly s = assembly_services ++ (if s.lists then assembly_list_services else [])

-- The services of an instance of a class, or None if there is no such class or instance. Instance 0 is the class
-- itself. The Connection Manager has no services here, as they belong to `cip_manager`.
unfoldable pub services_of : Shapes → ℕ → ℕ → Option (List Service)
services_of shapes class instance =
    if class == IDENTITY then class_or_first instance (GetAttributesAll ∷ GetAttributeList ∷ GetAttributeSingle ∷ [])
    else (if class == ASSEMBLY then
    (if instance == 0 then Some (GetAttributeSingle ∷ [])
    else option_map services_of_assembly (shape_at instance shapes.assemblies))
    else (if class == CONNECTION_MANAGER then (if instance == 1 then Some [] else None)
    else (if is_counter_class shapes class then
    class_or_first instance (Add ∷ Clear ∷ GetAttributeList ∷ GetAttributeSingle ∷ SetAttributeSingle ∷ [])
    else application_services class instance shapes.objects)))

abbrev pub kind_if_settable : Option Shape → Option AttributeKind
kind_if_settable None = None
kind_if_settable (Some s) = if s.settable then Some (Fixed (sum s.members) None) else None

-- The objects themselves do not set a checked attribute: the owner of the device is asked.
abbrev pub kind_of_settable : Option AttributeShape → Option AttributeKind
kind_of_settable None = None
kind_of_settable (Some a) = if a.settable && not a.checked then Some a.kind else None

abbrev pub kind_in : ℕ → Option ObjectShape → Option AttributeKind
kind_in attribute None = None
kind_in attribute (Some o) = kind_of_settable (attribute_at attribute o.attributes)

-- The kind of the values of an attribute that can be set: the data of a settable assembly, the counter's limit, or a
-- settable attribute of an application object. None for any other.
unfoldable pub settable_kind : Shapes → ℕ → ℕ → ℕ → Option AttributeKind
settable_kind shapes class instance attribute =
    if class == IDENTITY then None
    else (if class == ASSEMBLY then
    (if attribute == 3 then kind_if_settable (shape_at instance shapes.assemblies) else None)
    else (if class == CONNECTION_MANAGER then None
    else (if is_counter_class shapes class then
    (if (instance == 1) && (attribute == 2) then Some (Fixed 4 None) else None)
    else kind_in attribute (object_at class instance shapes.objects))))

-- The kind of the values of an attribute of an assembly: the number of its members, its data, and their size.
abbrev pub kind_in_assembly : ℕ → Shape → Option AttributeKind
kind_in_assembly attribute s =
    if attribute == 3 then Some (Fixed (sum s.members) None)
    else (if (attribute == 1) || (attribute == 4) then Some (Fixed 2 None) else None)

-- The kind of the values of an attribute of an application object.
abbrev pub kind_in_object : ℕ → ObjectShape → Option AttributeKind
kind_in_object attribute o = option_map (λ a. a.kind) (attribute_at attribute o.attributes)

-- The kind of the values of an attribute of an assembly or of an application object, settable or not. None if it has no
-- such attribute.
unfoldable pub value_kind : Shapes → ℕ → ℕ → ℕ → Option AttributeKind
value_kind shapes class instance attribute =
    if class == ASSEMBLY then option_and_then (kind_in_assembly attribute) (shape_at instance shapes.assemblies)
    else option_and_then (kind_in_object attribute) (object_at class instance shapes.objects)

-- The bytes of a member in the data of its assembly. Members are numbered from 1 and follow one another.
abbrev pub span_of : List ℕ → ℕ → Option Span
span_of members number =
    if (number == 0) || nat_lt (length members) number then None
    else Some (record { offset = sum (take (number - 1) members); size = slice_index members (number - 1) })

abbrev pub span_in : Option Shape → ℕ → Option Span
span_in None number = None
span_in (Some s) number = span_of s.members number

abbrev pub member_at : Shapes → ℕ → ℕ → Option Span
member_at shapes instance number = span_in (shape_at instance shapes.assemblies) number
