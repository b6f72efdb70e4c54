-- The object that the class and the instance of a path lead to (Volume 1, object model), and its settable
-- attributes.
use Rattle.std.specs.Prelude.{◌≡◌, ℕ, ◌+◌, ◌≤◌, List, [], ◌∷◌, length, map, slice_index, Option, Some, None, true}
use Rattle.std.specs.Prelude.{Result, Ok, Err, ⊤, Bool, false, ◌==◌, slice_index_or, unwrap_or, is_some, ◌++◌, if◌then◌else◌}
use Rattle.cip_application.specs.declared.kind.AttributeKind.{AttributeKind}
use Rattle.cip_application.specs.declared.kind.AttributeKind.TheVariants.{Fixed}
use Rattle.cip_application.specs.Values.{size_for}
use Rattle.cip_message.specs.declared.path.Path.{Path}
use Rattle.cip_bytes.specs.Reading.{◌>>◌}
use Rattle.cip_objects.specs.declared.assembly.Span.{Span}
use Rattle.cip_objects.specs.declared.class.Class.{Class}
use Rattle.cip_objects.specs.declared.class.Class.TheVariants as classes
use Rattle.cip_objects.specs.declared.object_ref.ObjectRef.{ObjectRef}
use Rattle.cip_objects.specs.declared.object_ref.ObjectRef.TheVariants as object_refs
use Rattle.cip_objects.specs.declared.object_ref.ResolvedPath.{ResolvedPath}
use Rattle.cip_objects.specs.declared.object_ref.Member.{Member}
use Rattle.cip_objects.specs.declared.object_ref.Settable.{Settable}
use Rattle.cip_objects.specs.declared.object_ref.Settable.TheVariants.{Data, Limit, Attribute}
use Rattle.cip_objects.specs.declared.service.Service.{Service}
use Rattle.cip_objects.specs.declared.service.Service.TheVariants as services
use Rattle.cip_objects.specs.declared.status.Refusal.{Refusal}
use Rattle.cip_objects.specs.declared.status.Refusal.TheVariants.{InvalidAttributeValue}
use Rattle.cip_objects.specs.ChangeServices.{Change, change, is_allowed}
use Rattle.cip_objects.specs.Check.{demand, check_size}
use Rattle.cip_objects.specs.Contents.{Contents, value_at, bytes_at, with_change}
use Rattle.cip_objects.specs.Service.{service_code, service_in}
use Rattle.cip_objects.specs.FirstOf.{IsFirst}
use Rattle.cip_objects.specs.Tables.{Shape, Shapes, ObjectShape, shape_at, object_at, position_at, kind_in, is_counter_class}
use Rattle.cip_objects.specs.Tables.{assembly_services, assembly_list_services, object_services, object_list_services}
use Rattle.cip_bytes.specs.declared.protocol.TheConstants.{IDENTITY, ASSEMBLY, CONNECTION_MANAGER, COUNTER}

abbrev pub class_number : Class → ℕ
class_number classes.Identity = IDENTITY
class_number classes.Assembly = ASSEMBLY
class_number classes.Counter = COUNTER

-- The application object at this index. Past the end there is one of class 0, which no configuration has.
abbrev pub object_in : Shapes → ℕ → ObjectShape
object_in shapes object_index =
    slice_index_or shapes.objects object_index
    (record { class = 0; instance = 0; attributes = []; services = []; lists = false })

-- The assembly at this index. Past the end there is one without members.
abbrev pub assembly_in : Shapes → ℕ → Shape
assembly_in shapes assembly_index =
    slice_index_or shapes.assemblies assembly_index
    (record { instance = 0; settable = false; members = []; lists = false })

-- The object's class.
abbrev pub class_at : Shapes → ObjectRef → ℕ
class_at shapes (object_refs.Class c) = class_number c
class_at shapes object_refs.Identity = IDENTITY
class_at shapes (object_refs.Assembly assembly_index) = ASSEMBLY
class_at shapes object_refs.ConnectionManager = CONNECTION_MANAGER
class_at shapes object_refs.Counter = COUNTER
class_at shapes (object_refs.ApplicationClass class) = class
class_at shapes (object_refs.Application object_index) = (object_in shapes object_index).class

-- The instance number of the assembly at this index.
abbrev pub number_at : Shapes → ℕ → ℕ
number_at shapes assembly_index = slice_index (map (λ s. s.instance) shapes.assemblies) assembly_index

-- The object's instance. A class itself is instance 0.
abbrev pub instance_at : Shapes → ObjectRef → ℕ
instance_at shapes (object_refs.Class c) = 0
instance_at shapes object_refs.Identity = 1
instance_at shapes (object_refs.Assembly assembly_index) = number_at shapes assembly_index
instance_at shapes object_refs.ConnectionManager = 1
instance_at shapes object_refs.Counter = 1
instance_at shapes (object_refs.ApplicationClass class) = 0
instance_at shapes (object_refs.Application object_index) = (object_in shapes object_index).instance

-- The object's services, without those for lists of attributes that it may have.
abbrev pub usual_services : ObjectRef → List Service
usual_services (object_refs.Class c) = services.GetAttributeSingle ∷ []
usual_services object_refs.Identity =
    services.GetAttributesAll ∷ services.GetAttributeList ∷ services.GetAttributeSingle ∷ []
usual_services (object_refs.Assembly assembly_index) = assembly_services
usual_services object_refs.ConnectionManager = []
usual_services object_refs.Counter =
    services.Add ∷ services.Clear ∷ services.GetAttributeList ∷ services.GetAttributeSingle
    ∷ services.SetAttributeSingle ∷ []
usual_services (object_refs.ApplicationClass class) = services.GetAttributeSingle ∷ []
usual_services (object_refs.Application object_index) = object_services

-- Those for lists of attributes.
abbrev pub list_services : ObjectRef → List Service
list_services (object_refs.Class c) = []
list_services object_refs.Identity = []
list_services (object_refs.Assembly assembly_index) = assembly_list_services
list_services object_refs.ConnectionManager = []
list_services object_refs.Counter = []
list_services (object_refs.ApplicationClass class) = []
list_services (object_refs.Application object_index) = object_list_services

-- The object has them.
abbrev pub has_lists : Shapes → ObjectRef → Bool
has_lists shapes (object_refs.Class c) = false
has_lists shapes object_refs.Identity = false
has_lists shapes (object_refs.Assembly assembly_index) = (assembly_in shapes assembly_index).lists
has_lists shapes object_refs.ConnectionManager = false
has_lists shapes object_refs.Counter = false
has_lists shapes (object_refs.ApplicationClass class) = false
has_lists shapes (object_refs.Application object_index) = (object_in shapes object_index).lists

-- The object's services.
abbrev pub services_at : Shapes → ObjectRef → List Service
services_at shapes object =
    usual_services object ++ (if has_lists shapes object then list_services object else [])

-- The index is that of an assembly, the first with its instance number.
abbrev pub IsAssemblyIndex : Shapes → ℕ → Type 0
IsAssemblyIndex shapes assembly_index =
    IsFirst (λ s. s.instance) shapes.assemblies (number_at shapes assembly_index) assembly_index

-- The first assembly with this instance number is at this index.
pub record IsAssemblyAt (shapes : Shapes) (instance assembly_index : ℕ) : Type 0 where
  pub number : instance ≡ number_at shapes assembly_index
  pub there : IsAssemblyIndex shapes assembly_index

-- The object has this service.
abbrev pub HasService : Shapes → ObjectRef → Service → Type 0
HasService shapes object service = service_in (service_code service) (services_at shapes object) ≡ Some service

-- The device has a counter.
abbrev pub HasCounter : Shapes → Type 0
HasCounter shapes = shapes.has_counter ≡ true

-- A class itself exists. The Assembly class does if no assembly has its instance number, 0.
abbrev pub ClassExists : Shapes → Class → Type 0
ClassExists shapes classes.Identity = ⊤
ClassExists shapes classes.Assembly = shape_at 0 shapes.assemblies ≡ None
ClassExists shapes classes.Counter = HasCounter shapes

-- The class is none that the device has itself.
pub record IsFree (shapes : Shapes) (class : ℕ) : Type 0 where
  pub identity : (class == IDENTITY) ≡ false
  pub assembly : (class == ASSEMBLY) ≡ false
  pub manager : (class == CONNECTION_MANAGER) ≡ false
  pub counter : is_counter_class shapes class ≡ false

-- The application object at this index is the first of its class with its instance number, which is not 0.
pub record IsObjectIndex (shapes : Shapes) (object_index : ℕ) : Type 0 where
  pub free : IsFree shapes (object_in shapes object_index).class
  pub above : ((object_in shapes object_index).instance == 0) ≡ false
  pub first : position_at (object_in shapes object_index).class (object_in shapes object_index).instance shapes.objects
      ≡ Some object_index

-- The application objects have this class, and none of it has instance number 0.
pub record IsObjectClass (shapes : Shapes) (class : ℕ) : Type 0 where
  pub free : IsFree shapes class
  pub none : object_at class 0 shapes.objects ≡ None

-- The object exists.
abbrev pub Exists : Shapes → ObjectRef → Type 0
Exists shapes (object_refs.Class c) = ClassExists shapes c
Exists shapes object_refs.Identity = ⊤
Exists shapes (object_refs.Assembly assembly_index) = IsAssemblyIndex shapes assembly_index
Exists shapes object_refs.ConnectionManager = ⊤
Exists shapes object_refs.Counter = HasCounter shapes
Exists shapes (object_refs.ApplicationClass class) = IsObjectClass shapes class
Exists shapes (object_refs.Application object_index) = IsObjectIndex shapes object_index

abbrev pub IsAssembly : ObjectRef → Type 0
IsAssembly (object_refs.Class c) = ⊥
IsAssembly object_refs.Identity = ⊥
IsAssembly (object_refs.Assembly assembly_index) = ⊤
IsAssembly object_refs.ConnectionManager = ⊥
IsAssembly object_refs.Counter = ⊥
IsAssembly (object_refs.ApplicationClass class) = ⊥
IsAssembly (object_refs.Application object_index) = ⊥

-- Get_Attributes_All can read the object.
abbrev pub IsReadWhole : ObjectRef → Type 0
IsReadWhole (object_refs.Class c) = ⊥
IsReadWhole object_refs.Identity = ⊤
IsReadWhole (object_refs.Assembly assembly_index) = ⊤
IsReadWhole object_refs.ConnectionManager = ⊥
IsReadWhole object_refs.Counter = ⊥
IsReadWhole (object_refs.ApplicationClass class) = ⊥
IsReadWhole (object_refs.Application object_index) = ⊤

-- Set_Attribute_List can set attributes of the object.
abbrev pub IsSetAsList : ObjectRef → Type 0
IsSetAsList (object_refs.Class c) = ⊥
IsSetAsList object_refs.Identity = ⊥
IsSetAsList (object_refs.Assembly assembly_index) = ⊤
IsSetAsList object_refs.ConnectionManager = ⊥
IsSetAsList object_refs.Counter = ⊥
IsSetAsList (object_refs.ApplicationClass class) = ⊥
IsSetAsList (object_refs.Application object_index) = ⊤

-- Class and instance lead to this object.
pub record Resolves (shapes : Shapes) (class instance : ℕ) (object : ObjectRef) : Type 0 where
  pub same_class : class ≡ class_at shapes object
  pub same_instance : instance ≡ instance_at shapes object
  pub there : Exists shapes object

-- This class and instance have no attribute.
abbrev pub HasNoValue : Contents → ℕ → ℕ → Type 0
HasNoValue m class instance = (attribute : ℕ) → value_at m class instance attribute ≡ None

-- The value of an attribute of an object.
abbrev pub value_to : Contents → ObjectRef → ℕ → Option (List ℕ)
value_to m object attribute = value_at m (class_at m.shapes object) (instance_at m.shapes object) attribute

-- Its bytes, or no byte if there is no such attribute.
abbrev pub bytes_to : Contents → ObjectRef → ℕ → List ℕ
bytes_to m object attribute = bytes_at m (class_at m.shapes object) (instance_at m.shapes object) attribute

-- The contents after a peer set this value there. Nothing else changes.
abbrev pub with_change_to : Contents → ObjectRef → ℕ → List ℕ → Contents
with_change_to m object attribute value =
    with_change m (class_at m.shapes object) (instance_at m.shapes object) attribute value

-- A resolved path, as a path.
abbrev pub path_to : Shapes → ResolvedPath → Path
path_to shapes resolved = record {
  class = class_at shapes resolved.object;
  instance = instance_at shapes resolved.object;
  attribute = resolved.attribute;
  member = resolved.member;
}

-- The data of the assembly at this index.
abbrev pub data_at : Contents → ℕ → List ℕ
data_at m assembly_index = bytes_at m ASSEMBLY (number_at m.shapes assembly_index) 3

-- The bytes of a member in the data of its assembly.
abbrev pub span_result : Result Member Refusal → Result Span Refusal
span_result (Ok m) = Ok m.span
span_result (Err s) = Err s

-- The member is within the data of this object.
pub record IsInside (m : Contents) (object : ObjectRef) (member : Member) : Type 0 where
  pub of_assembly : object ≡ object_refs.Assembly member.assembly_index
  pub inside : member.span.offset + member.span.size ≤ length (data_at m member.assembly_index)

-- The object and the attribute that can be set.
abbrev pub object_of : Settable → ObjectRef
object_of (Data assembly_index size) = object_refs.Assembly assembly_index
object_of Limit = object_refs.Counter
object_of (Attribute object_index number) = object_refs.Application object_index

abbrev pub attribute_of : Settable → ℕ
attribute_of (Data assembly_index size) = 3
attribute_of Limit = 2
attribute_of (Attribute object_index number) = number

-- The kind of the attribute's values.
abbrev pub kind_to_set : Shapes → Settable → AttributeKind
kind_to_set shapes (Data assembly_index size) = Fixed size None
kind_to_set shapes Limit = Fixed 4 None
kind_to_set shapes (Attribute object_index number) =
    unwrap_or (kind_in number (Some (object_in shapes object_index))) (Fixed 0 None)

-- The attribute is settable, and of that size.
abbrev pub IsSettable : Contents → Settable → Type 0
IsSettable m (Data assembly_index size) = size ≡ length (data_at m assembly_index)
IsSettable m Limit = ⊤
IsSettable m (Attribute object_index number) =
    is_some (kind_in number (Some (object_in m.shapes object_index))) ≡ true

-- This attribute of an object can be set.
pub record CanBeSet (m : Contents) (object : ObjectRef) (attribute : ℕ) (settable : Settable) : Type 0 where
  pub of_object : object ≡ object_of settable
  pub of_attribute : attribute ≡ attribute_of settable
  pub whole : IsSettable m settable

-- Sets the attribute, if the data have the size of its values, and it may have that value.
abbrev pub after_set : Contents → Settable → List ℕ → Result Change Refusal
after_set m settable content = do
  check_size (size_for (kind_to_set m.shapes settable) content) content
  demand (is_allowed m (class_at m.shapes (object_of settable)) (kind_to_set m.shapes settable) content)
      InvalidAttributeValue
  change (with_change_to m (object_of settable) (attribute_of settable) content) []
