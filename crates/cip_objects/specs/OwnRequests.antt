-- Requests that the owner of the device executes: an own service of an application object, and Set_Attribute_Single of
-- an attribute that is settable and checked. The objects themselves refuse these requests.
use Rattle.std.specs.Prelude.{◌≡◌, ℕ, ◌⊎◌, Bool, ◌==◌, ◌&&◌, ◌||◌, nat_le, if◌then◌else◌, List, length}
use Rattle.std.specs.Prelude.{Option, Some, None, option_map, is_some, is_ok, Result, Ok, Err}
use Rattle.std.specs.Option.{option_and_then}
use Rattle.cip_application.specs.declared.config.ServiceConfig.{ServiceConfig}
use Rattle.cip_application.specs.declared.config.ServiceKind.{ServiceKind}
use Rattle.cip_application.specs.declared.config.ServiceKind.TheVariants as kinds
use Rattle.cip_application.specs.declared.kind.AttributeKind.{AttributeKind}
use Rattle.cip_application.specs.Configuration.{is_taken_class}
use Rattle.cip_application.specs.Objects.{service_in}
use Rattle.cip_application.specs.Values.{size_for, is_allowed}
use Rattle.cip_message.specs.declared.path.Path.{Path}
use Rattle.cip_message.specs.declared.path.PathFault.{PathFault}
use Rattle.cip_message.specs.declared.request.RequestFault.{RequestFault}
use Rattle.cip_message.specs.PathReading.{path_of}
use Rattle.cip_message.specs.Request.{Request, request_of}
use Rattle.cip_bytes.specs.Reading.{◌>>◌}
use Rattle.cip_objects.specs.declared.own_request.OwnRequest.{OwnRequest}
use Rattle.cip_objects.specs.declared.status.Refusal.{Refusal}
use Rattle.cip_objects.specs.declared.status.Refusal.TheVariants.{InvalidAttributeValue, NotEnoughData, TooMuchData}
use Rattle.cip_objects.specs.Check.{demand, check_size}
use Rattle.cip_objects.specs.Contents.{Contents, value_at, with_change}
use Rattle.cip_objects.specs.Execution.{exec}
use Rattle.cip_objects.specs.ObjectRef.{IsObjectIndex, object_in}
use Rattle.cip_message.specs.Router.{general_status}
use Rattle.cip_objects.specs.Tables.{AttributeShape, ObjectShape, Shapes, object_at, attribute_at}

-- What the owner is asked: the object, the service, the attribute if the path names one, the service's data, the most
-- bytes of the reply's data, and how the service is executed. The reply to a set has no data, and the owner is asked
-- before it.
pub record Asked : Type 0 where
  pub class : ℕ
  pub instance : ℕ
  pub service : ℕ
  pub attribute : Option ℕ
  pub content : List ℕ
  pub reply_limit : ℕ
  pub kind : ServiceKind

-- A request of the code, as one of the specification.
abbrev pub asked_in : OwnRequest → Asked
asked_in q = record {
  class = q.class;
  instance = q.instance;
  service = q.service;
  attribute = q.attribute;
  content = q.data.now;
  reply_limit = q.reply_limit;
  kind = q.kind;
}

-- The application object of this class with this instance number. None of them has a class of the adapter's own, and
-- instance 0 is the class itself.
abbrev pub own_object : Shapes → ℕ → ℕ → Option ObjectShape
own_object shapes class instance =
    if is_taken_class shapes.has_counter class || (instance == 0) then None
    else object_at class instance shapes.objects

-- Own services are vendor or class specific: 0x32 to 0x63.
abbrev pub is_own_service : ℕ → Bool
is_own_service number = nat_le 0x32 number && nat_le number 0x63

-- Its own service with this number.
abbrev pub own_service : Shapes → ℕ → ℕ → ℕ → Option ServiceConfig
own_service shapes class instance number =
    if is_own_service number then
    option_and_then (λ o. service_in number o.services) (own_object shapes class instance)
    else None

abbrev pub if_checked : Option AttributeShape → Option AttributeShape
if_checked None = None
if_checked (Some a) = if a.settable && a.checked then Some a else None

-- Its attribute with this number, if peers can set it only if the owner approves.
unfoldable pub checked_attribute : Contents → ℕ → ℕ → ℕ → Option AttributeShape
checked_attribute m class instance attribute =
    if is_some (value_at m class instance attribute) then
    if_checked (option_and_then (λ o. attribute_at attribute o.attributes) (own_object m.shapes class instance))
    else None

-- The checks of a set before the owner is asked: the size of the value, then what it says.
abbrev pub check_set : AttributeKind → List ℕ → Result (Unit {0}) Refusal
check_set kind content = do
  check_size (size_for kind content) content
  demand (is_allowed kind content) InvalidAttributeValue

-- The checks of an own service before the owner is asked: the size of its data.
abbrev pub check_service : ServiceConfig → List ℕ → Result (Unit {0}) Refusal
check_service s content = do
  demand (nat_le s.least (length content)) NotEnoughData
  demand (nat_le (length content) s.most) TooMuchData

-- What is asked after these checks, by a request with this path, of a service of this kind and a reply whose data have
-- at most this many bytes.
abbrev pub asked_after : Result (Unit {0}) Refusal → Request → Path → ServiceKind → ℕ → Result Asked Refusal
asked_after checks q p kind reply_limit = do
  checks
  Ok (record {
    class = p.class;
    instance = p.instance;
    service = q.service;
    attribute = p.attribute;
    content = q.data;
    reply_limit = reply_limit;
    kind = kind;
  })

abbrev pub ask_set : Request → Path → AttributeShape → Result Asked Refusal
ask_set q p a = asked_after (check_set a.kind q.data) q p kinds.Asked 0

abbrev pub ask_service : Request → Path → ServiceConfig → Result Asked Refusal
ask_service q p s = asked_after (check_service s q.data) q p s.kind s.reply

-- What a request with this path asks. Set_Attribute_Single is 0x10.
abbrev pub asked_of : Contents → Request → Path → Option (Result Asked Refusal)
asked_of m q p =
    if q.service == 0x10 then
    option_map (ask_set q p) (option_and_then (checked_attribute m p.class p.instance) p.attribute)
    else option_map (ask_service q p) (own_service m.shapes p.class p.instance q.service)

abbrev pub asked_by_path : Contents → Request → Result Path PathFault → Option (Result Asked Refusal)
asked_by_path m q (Ok p) = asked_of m q p
asked_by_path m q (Err fault) = None

abbrev pub asked_by_request : Contents → Result Request RequestFault → Option (Result Asked Refusal)
asked_by_request m (Ok q) = asked_by_path m q (path_of q.path)
asked_by_request m (Err fault) = None

-- What these bytes ask the owner, or why they are refused before the owner is asked. None if they are no request that
-- the owner executes.
unfoldable pub own_request : Contents → List ℕ → Option (Result Asked Refusal)
own_request m text = asked_by_request m (request_of text)

-- A set of this attribute that the owner approved. It is stored and counted, if the attribute may have this value.
abbrev pub stored_in : Contents → ℕ → ℕ → ℕ → List ℕ → Option AttributeShape → Contents
stored_in m class instance attribute content None = m
stored_in m class instance attribute content (Some a) =
    if is_ok (check_set a.kind content) then with_change m class instance attribute content else m

-- The contents after the owner approved a set. If peers cannot set the attribute in this way, nothing changes.
unfoldable pub with_stored : Contents → ℕ → ℕ → ℕ → List ℕ → Contents
with_stored m class instance attribute content =
    stored_in m class instance attribute content (checked_attribute m class instance attribute)

-- Class and instance lead to the application object at this index.
pub record IsOwnAt (shapes : Shapes) (class instance object_index : ℕ) : Type 0 where
  pub found : own_object shapes class instance ≡ Some (object_in shapes object_index)
  pub of_class : (object_in shapes object_index).class ≡ class
  pub of_instance : (object_in shapes object_index).instance ≡ instance
  pub there : IsObjectIndex shapes object_index

-- The objects themselves refuse the requests that the owner executes: an own service is not supported (0x08), and a
-- checked attribute is not settable (0x0e). Nothing changes.
abbrev pub own_is_refused_law : Type 0
own_is_refused_law =
    (m : Contents) (max_size : ℕ) (text : List ℕ) → (own_request m text ≡ None → ⊥)
    → ((general_status (exec m max_size text).answer ≡ 0x08) ⊎ (general_status (exec m max_size text).answer ≡ 0x0e))
    × ((exec m max_size text).after ≡ m)

-- A set that the owner was asked about and approved stores the value, and is counted.
abbrev pub approved_is_stored_law : Type 0
approved_is_stored_law =
    (m : Contents) (text : List ℕ) (asked : Asked) (attribute : ℕ) → own_request m text ≡ Some (Ok asked)
    → asked.service ≡ 0x10 → asked.attribute ≡ Some attribute
    → with_stored m asked.class asked.instance attribute asked.content
    ≡ with_change m asked.class asked.instance attribute asked.content

-- An approved set does not change any other attribute.
abbrev pub approved_leaves_others_law : Type 0
approved_leaves_others_law =
    (m : Contents) (class instance attribute : ℕ) (content : List ℕ) (c i a : ℕ)
    → ((c ≡ class) × (i ≡ instance) × (a ≡ attribute) → ⊥)
    → value_at (with_stored m class instance attribute content) c i a ≡ value_at m c i a
