-- The services that read objects. In each, the first check that fails decides (Volume 1, common services).
use Rattle.std.specs.Prelude.{ℕ, ◌+◌, ◌*◌, Bool, true, false, not, ◌&&◌, ◌==◌, nat_le, if◌then◌else◌, List, [], ◌∷◌, ◌++◌}
use Rattle.std.specs.Prelude.{length, map, take, drop, Option, Some, None, is_some, Result, Ok, Err}
use Rattle.std.specs.Option.{ok_or}
use Rattle.std.specs.List.{flat_map}
use Rattle.byteorder.specs.Endian.{little_number}
use Rattle.cip_application.specs.Configuration.{is_standard_class}
use Rattle.cip_message.specs.declared.path.Path.{Path}
use Rattle.cip_bytes.specs.Numbers.{le, words_of}
use Rattle.cip_objects.specs.declared.assembly.Span.{Span}
use Rattle.cip_objects.specs.declared.service.Service.{Service}
use Rattle.cip_objects.specs.declared.status.Completion.{Completion}
use Rattle.cip_objects.specs.declared.status.Completion.TheVariants.{Whole, Partial}
use Rattle.cip_objects.specs.declared.status.Refusal.{Refusal}
use Rattle.cip_objects.specs.declared.status.Refusal.TheVariants.{PathDestinationUnknown, ServiceNotSupported}
use Rattle.cip_objects.specs.declared.status.Refusal.TheVariants.{AttributeNotSupported, InvalidMemberId, NotEnoughData}
use Rattle.cip_bytes.specs.Reading.{◌>>=◌, ◌>>◌}
use Rattle.cip_objects.specs.Check.{demand, check_size}
use Rattle.cip_objects.specs.Contents.{Contents, value_at, bytes_at}
use Rattle.cip_objects.specs.Service.{service_in}
use Rattle.cip_bytes.specs.Protocol.{general_status_number}
use Rattle.cip_objects.specs.Status.{completion_status, refusal_status}
use Rattle.cip_objects.specs.Tables.{ObjectShape, Shapes, object_at, services_of, member_at}
use Rattle.cip_bytes.specs.declared.protocol.TheConstants.{IDENTITY, ASSEMBLY}

-- The service with this code, if the class and instance exist and have it.
unfoldable pub service_at : Shapes → ℕ → ℕ → ℕ → Result Service Refusal
service_at shapes class instance code = do
  offered ← ok_or (services_of shapes class instance) PathDestinationUnknown
  ok_or (service_in code offered) ServiceNotSupported

-- What a service that reads answers: how completely it was performed, and the data of the reply.
pub record Answer : Type 0 where
  pub status : Completion
  pub content : List ℕ

abbrev pub answer : Completion → List ℕ → Result Answer Refusal
answer status content = Ok (record { status = status; content = content })

-- The result of a call of the code: its return value as reply data.
abbrev pub answer_result : {A : Type 0} → (A → List ℕ) → Result A Refusal → Result Answer Refusal
answer_result bytes (Ok x) = answer Whole (bytes x)
answer_result bytes (Err s) = Err s

-- Get_Attribute_Single: the value of the attribute.
unfoldable pub get_attribute_single : Contents → Path → List ℕ → Result Answer Refusal
get_attribute_single m path content = do
  attribute ← ok_or path.attribute AttributeNotSupported
  value ← ok_or (value_at m path.class path.instance attribute) AttributeNotSupported
  check_size 0 content
  answer Whole value

-- The attributes that Get_Attributes_All reads of the Identity object. The reply ends after attribute 7 (our choice).
abbrev pub IDENTITY_ATTRIBUTES : List ℕ
IDENTITY_ATTRIBUTES = 1 ∷ 2 ∷ 3 ∷ 4 ∷ 5 ∷ 6 ∷ 7 ∷ []

-- Those of an assembly.
abbrev pub ASSEMBLY_ATTRIBUTES : List ℕ
ASSEMBLY_ATTRIBUTES = 1 ∷ 3 ∷ 4 ∷ []

-- It reads all of an application object, in the order of their numbers.
abbrev pub numbers_of : Option ObjectShape → List ℕ
numbers_of None = []
numbers_of (Some o) = map (λ a. a.number) o.attributes

abbrev pub all_attributes : Shapes → ℕ → ℕ → List ℕ
all_attributes shapes class instance =
    if class == IDENTITY then IDENTITY_ATTRIBUTES
    else (if class == ASSEMBLY then ASSEMBLY_ATTRIBUTES else numbers_of (object_at class instance shapes.objects))

-- Get_Attributes_All: the values of these attributes, joined. The TCP/IP Interface and the Ethernet Link do not have
-- the service, as they lack attributes that its reply would have (our choice).
unfoldable pub get_attributes_all : Contents → Path → List ℕ → Result Answer Refusal
get_attributes_all m path content = do
  demand (not (is_standard_class path.class)) ServiceNotSupported
  check_size 0 content
  answer Whole (flat_map (bytes_at m path.class path.instance)
      (all_attributes m.shapes path.class path.instance))

-- An entry of a list: the attribute's number, its status, and its value if it exists.
abbrev pub list_entry_of : ℕ → Option (List ℕ) → List ℕ
list_entry_of attribute None = le 2 attribute ++ le 2 (general_status_number (refusal_status AttributeNotSupported))
list_entry_of attribute (Some value) = le 2 attribute ++ (le 2 (general_status_number (completion_status Whole)) ++ value)

unfoldable pub list_entry : Contents → Path → ℕ → List ℕ
list_entry m path attribute = list_entry_of attribute (value_at m path.class path.instance attribute)

abbrev pub has_attribute : Contents → Path → ℕ → Bool
has_attribute m path attribute = is_some (value_at m path.class path.instance attribute)

-- Whether all of these attributes exist.
abbrev pub has_all_attributes : Contents → Path → List ℕ → Bool
has_all_attributes m path [] = true
has_all_attributes m path (a ∷ attributes) = has_attribute m path a && has_all_attributes m path attributes

-- Whether the list is complete.
abbrev pub list_completion : Bool → Completion
list_completion complete = if complete then Whole else Partial

-- Get_Attribute_List: the data are a count, then that many attribute numbers. The reply has the count and an entry
-- for each attribute.
unfoldable pub get_attribute_list : Contents → Path → List ℕ → Result Answer Refusal
get_attribute_list m path content = do
  demand (nat_le 2 (length content)) NotEnoughData
  check_size (2 + 2 * little_number 2 content) content
  answer (list_completion (has_all_attributes m path (words_of (drop 2 content))))
      (le 2 (little_number 2 content) ++ flat_map (list_entry m path) (words_of (drop 2 content)))

-- Whether the attribute is the data of an assembly.
abbrev pub is_data : Option ℕ → Bool
is_data None = false
is_data (Some attribute) = attribute == 3

-- The bytes of the member that the path names.
unfoldable pub named_member : Shapes → Path → Result Span Refusal
named_member shapes path = do
  demand (is_data path.attribute) AttributeNotSupported
  number ← ok_or path.member InvalidMemberId
  ok_or (member_at shapes path.instance number) InvalidMemberId

-- Get_Member: the member's bytes of the data.
unfoldable pub get_member : Contents → Path → List ℕ → Result Answer Refusal
get_member m path content = do
  span ← named_member m.shapes path
  check_size 0 content
  answer Whole (take span.size (drop span.offset (bytes_at m ASSEMBLY path.instance 3)))
