-- Reset of the Identity object (Volume 1, Identity object): which requests are one, and what it puts back.
use Rattle.std.specs.Prelude.{◌≡◌, refl, ℕ, Bool, false, ◌==◌, ◌&&◌, if◌then◌else◌, List, [], ◌∷◌, ◌++◌, Option, Some, None}
use Rattle.std.specs.Prelude.{unwrap_or, Result, Ok, Err}
use Rattle.std.specs.Coded.{Coded, code_by, coded×, coded_ℕ, coded_list, coded_option}
use Rattle.cip_application.specs.declared.config.AttributeConfig.{AttributeConfig}
use Rattle.cip_application.specs.declared.config.ObjectConfig.{ObjectConfig}
use Rattle.cip_application.specs.declared.object.AttributeName.{AttributeName}
use Rattle.cip_bytes.specs.declared.protocol.TheConstants.{IDENTITY, ASSEMBLY}
use Rattle.cip_message.specs.declared.path.Path.{Path}
use Rattle.cip_message.specs.declared.path.PathFault.{PathFault}
use Rattle.cip_message.specs.declared.request.RequestFault.{RequestFault}
use Rattle.cip_message.specs.PathReading.{path_of}
use Rattle.cip_message.specs.Request.{Request, request_of}
use Rattle.cip_objects.specs.declared.config.AssemblyConfig.{AssemblyConfig}
use Rattle.cip_objects.specs.declared.config.Config.{Config}
use Rattle.cip_objects.specs.Changes.{one_more}
use Rattle.cip_objects.specs.Configuration.{contents_of_config}
use Rattle.cip_objects.specs.Contents.{Contents, bytes_at, contents_code}
use Rattle.cip_objects.specs.Kept.{restored, name_of, counter_names}
use Rattle.cip_owner.specs.declared.reset.ResetType.{ResetType}
use Rattle.cip_owner.specs.declared.reset.ResetType.TheVariants.{PowerCycle, FirstValues}

-- ---- the request

abbrev pub is_identity : Result Path PathFault → Bool
is_identity (Ok p) = (p.class == IDENTITY) && (p.instance == 1)
is_identity (Err fault) = false

abbrev pub reset_data_of : Result Request RequestFault → Option (List ℕ)
reset_data_of (Ok q) = if (q.service == 0x05) && is_identity (path_of q.path) then Some q.data else None
reset_data_of (Err fault) = None

-- The data of a request that is a Reset of the Identity object's instance. None if these bytes are not one.
unfoldable pub reset_data : List ℕ → Option (List ℕ)
reset_data text = reset_data_of (request_of text)

-- The number of a type, as it is on the wire.
abbrev pub reset_number : ResetType → ℕ
reset_number PowerCycle = 0
reset_number FirstValues = 1

abbrev pub reset_type_of : ℕ → Option ResetType
reset_type_of number =
    if number == 0 then Some PowerCycle
    else (if number == 1 then Some FirstValues else None)

-- The type that the data of a Reset say: 0, as is none, or 1. None for any other data.
abbrev pub reset_type : List ℕ → Option ResetType
reset_type [] = Some PowerCycle
reset_type (number ∷ []) = reset_type_of number
reset_type (number ∷ (more ∷ rest)) = None

-- ---- what is put back

abbrev pub settable_data : List AssemblyConfig → List AttributeName
settable_data [] = []
settable_data (a ∷ assemblies) =
    let later = settable_data assemblies in
    if a.settable then name_of ASSEMBLY a.instance 3 ∷ later else later

abbrev pub settable_attributes : ℕ → ℕ → List AttributeConfig → List AttributeName
settable_attributes class instance [] = []
settable_attributes class instance (a ∷ attributes) =
    let later = settable_attributes class instance attributes in
    if a.settable then name_of class instance a.number ∷ later else later

abbrev pub settable_in_objects : List ObjectConfig → List AttributeName
settable_in_objects [] = []
settable_in_objects (o ∷ objects) =
    settable_attributes o.class o.instance o.attributes.items ++ settable_in_objects objects

-- The values that peers can change: the data of the settable assemblies, the three numbers of the counter, and the
-- settable attributes of the application objects, those among them that the owner approves.
abbrev pub settable_names : Config → List AttributeName
settable_names c =
    settable_data c.assemblies.items
    ++ (counter_names c.counter.enabled ++ settable_in_objects c.objects.items)

-- The contents with the first value of this name. It is not counted as a change.
abbrev pub with_first_value : Contents → AttributeName → Contents → Contents
with_first_value first name m =
    unwrap_or (restored m name (bytes_at first name.class name.instance name.attribute)) m

-- The contents with the first values of these names, one after another.
abbrev pub with_first_values : Contents → List AttributeName → Contents → Contents
with_first_values first [] m = m
with_first_values first (name ∷ names) m = with_first_values first names (with_first_value first name m)

-- ---- what a device that can be reset holds

-- The objects as they are configured, the names of the values that a Reset of type 1 puts back, how many were executed,
-- modulo 2^32, and the type of the last.
pub record ResetState : Type 0 where
  pub first : Contents
  pub names : List AttributeName
  pub executed : ℕ
  pub last : Option ResetType

-- No Reset was executed yet.
abbrev pub resettable : Config → ResetState
resettable c = record {
  first = contents_of_config c;
  names = settable_names c;
  executed = 0;
  last = None;
}

-- After one more Reset.
abbrev pub after_one : ResetType → ResetState → ResetState
after_one type r = record r { executed = one_more r.executed; last = Some type }

-- The objects after a Reset. Type 0 changes no value.
abbrev pub objects_after_reset : ResetType → ResetState → Contents → Contents
objects_after_reset PowerCycle r m = m
objects_after_reset FirstValues r m = with_first_values r.first r.names m

-- ---- how it is stored

abbrev type_of : ℕ → ResetType
type_of number = if number == 0 then PowerCycle else FirstValues

pub same_type : (type : ResetType) → type_of (reset_number type) ≡ type
same_type PowerCycle = refl
same_type FirstValues = refl

abbrev type_code : Coded ResetType
type_code = code_by ℕ coded_ℕ reset_number type_of same_type

abbrev name_code : Coded AttributeName
name_code =
    code_by (ℕ × (ℕ × ℕ)) (coded× coded_ℕ (coded× coded_ℕ coded_ℕ)) (λ n. (n.class, (n.instance, n.attribute)))
    (λ p. name_of p.0 p.1.0 p.1.1) (λ _. refl)

abbrev pub reset_code : Coded ResetState
reset_code =
    code_by (Contents × (List AttributeName × (ℕ × Option ResetType)))
    (coded× contents_code (coded× (coded_list name_code) (coded× coded_ℕ (coded_option type_code))))
    (λ r. (r.first, (r.names, (r.executed, r.last))))
    (λ p. record { first = p.0; names = p.1.0; executed = p.1.1.0; last = p.1.1.1 })
    (λ _. refl)
