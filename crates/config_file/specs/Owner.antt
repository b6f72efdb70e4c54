-- What of a device's own objects needs an owner: a checked attribute, whose sets the owner decides on, and an own service,
-- which the owner executes. At once, while the client waits, it decides on sets and executes services that are not queued.
use Rattle.std.specs.Prelude.{ℕ, Bool, true, false, List, [], ◌∷◌, Option, Some, None, if◌then◌else◌}
use Rattle.cip_application.specs.declared.config.AttributeConfig.{AttributeConfig}
use Rattle.cip_application.specs.declared.config.ObjectConfig.{ObjectConfig}
use Rattle.cip_application.specs.declared.config.ServiceConfig.{ServiceConfig}
use Rattle.cip_application.specs.declared.config.ServiceKind.{ServiceKind}
use Rattle.cip_application.specs.declared.config.ServiceKind.TheVariants as kinds
use Rattle.enip_common.specs.declared.owner_need.OwnerNeed.{OwnerNeed}
use Rattle.enip_common.specs.declared.owner_need.OwnerNeed.TheVariants.{Attribute, Service, Queued}

-- The number of the first checked attribute.
abbrev pub checked_number : List AttributeConfig → Option ℕ
checked_number [] = None
checked_number (a ∷ attributes) = if a.checked then Some a.number else checked_number attributes

-- The owner is asked while the client waits.
abbrev pub is_asked : ServiceKind → Bool
is_asked kinds.Asked = true
is_asked kinds.Queued = false
is_asked kinds.Result = false

-- The number of the first service that is not queued.
abbrev pub asked_number : List ServiceConfig → Option ℕ
asked_number [] = None
asked_number (s ∷ services) = if is_asked s.kind then Some s.number else asked_number services

-- The first one that there is.
abbrev pub first_of : Option OwnerNeed → Option OwnerNeed → Option OwnerNeed
first_of (Some need) others = Some need
first_of None others = others

-- The checked attribute of an object with this number.
abbrev pub attribute_need : ObjectConfig → Option ℕ → Option OwnerNeed
attribute_need o (Some number) = Some (Attribute o.class o.instance number)
attribute_need o None = None

-- The service of an object with this number, which is not queued.
abbrev pub asked_need : ObjectConfig → Option ℕ → Option OwnerNeed
asked_need o (Some number) = Some (Service o.class o.instance number)
asked_need o None = None

-- A service of this kind and number. Get_Result belongs to queued services.
abbrev pub need_of_kind : ℕ → ℕ → ℕ → ServiceKind → OwnerNeed
need_of_kind class instance number kinds.Asked = Service class instance number
need_of_kind class instance number kinds.Queued = Queued class instance number
need_of_kind class instance number kinds.Result = Queued class instance number

-- A service of an object.
abbrev pub need_of_service : ℕ → ℕ → ServiceConfig → OwnerNeed
need_of_service class instance s = need_of_kind class instance s.number s.kind

-- The first of these services of an object.
abbrev pub service_need : ObjectConfig → List ServiceConfig → Option OwnerNeed
service_need o [] = None
service_need o (s ∷ services) = Some (need_of_service o.class o.instance s)

-- The first checked attribute, in the order of the configuration.
abbrev pub first_checked : List ObjectConfig → Option OwnerNeed
first_checked [] = None
first_checked (o ∷ objects) = first_of (attribute_need o (checked_number o.attributes.items)) (first_checked objects)

-- The first own service, in the order of the configuration.
abbrev pub first_service : List ObjectConfig → Option OwnerNeed
first_service [] = None
first_service (o ∷ objects) = first_of (service_need o o.services.items) (first_service objects)

-- The first own service that is not queued, in the order of the configuration.
abbrev pub first_asked : List ObjectConfig → Option OwnerNeed
first_asked [] = None
first_asked (o ∷ objects) = first_of (asked_need o (asked_number o.services.items)) (first_asked objects)

-- The first part that needs an owner. Checked attributes come before services, as the checks of a configuration do.
abbrev pub first_need : List ObjectConfig → Option OwnerNeed
first_need objects = first_of (first_checked objects) (first_service objects)

-- The first part that needs an owner that answers at once. What is queued needs none.
abbrev pub first_need_at_once : List ObjectConfig → Option OwnerNeed
first_need_at_once objects = first_of (first_checked objects) (first_asked objects)
