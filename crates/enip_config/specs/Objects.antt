-- The tables `object` of a configuration, with the tables `attribute` and `service` in them.
use Rattle.std.specs.Prelude.{ℕ, List, [], ◌∷◌, ◌++◌, Bool, false, true, codes, Option, Some, None, option_map, string_bytes}
use Rattle.std.specs.Prelude.{map, if◌then◌else◌}
use Rattle.std.specs.List.{list_any}
use Rattle.toml.specs.Data.{Data, array, table, Items, no_items, item, Members, get_member, as_str, as_bool}
use Rattle.cip_application.specs.declared.config.AttributeConfig.{AttributeConfig}
use Rattle.cip_application.specs.declared.config.ObjectConfig.{ObjectConfig}
use Rattle.cip_application.specs.declared.config.ServiceConfig.{ServiceConfig}
use Rattle.cip_application.specs.declared.config.ServiceKind.{ServiceKind}
use Rattle.cip_application.specs.declared.config.ServiceKind.TheVariants as kinds
use Rattle.cip_application.specs.declared.kind.AttributeKind.{AttributeKind}
use Rattle.enip_config.specs.Commands.{is_queued_kind}
use Rattle.attribute_types.specs.Values.{both, number_in, read_or}
use Rattle.enip_config.specs.Keys.{KeyRow, required, optional, instance_row, number_by, each}
use Rattle.enip_config.specs.Keys.{flag_of, lists_of}
use Rattle.attribute_types.specs.Types.{typed_in}

-- the key `class` of a table `object`
abbrev pub class_row : KeyRow
class_row = required (codes "class") 0 0xffff

-- the keys `number` of the tables `object.attribute` and `object.service`
abbrev pub attribute_row : KeyRow
attribute_row = required (codes "number") 0 0xffff

abbrev pub service_row : KeyRow
service_row = required (codes "number") 0 0xff

-- the key `reply` of a table `object.service`
abbrev pub reply_row : KeyRow
reply_row = optional (codes "reply") 0 0xffff 0

-- ---- services

-- The least and the greatest size of a service's data: both are `size`, or they are the two of `sizes`. One of the
-- keys is required, and both together are refused.
abbrev pub two_sizes : Data → Option (ℕ × ℕ)
two_sizes (array (item least (item most no_items))) = both (number_in 0 0xffff least) (number_in 0 0xffff most)
two_sizes _ = None

abbrev pub one_size : Data → Option (ℕ × ℕ)
one_size value = option_map (λ size. (size, size)) (number_in 0 0xffff value)

abbrev pub sizes_from : Option Data → Option Data → Option (ℕ × ℕ)
sizes_from None None = None
sizes_from (Some size) None = one_size size
sizes_from None (Some sizes) = two_sizes sizes
sizes_from (Some size) (Some sizes) = None

-- a service that is not queued is asked of the owner
abbrev pub kind_of : Bool → ServiceKind
kind_of queued = if queued then kinds.Queued else kinds.Asked

abbrev pub kind_by : Members → Option ServiceKind
kind_by described = option_map kind_of (flag_of (codes "queued") false described)

-- a service's number, the sizes of its data, the most bytes of its reply's data, and how it is executed
abbrev pub ServiceSeen : Type 0
ServiceSeen = ℕ × ((ℕ × ℕ) × (ℕ × ServiceKind))

abbrev pub service_in : Data → Option ServiceSeen
service_in (table described) =
    both (number_by service_row described)
    (both (sizes_from (get_member (codes "size") described) (get_member (codes "sizes") described))
    (both (number_by reply_row described) (kind_by described)))
service_in _ = None

abbrev pub service_seen : ServiceConfig → ServiceSeen
service_seen service = (service.number, ((service.least, service.most), (service.reply, service.kind)))

abbrev pub services_in : Data → Option (List ServiceSeen)
services_in (array values) = each service_in values
services_in _ = None

abbrev pub described_services : Members → Option (List ServiceSeen)
described_services described = read_or (Some []) services_in (get_member (codes "service") described)

-- Get_Result: its data are a ticket, and its reply has at most a state, a status, and what a queued service replies
abbrev pub get_result : ServiceSeen
get_result = (0x4e, ((4, 4), (478, kinds.Result)))

-- an object with a queued service has Get_Result too, after its other services
abbrev pub with_result : List ServiceSeen → List ServiceSeen
with_result services =
    if list_any (λ service. is_queued_kind service.1.1.1) services then services ++ (get_result ∷ []) else services

abbrev pub services_of : Members → Option (List ServiceSeen)
services_of described = option_map with_result (described_services described)

-- ---- attributes

-- an attribute's number, whether it is settable and checked, its kind and its first value
abbrev pub AttributeSeen : Type 0
AttributeSeen = ℕ × (Bool × (Bool × (AttributeKind × List ℕ)))

abbrev pub attribute_in : Data → Option AttributeSeen
attribute_in (table described) =
    both (number_by attribute_row described)
    (both (flag_of (codes "settable") false described)
    (both (flag_of (codes "checked") false described) (typed_in described)))
attribute_in _ = None

abbrev pub attribute_seen : AttributeConfig → AttributeSeen
attribute_seen attribute =
    (attribute.number, (attribute.settable, (attribute.checked, (attribute.kind, attribute.value.items))))

abbrev pub attributes_in : Data → Option (List AttributeSeen)
attributes_in (array values) = each attribute_in values
attributes_in _ = None

abbrev pub attributes_of : Members → Option (List AttributeSeen)
attributes_of described = read_or (Some []) attributes_in (get_member (codes "attribute") described)

-- ---- objects

-- whether an object is one of the standard, its class, instance, name if it has one, attributes and services, and whether
-- it has the service for lists
abbrev pub ObjectSeen : Type 0
ObjectSeen = Bool × (ℕ × (ℕ × (Option (List ℕ) × (List AttributeSeen × (List ServiceSeen × Bool)))))

abbrev pub object_name : Members → Option (Option (List ℕ))
object_name described =
    read_or (Some None) (λ value. option_map (λ name. Some name) (as_str value)) (get_member (codes "name") described)

abbrev pub object_in : Data → Option ObjectSeen
object_in (table described) =
    both (Some false)
    (both (number_by class_row described)
    (both (number_by instance_row described)
    (both (object_name described)
    (both (attributes_of described) (both (services_of described) (lists_of described))))))
object_in _ = None

abbrev pub object_seen : ObjectConfig → ObjectSeen
object_seen object = (
  object.standard,
  (
    object.class,
    (
      object.instance,
      (
        option_map string_bytes object.name,
        (map attribute_seen object.attributes.items, (map service_seen object.services.items, object.lists)),
      ),
    ),
  ),
)

-- the objects, in the order of the file
abbrev pub objects_in : Data → Option (List ObjectSeen)
objects_in (array values) = each object_in values
objects_in _ = None

abbrev pub objects_of : Members → Option (List ObjectSeen)
objects_of described = read_or (Some []) objects_in (get_member (codes "object") described)
