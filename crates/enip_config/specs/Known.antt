-- The known keys of a configuration.
use Rattle.std.specs.Prelude.{ℕ, List, [], ◌∷◌, ◌++◌, map, Bool, true, false, ◌||◌, not, codes, bytes_eq, if◌then◌else◌}
use Rattle.std.specs.List.{list_any}
use Rattle.enip_config.specs.declared.known.TableKind.{TableKind}
use Rattle.enip_config.specs.declared.known.TableKind.TheVariants.{Text, Counter, Assembly, Ledger, Object}
use Rattle.enip_config.specs.declared.known.TableKind.TheVariants.{Attribute, Service, Commands, Access, TcpIp, Identity}
use Rattle.enip_config.specs.declared.known.TableKind.TheVariants.{EthernetLink}
use Rattle.enip_config.specs.declared.key.NumberKey.{NumberKey}
use Rattle.enip_config.specs.declared.key.NumberKey.TheVariants.{Vendor, DeviceType, ProductCode, Major, Minor, Serial}
use Rattle.enip_config.specs.declared.key.NumberKey.TheVariants.{Status, State, Port, Peers, Connections, FirstHandle}
use Rattle.enip_config.specs.declared.key.NumberKey.TheVariants.{FirstId, CounterValue}
use Rattle.enip_config.specs.declared.key.NumberKey.TheVariants.{CounterLimit}
use Rattle.enip_config.specs.Keys.{row, instance_row, originators_row, life_row, queue_row, ahead_row}
use Rattle.enip_config.specs.Objects.{class_row, attribute_row, service_row, reply_row}
use Rattle.enip_config.specs.StandardObjects.{timeout_row, speed_row, flags_row, type_row, state_row}
use Rattle.toml.specs.Data.{Data, array, table, Items, no_items, item, Members, no_members, member}

-- whether there is a key within a value, at any depth
abbrev mutual
  pub has_key : Data → Bool
  has_key (array values) = any_has_key values
  has_key (table no_members) = false
  has_key (table (member key value more)) = true
  has_key _ = false

  pub any_has_key : Items → Bool
  any_has_key no_items = false
  any_has_key (item value values) = has_key value || any_has_key values

-- whether a key is one of these
abbrev pub is_among : List (List ℕ) → List ℕ → Bool
is_among known key = list_any (bytes_eq key) known

-- whether a table has a key that is not one of these, or any key within one of its values
abbrev pub are_other_keys : List (List ℕ) → Members → Bool
are_other_keys known no_members = false
are_other_keys known (member key value more) = (not (is_among known key) || has_key value) || are_other_keys known more

-- the same for a value; in a value that is not a table every key is unknown
abbrev pub has_other_keys : List (List ℕ) → Data → Bool
has_other_keys known (table described) = are_other_keys known described
has_other_keys known value = has_key value

-- the same for the values of an array
abbrev pub any_has_other_keys : List (List ℕ) → Items → Bool
any_has_other_keys known no_items = false
any_has_other_keys known (item value values) = has_other_keys known value || any_has_other_keys known values

-- the same for a value or an array of values
abbrev pub has_other_keys_within : List (List ℕ) → Data → Bool
has_other_keys_within known (array values) = any_has_other_keys known values
has_other_keys_within known value = has_other_keys known value

-- the keys at the top level whose values are numbers
abbrev pub text_numbers : List NumberKey
text_numbers =
    Vendor ∷ DeviceType ∷ ProductCode ∷ Major ∷ Minor ∷ Serial ∷ Status ∷ State ∷ Port ∷ Peers ∷ Connections
    ∷ FirstHandle ∷ FirstId ∷ []

-- the names of the known keys of a table, except tables within it
abbrev pub keys_of : TableKind → List (List ℕ)
keys_of Text =
    map (λ key. (row key).name) text_numbers ++ (codes "name" ∷ codes "address" ∷ codes "message_router" ∷ [])
keys_of Counter = map (λ key. (row key).name) (CounterValue ∷ CounterLimit ∷ []) ++ (codes "enabled" ∷ [])
keys_of Identity = codes "reset" ∷ []
keys_of Assembly = instance_row.name ∷ codes "settable" ∷ codes "members" ∷ codes "lists" ∷ []
keys_of Ledger = originators_row.name ∷ life_row.name ∷ []
keys_of Commands = queue_row.name ∷ ahead_row.name ∷ []
keys_of Access = codes "read" ∷ codes "write" ∷ codes "per_address" ∷ codes "connections_per_address" ∷ []
keys_of TcpIp =
    codes "address" ∷ codes "mask" ∷ codes "gateway" ∷ codes "name_servers" ∷ codes "domain" ∷ codes "host"
    ∷ codes "interface" ∷ timeout_row.name ∷ []
keys_of EthernetLink =
    speed_row.name ∷ flags_row.name ∷ codes "physical_address" ∷ type_row.name ∷ state_row.name ∷ codes "label"
    ∷ codes "interface" ∷ []
keys_of Object = class_row.name ∷ instance_row.name ∷ codes "name" ∷ codes "lists" ∷ []
keys_of Attribute =
    attribute_row.name ∷ codes "type" ∷ codes "value" ∷ codes "settable" ∷ codes "checked" ∷ codes "min"
    ∷ codes "max" ∷ []
keys_of Service = service_row.name ∷ codes "size" ∷ codes "sizes" ∷ reply_row.name ∷ codes "queued" ∷ []

-- whether a key of a table `object` is unknown, or one within its value
abbrev pub is_unknown_in_object : List ℕ → Data → Bool
is_unknown_in_object key value =
    if bytes_eq key (codes "attribute") then has_other_keys_within (keys_of Attribute) value
    else if bytes_eq key (codes "service") then has_other_keys_within (keys_of Service) value
    else not (is_among (keys_of Object) key) || has_key value

-- whether a table `object` has an unknown key, at any depth
abbrev pub are_other_object_keys : Members → Bool
are_other_object_keys no_members = false
are_other_object_keys (member key value more) = is_unknown_in_object key value || are_other_object_keys more

-- the same for a value, for the values of an array, and for a value or an array of values
abbrev pub object_has_other_keys : Data → Bool
object_has_other_keys (table described) = are_other_object_keys described
object_has_other_keys value = has_key value

abbrev pub any_object_has_other_keys : Items → Bool
any_object_has_other_keys no_items = false
any_object_has_other_keys (item value values) = object_has_other_keys value || any_object_has_other_keys values

abbrev pub has_other_keys_in_objects : Data → Bool
has_other_keys_in_objects (array values) = any_object_has_other_keys values
has_other_keys_in_objects value = object_has_other_keys value

-- whether a key at the top level is unknown, or one within its value
abbrev pub is_unknown : List ℕ → Data → Bool
is_unknown key value =
    if bytes_eq key (codes "counter") then has_other_keys_within (keys_of Counter) value
    else if bytes_eq key (codes "identity") then has_other_keys_within (keys_of Identity) value
    else if bytes_eq key (codes "assembly") then has_other_keys_within (keys_of Assembly) value
    else if bytes_eq key (codes "ledger") then has_other_keys_within (keys_of Ledger) value
    else if bytes_eq key (codes "commands") then has_other_keys_within (keys_of Commands) value
    else if bytes_eq key (codes "access") then has_other_keys_within (keys_of Access) value
    else if bytes_eq key (codes "tcp_ip") then has_other_keys_within (keys_of TcpIp) value
    else if bytes_eq key (codes "ethernet_link") then has_other_keys_within (keys_of EthernetLink) value
    else if bytes_eq key (codes "object") then has_other_keys_in_objects value
    else not (is_among (keys_of Text) key) || has_key value

-- whether a key is unknown, at any depth
abbrev pub has_unknown_key : Members → Bool
has_unknown_key no_members = false
has_unknown_key (member key value more) = is_unknown key value || has_unknown_key more
