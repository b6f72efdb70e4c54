-- What a configuration says, and why one is refused: the first check that fails, in the order 7, 9, 8, 1 to 5, 10
-- to 14.
use Rattle.std.specs.Prelude.{◌≡◌, ◌≤◌, ◌⊎◌, ⊤, ℕ, List, Bool, true, false, not, ◌&&◌, Option, Some, None, IfSome, is_some}
use Rattle.std.specs.Prelude.{option_map, map, string_bytes}
use Rattle.std.specs.Prelude.{IsUtf8}
use Rattle.std.specs.Option.{IsSomeAnd}
use Rattle.toml.specs.Parse.{parse_document}
use Rattle.toml.specs.Data.{Members}
use Rattle.cip_objects.specs.declared.config.AssemblyConfig.{AssemblyConfig}
use Rattle.cip_objects.specs.Configuration.{fault_of}
use Rattle.enip_config.specs.declared.configuration.Configuration.{Configuration}
use Rattle.config_refusal.specs.declared.fault.LoadFault.{LoadFault}
use Rattle.config_refusal.specs.declared.fault.LoadFault.TheVariants.{Refused, Memory}
use Rattle.config_refusal.specs.declared.fault.ConfigurationRefusal.{ConfigurationRefusal}
use Rattle.config_refusal.specs.declared.fault.ConfigurationRefusal.TheVariants.{NotToml, BadValue, UnknownKey, Access, Commands}
use Rattle.enip_config.specs.declared.key.NumberKey.{NumberKey}
use Rattle.enip_config.specs.declared.key.NumberKey.TheVariants.{Vendor, DeviceType, ProductCode, Major, Minor, Serial}
use Rattle.enip_config.specs.declared.key.NumberKey.TheVariants.{Status, State, Port, Peers, Connections, FirstHandle}
use Rattle.enip_config.specs.declared.key.NumberKey.TheVariants.{FirstId, CounterValue}
use Rattle.enip_config.specs.declared.key.NumberKey.TheVariants.{CounterLimit}
use Rattle.enip_config.specs.Known.{has_unknown_key}
use Rattle.enip_config.specs.declared.ledger.LedgerConfig.{LedgerConfig}
use Rattle.enip_config.specs.Commands.{has_queued}
use Rattle.enip_config.specs.Keys.{row, originators_row, life_row, queue_row, ahead_row, number_of, name_of, address_of, assemblies_of}
use Rattle.enip_config.specs.Keys.{ledger_of, queue_of, ahead_of, counter_enabled, reset_of, AssemblySeen}
use Rattle.cip_application.specs.declared.message_router.MessageRouter.{MessageRouter}
use Rattle.enip_config.specs.RouterObject.{router_wanted, HasAllObjects}
use Rattle.enip_config.specs.Interfaces.{interfaces_of, interfaces_seen}
use Rattle.enip_config.specs.StandardObjects.{all_objects_of}
use Rattle.enip_config.specs.ObjectTypes.{types_of, types_seen}
use Rattle.enip_config.specs.ObjectsFault.{fault_of_objects}
use Rattle.enip_config.specs.Access.{shares_of, shares_seen, lists_of, lists_seen, HasShares}

-- the number that a configuration has for a key
abbrev pub number_in : Configuration → NumberKey → ℕ
number_in c Vendor = c.objects.vendor
number_in c DeviceType = c.objects.device_type
number_in c ProductCode = c.objects.product_code
number_in c Major = c.objects.major
number_in c Minor = c.objects.minor
number_in c Serial = c.objects.serial
number_in c Status = c.objects.status
number_in c State = c.objects.state
number_in c Port = c.port
number_in c Peers = c.peers
number_in c Connections = c.connections
number_in c FirstHandle = c.first_handle
number_in c FirstId = c.first_id
number_in c CounterValue = c.objects.counter.value
number_in c CounterLimit = c.objects.counter.limit

-- an assembly's instance, whether it is settable, the sizes of its members, and whether it has the services for lists
abbrev pub assembly_seen : AssemblyConfig → AssemblySeen
assembly_seen assembly = (assembly.instance, (assembly.settable, (assembly.members.items, assembly.lists)))

-- how many originators a ledger has slots for, and its life
abbrev pub ledger_seen : LedgerConfig → ℕ × ℕ
ledger_seen ledger = (ledger.originators, ledger.life)

-- what the Message Router shows of the device besides its application objects
abbrev pub router_in : Configuration → MessageRouter
router_in c = record {
  counter = c.objects.counter.enabled;
  ledger = is_some c.ledger;
  connections = c.connections;
}

-- the configuration has the value of each key, without the lists of the table `access`
pub record HasValues (described : Members) (c : Configuration) : Type 0 where
  pub numbers : (key : NumberKey) → number_of key described ≡ Some (number_in c key)
  pub name : name_of described ≡ Some (string_bytes c.objects.name)
  pub address : address_of described ≡ Some c.address
  pub assemblies : assemblies_of described ≡ Some (map assembly_seen c.objects.assemblies.items)
  pub ledger : ledger_of described ≡ Some (option_map ledger_seen c.ledger)
  pub queue : queue_of described ≡ Some c.queue
  pub ahead : ahead_of described ≡ Some c.ahead
  pub enabled : counter_enabled described ≡ Some c.objects.counter.enabled
  pub reset : reset_of described ≡ Some c.reset
  pub objects : HasAllObjects described (router_in c) c.objects.objects.items
  pub shares : shares_of described ≡ Some (option_map shares_seen c.access)
  pub interfaces : interfaces_of described ≡ Some (interfaces_seen c.interfaces)
  pub types : map types_seen c.attribute_types.items ≡ types_of described

-- a required value is missing, or a value has another type or is out of range
abbrev pub HasBadValue : Members → Type 0
HasBadValue described =
    ((key : NumberKey) × (number_of key described ≡ None))
    ⊎ ((name_of described ≡ None) ⊎ ((address_of described ≡ None) ⊎ ((assemblies_of described ≡ None)
    ⊎ ((ledger_of described ≡ None) ⊎ ((counter_enabled described ≡ None) ⊎ ((all_objects_of described ≡ None)
    ⊎ ((shares_of described ≡ None) ⊎ ((queue_of described ≡ None) ⊎ ((reset_of described ≡ None)
    ⊎ ((router_wanted described ≡ None) ⊎ ((interfaces_of described ≡ None) ⊎ (ahead_of described ≡ None))))))))))))

-- why a table whose keys are all known gives no configuration
abbrev pub IsUnread : Members → LoadFault → Type 0
IsUnread described Memory = ⊤
IsUnread described (Refused refusal) = (refusal ≡ BadValue) × HasBadValue described

-- there is a table `commands`, but no service is queued
abbrev pub has_unused_queue : Configuration → Bool
has_unused_queue c = is_some c.queue && not (has_queued c.objects.objects.items)

-- the bytes are a TOML document; and one whose keys are all known
pub record IsDocument (bytes : List ℕ) (described : Members) : Type 0 where
  pub text : IsUtf8 bytes
  pub parsed : parse_document bytes ≡ Some described

pub record IsKnown (bytes : List ℕ) (described : Members) : Type 0 where
  pub document : IsDocument bytes described
  pub known : has_unknown_key described ≡ false

-- the bytes are a configuration that the objects accept, with the lists of the table `access`
pub record IsListed (bytes : List ℕ) (described : Members) (c : Configuration) : Type 0 where
  pub known : IsKnown bytes described
  pub values : HasValues described c
  pub taken : fault_of c.objects ≡ None
  pub lists : lists_of described ≡ Some (option_map lists_seen c.access)

-- the same, and the table `commands` is used if there is one
pub record IsDescribed (bytes : List ℕ) (c : Configuration) : Type 0 where
  pub described : Members
  pub listed : IsListed bytes described c
  pub used : has_unused_queue c ≡ false

-- why bytes are refused
abbrev pub IsRefused : List ℕ → ConfigurationRefusal → Type 0
-- 7: they are not TOML, or not UTF-8
IsRefused bytes NotToml = IsUtf8 bytes → parse_document bytes ≡ None
-- 9: a key is unknown
IsRefused bytes UnknownKey = (described : Members) × (IsDocument bytes described × (has_unknown_key described ≡ true))
-- 8: a required value is missing, or a value has another type or is out of range
IsRefused bytes BadValue = (described : Members) × (IsKnown bytes described × HasBadValue described)
-- 13: a list of the table `access` is not one
IsRefused bytes Access =
    (described : Members) × ((c : Configuration) × (IsKnown bytes described
    × (HasValues described c × ((fault_of c.objects ≡ None) × (lists_of described ≡ None)))))
-- 14: the table `commands` is not used
IsRefused bytes Commands =
    (described : Members) × ((c : Configuration) × (IsListed bytes described c × (has_unused_queue c ≡ true)))
-- 1 to 5 and 10 to 12: the first check of the objects that fails
IsRefused bytes refusal =
    (described : Members) × ((c : Configuration) × (IsKnown bytes described
    × (HasValues described c × IsSomeAnd (fault_of c.objects) (λ check. fault_of_objects check ≡ Refused refusal))))

-- why bytes could not be loaded
abbrev pub IsFaultOf : List ℕ → LoadFault → Type 0
IsFaultOf bytes Memory = ⊤
IsFaultOf bytes (Refused refusal) = IsRefused bytes refusal

-- each number is in range
abbrev pub IsInRange : Configuration → Type 0
IsInRange c = (key : NumberKey) → ((row key).least ≤ number_in c key) × (number_in c key ≤ (row key).greatest)

-- the numbers of the ledger are in range, if there is one
pub record HasRanges (ledger : LedgerConfig) : Type 0 where
  pub originators_from : originators_row.least ≤ ledger.originators
  pub originators_to : ledger.originators ≤ originators_row.greatest
  pub life_from : life_row.least ≤ ledger.life
  pub life_to : ledger.life ≤ life_row.greatest

abbrev pub IsLedgerInRange : Configuration → Type 0
IsLedgerInRange c = IfSome c.ledger HasRanges

-- the queue of the table `commands` is in range, if there is one
abbrev pub IsQueueInRange : Configuration → Type 0
IsQueueInRange c = IfSome c.queue (λ n. (queue_row.least ≤ n) × (n ≤ queue_row.greatest))

-- how many commands are handed over at once is in range
pub record IsAheadInRange (c : Configuration) : Type 0 where
  pub from : ahead_row.least ≤ c.ahead
  pub to : c.ahead ≤ ahead_row.greatest

-- the shares of the table `access` are in range, if there is one
abbrev pub AreSharesInRange : Configuration → Type 0
AreSharesInRange c = IfSome c.access HasShares
