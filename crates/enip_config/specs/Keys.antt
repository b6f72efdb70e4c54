-- The keys of a configuration: their names, ranges and defaults.
use Rattle.std.specs.Prelude.{ℕ, pos, List, [], ◌∷◌, Bool, false, true, ◌&&◌, if◌then◌else◌, nat_le, codes, Option, Some}
use Rattle.std.specs.Prelude.{None, option_map, option_and_then, String}
use Rattle.std.specs.Borrow.{Bor}
use Rattle.std.specs.BTreeMap.{BTreeMap}
use Rattle.std.specs.declared.alloc.Global.{Global}
use Rattle.toml.specs.Data.{Data, integer, array, table, Items, no_items, item, Members, no_members, get_member, as_str}
use Rattle.toml.specs.Data.{as_bool, as_table}
use Rattle.toml.specs.View.{table_view}
use Rattle.toml.specs.declared.value.Value.{Value}
use Rattle.attribute_types.specs.Values.{number_in, read_or, both}
use Rattle.enip_config.specs.declared.key.NumberKey.{NumberKey}
use Rattle.enip_config.specs.declared.key.NumberKey.TheVariants.{Vendor, DeviceType, ProductCode, Major, Minor, Serial}
use Rattle.enip_config.specs.declared.key.NumberKey.TheVariants.{Status, State, Port, Peers, Connections, FirstHandle}
use Rattle.enip_config.specs.declared.key.NumberKey.TheVariants.{FirstId, CounterValue}
use Rattle.enip_config.specs.declared.key.NumberKey.TheVariants.{CounterLimit}
use Rattle.enip_config.specs.declared.key.Row.{Row}

-- A row of the table: the name of a key, its least and greatest number, and its default. A required key has none.
pub record KeyRow : Type 0 where
  pub name : List ℕ
  pub least : ℕ
  pub greatest : ℕ
  pub default : Option ℕ

abbrev pub required : List ℕ → ℕ → ℕ → KeyRow
required name least greatest = record { name = name; least = least; greatest = greatest; default = None }

abbrev pub optional : List ℕ → ℕ → ℕ → ℕ → KeyRow
optional name least greatest default =
    record { name = name; least = least; greatest = greatest; default = Some default }

-- The table of keys whose values are numbers. The last two are keys of the table `counter`.
abbrev pub row : NumberKey → KeyRow
row Vendor = required (codes "vendor") 0 0xffff
row DeviceType = required (codes "device_type") 0 0xffff
row ProductCode = required (codes "product_code") 0 0xffff
row Major = required (codes "major") 1 127
row Minor = required (codes "minor") 0 0xff
row Serial = required (codes "serial") 0 0xffffffff
row Status = optional (codes "status") 0 0xffff 0
row State = optional (codes "state") 0 0xff 3
row Port = optional (codes "port") 0 0xffff 44818
row Peers = optional (codes "peers") 1 16 4
row Connections = optional (codes "connections") 1 64 16
row FirstHandle = optional (codes "first_handle") 1 0xffffffff 1
row FirstId = optional (codes "first_id") 1 0xffffffff 1
row CounterValue = optional (codes "value") 0 0xffffffff 0
row CounterLimit = optional (codes "limit") 0 0xffffffff 0xffffffff

-- the key `instance` of a table `assembly` or `object`
abbrev pub instance_row : KeyRow
instance_row = required (codes "instance") 0 0xffff

-- the keys of the table `ledger`
abbrev pub originators_row : KeyRow
originators_row = required (codes "originators") 1 64

abbrev pub life_row : KeyRow
life_row = optional (codes "life") 1 0x7fffffffffffffff 1

-- the key `queue` of the table `commands`
abbrev pub queue_row : KeyRow
queue_row = optional (codes "queue") 1 256 16

-- the key `ahead` of the table `commands`
abbrev pub ahead_row : KeyRow
ahead_row = optional (codes "ahead") 1 256 1

abbrev pub row_seen : Row → KeyRow
row_seen r = record { name = r.name.now; least = r.least; greatest = r.greatest; default = r.default }

-- the number of a key in a table, or its default
abbrev pub number_by : KeyRow → Members → Option ℕ
number_by key described = read_or key.default (number_in key.least key.greatest) (get_member key.name described)

-- a table that is left out has no keys
abbrev pub members_found : Option (Bor (BTreeMap (String Global) Value)) → Members
members_found None = no_members
members_found (Some found) = table_view found.now

-- the table `counter`
abbrev pub counter_table : Members → Option Members
counter_table described = read_or (Some no_members) as_table (get_member (codes "counter") described)

-- the table that a key belongs to
abbrev pub table_with : NumberKey → Members → Option Members
table_with CounterValue described = counter_table described
table_with CounterLimit described = counter_table described
table_with key described = Some described

-- The number of a key. None if it is required and missing, has another type or is out of range.
abbrev pub number_of : NumberKey → Members → Option ℕ
number_of key described = option_and_then (number_by (row key)) (table_with key described)

-- the product name
abbrev pub name_of : Members → Option (List ℕ)
name_of described = read_or None as_str (get_member (codes "name") described)

-- each value of an array, as it is read
abbrev pub each : {A : Type 0} → (Data → Option A) → Items → Option (List A)
each read no_items = Some []
each read (item value values) = option_and_then (λ a. option_map (λ rest. a ∷ rest) (each read values)) (read value)

-- the four bytes of an address
abbrev pub address_in : Data → Option (List ℕ)
address_in (array (item a (item b (item c (item d no_items))))) =
    each (number_in 0 0xff) (item a (item b (item c (item d no_items))))
address_in _ = None

abbrev pub address_of : Members → Option (List ℕ)
address_of described = read_or (Some (0 ∷ 0 ∷ 0 ∷ 0 ∷ [])) address_in (get_member (codes "address") described)

-- the sizes of an assembly's members
abbrev pub sizes_in : Data → Option (List ℕ)
sizes_in (array values) = each (number_in 0 0xffff) values
sizes_in _ = None

abbrev pub sizes_of : Members → Option (List ℕ)
sizes_of described = read_or None sizes_in (get_member (codes "members") described)

-- a key that is true or false, or its default
abbrev pub flag_of : List ℕ → Bool → Members → Option Bool
flag_of name default described = read_or (Some default) as_bool (get_member name described)

-- whether the device has the counter
abbrev pub counter_enabled : Members → Option Bool
counter_enabled described = option_and_then (flag_of (codes "enabled") true) (counter_table described)

-- the table `identity`
abbrev pub identity_table : Members → Option Members
identity_table described = read_or (Some no_members) as_table (get_member (codes "identity") described)

-- whether clients can reset the device
abbrev pub reset_of : Members → Option Bool
reset_of described = option_and_then (flag_of (codes "reset") false) (identity_table described)

-- whether clients can set an assembly's data
abbrev pub settable_of : Members → Option Bool
settable_of described = flag_of (codes "settable") false described

-- whether an assembly or an object has the services for lists of attributes
abbrev pub lists_of : Members → Option Bool
lists_of described = flag_of (codes "lists") false described

-- an assembly's instance, whether it is settable, the sizes of its members, and whether it has the services for lists
abbrev pub AssemblySeen : Type 0
AssemblySeen = ℕ × (Bool × (List ℕ × Bool))

abbrev pub assembly_in : Data → Option AssemblySeen
assembly_in (table described) =
    both (number_by instance_row described)
    (both (settable_of described) (both (sizes_of described) (lists_of described)))
assembly_in _ = None

-- the assemblies, in the order of the file
abbrev pub assemblies_in : Data → Option (List AssemblySeen)
assemblies_in (array values) = each assembly_in values
assemblies_in _ = None

abbrev pub assemblies_of : Members → Option (List AssemblySeen)
assemblies_of described = read_or (Some []) assemblies_in (get_member (codes "assembly") described)

-- how many originators a ledger has slots for, and its life
abbrev pub ledger_in : Data → Option (ℕ × ℕ)
ledger_in (table described) = both (number_by originators_row described) (number_by life_row described)
ledger_in _ = None

-- the table `ledger`, if there is one
abbrev pub ledger_of : Members → Option (Option (ℕ × ℕ))
ledger_of described =
    read_or (Some None) (λ value. option_map (λ ledger. Some ledger) (ledger_in value)) (get_member (codes "ledger") described)

-- how many queued commands can wait
abbrev pub queue_in : Data → Option ℕ
queue_in (table described) = number_by queue_row described
queue_in _ = None

-- the table `commands`, if there is one
abbrev pub queue_of : Members → Option (Option ℕ)
queue_of described =
    read_or (Some None) (λ value. option_map (λ limit. Some limit) (queue_in value)) (get_member (codes "commands") described)

-- how many queued commands are handed over and not done at once: 1 if the table `commands` is left out
abbrev pub ahead_in : Data → Option ℕ
ahead_in (table described) = number_by ahead_row described
ahead_in _ = None

abbrev pub ahead_of : Members → Option ℕ
ahead_of described = read_or (Some 1) ahead_in (get_member (codes "commands") described)
