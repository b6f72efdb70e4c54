-- The objects that a configuration describes, and its checks: the first that fails refuses it.
use Rattle.std.specs.Prelude.{ℕ, Bool, false, ◌==◌, ◌||◌, nat_lt, if◌then◌else◌, List, [], ◌∷◌, length, map, sum}
use Rattle.std.specs.Prelude.{replicate, Option, Some, option_map}
use Rattle.std.specs.List.{list_any}
use Rattle.std.specs.String.{string_bytes}
use Rattle.cip_application.specs.declared.config.ObjectFault.{ObjectFault}
use Rattle.cip_application.specs.declared.config.ObjectFault.TheVariants as faults
use Rattle.cip_application.specs.Configuration.{fault_of as objects_fault, objects_of_config}
use Rattle.cip_objects.specs.declared.config.Config.{Config}
use Rattle.cip_objects.specs.declared.config.AssemblyConfig.{AssemblyConfig}
use Rattle.cip_objects.specs.declared.config.CounterConfig.{CounterConfig}
use Rattle.cip_objects.specs.declared.config.ConfigFault.{ConfigFault}
use Rattle.cip_objects.specs.declared.config.ConfigFault.TheVariants.{Name, Size, Members, DoubleInstance, Limit}
use Rattle.cip_objects.specs.declared.config.ConfigFault.TheVariants.{Memory, Object, Attribute, Service}
use Rattle.cip_objects.specs.Limits.{LONGEST_DATA}
use Rattle.cip_objects.specs.Contents.{Contents}
use Rattle.cip_objects.specs.Entries.{IdentityValues, AssemblyValues, CounterValues, contents_of}

-- The numbers of the faults, as printed.
abbrev pub config_fault_number : ConfigFault → ℕ
config_fault_number Name = 1
config_fault_number Size = 2
config_fault_number Members = 3
config_fault_number DoubleInstance = 4
config_fault_number Limit = 5
config_fault_number Memory = 6
config_fault_number Object = 10
config_fault_number Attribute = 11
config_fault_number Service = 12

-- A fault of the application objects, as one of all objects.
abbrev pub config_fault : ObjectFault → ConfigFault
config_fault faults.Object = Object
config_fault faults.Attribute = Attribute
config_fault faults.Service = Service
config_fault faults.Memory = Memory

-- The name has over 32 bytes, or a byte outside 0x20 to 0x7e.
abbrev pub is_invalid_name : List ℕ → Bool
is_invalid_name name = nat_lt 32 (length name) || list_any (λ byte. nat_lt byte 0x20 || nat_lt 0x7e byte) name

-- The assembly has no byte, or more than an assembly can have.
abbrev pub is_invalid_size : AssemblyConfig → Bool
is_invalid_size a = (sum a.members.items == 0) || nat_lt LONGEST_DATA (sum a.members.items)

-- The assembly has over 64 members, or one of 0 bytes.
abbrev pub are_invalid_members : AssemblyConfig → Bool
are_invalid_members a = nat_lt 64 (length a.members.items) || list_any (λ size. size == 0) a.members.items

-- A number is 0, which is the class itself, or is used twice.
abbrev pub are_invalid_instances : List ℕ → Bool
are_invalid_instances [] = false
are_invalid_instances (n ∷ ns) = ((n == 0) || list_any (λ m. m == n) ns) || are_invalid_instances ns

abbrev pub instances : List AssemblyConfig → List ℕ
instances assemblies = map (λ a. a.instance) assemblies

-- The first check that fails. Running out of memory is not one of them.
unfoldable pub fault_of : Config → Option ConfigFault
fault_of c =
    if is_invalid_name (string_bytes c.name) then Some Name
    else (if nat_lt 16 (length c.assemblies.items) || list_any is_invalid_size c.assemblies.items then Some Size
    else (if list_any are_invalid_members c.assemblies.items then Some Members
    else (if are_invalid_instances (instances c.assemblies.items) then Some DoubleInstance
    else (if nat_lt c.counter.limit c.counter.value then Some Limit
    else option_map config_fault (objects_fault c.counter.enabled c.objects.items)))))

-- The Identity object of a configuration.
abbrev pub identity_of : Config → IdentityValues
identity_of c = record {
  vendor = c.vendor;
  device_type = c.device_type;
  product_code = c.product_code;
  major = c.major;
  minor = c.minor;
  status = c.status;
  serial = c.serial;
  name = string_bytes c.name;
  state = c.state;
}

-- An assembly of a configuration. Its data are zeros, and nobody has written them.
abbrev pub assembly_of_config : AssemblyConfig → AssemblyValues
assembly_of_config a = record {
  instance = a.instance;
  settable = a.settable;
  members = a.members.items;
  lists = a.lists;
  content = replicate (sum a.members.items) 0;
  changes = 0;
}

-- The counter of a configuration. Nothing was added yet.
abbrev pub counter_of : CounterConfig → CounterValues
counter_of c = record { enabled = c.enabled; value = c.value; limit = c.limit; additions = 0 }

-- The contents of a configuration.
unfoldable pub contents_of_config : Config → Contents
contents_of_config c =
    contents_of (identity_of c) (map assembly_of_config c.assemblies.items) (counter_of c.counter)
    (objects_of_config c.objects.items)
