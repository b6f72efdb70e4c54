use Rattle.std.proofs.Common.{◌≡◌, ◌≤◌, ℕ, List, Option, IfSome, Some, None, inl, Result, Ok, Err, IfErr, option_and_then, refl, sym, arith, rules}
use Rattle.toml.specs.Data.{Data, Members, get_member}
use Rattle.cip_objects.specs.declared.config.ConfigFault.{ConfigFault}
use Rattle.cip_objects.specs.declared.config.ConfigFault.TheVariants.{Name, Size, Members as WrongMembers, DoubleInstance, Limit, Object, Attribute, Service, Memory}
use Rattle.cip_objects.specs.Configuration.{fault_of}
use Rattle.enip_config.specs.declared.configuration.Configuration.{Configuration}
use Rattle.attribute_types.specs.Values.{IsBad, number_in, read_or}
use Rattle.enip_config.specs.Keys.{KeyRow, row, number_by, number_of, table_with}
use Rattle.config_refusal.specs.declared.fault.LoadFault.{LoadFault}
use Rattle.enip_config.specs.ObjectsFault.{fault_of_objects}
use Rattle.enip_config.specs.Documents.{number_in as held, IsKnown, HasValues, IsFaultOf, IsInRange, IsUnread}
use Rattle.enip_config.specs.declared.key.NumberKey.{NumberKey}
use Rattle.enip_config.specs.declared.key.NumberKey.TheVariants.{Vendor, DeviceType, ProductCode, Major, Minor, Serial, Status, State, Port, Peers, Connections, FirstHandle, FirstId, CounterValue, CounterLimit}

-- What the objects refuse of the values that were read.
pub refused_by_objects : (bytes : List ℕ) (described : Members) (c : Configuration) (check : ConfigFault)
    → IsKnown bytes described → HasValues described c → fault_of c.objects ≡ Some check
    → IsFaultOf bytes (fault_of_objects check)
refused_by_objects bytes described c Name known values fails = (described, (c, (known, (values, rw fails refl))))
refused_by_objects bytes described c Size known values fails = (described, (c, (known, (values, rw fails refl))))
refused_by_objects bytes described c WrongMembers known values fails = (described, (c, (known, (values, rw fails refl))))
refused_by_objects bytes described c DoubleInstance known values fails = (described, (c, (known, (values, rw fails refl))))
refused_by_objects bytes described c Limit known values fails = (described, (c, (known, (values, rw fails refl))))
refused_by_objects bytes described c Object known values fails = (described, (c, (known, (values, rw fails refl))))
refused_by_objects bytes described c Attribute known values fails = (described, (c, (known, (values, rw fails refl))))
refused_by_objects bytes described c Service known values fails = (described, (c, (known, (values, rw fails refl))))
refused_by_objects bytes described c Memory known values fails = tt

-- A number that could not be read.
pub unread_number : (key : NumberKey) (described : Members) (fault : LoadFault) → IsBad (number_of key described) fault → IsUnread described fault
unread_number key described fault bad = rw bad.0 (refl, inl (key, bad.1))

pub unread_table : (key : NumberKey) (described : Members) (fault : LoadFault) → IsBad (table_with key described) fault → IsUnread described fault
unread_table key described fault bad = unread_number key described fault (bad.0, rw bad.1 refl)

pub unread_in : {A : Type 0} (key : NumberKey) (described table : Members) (r : KeyRow) (read : Result A LoadFault) → table_with key described ≡ Some table
    → r ≡ row key → IfErr read (IsBad (number_by r table)) → IfErr read (IsUnread described)
unread_in key described table r (Ok n) found same bad = tt
unread_in key described table r (Err fault) found same bad = unread_number key described fault (bad.0, rw found (rw (sym same) bad.1))

-- A number that was read is in range.
pub in_numbers : (least greatest : ℕ) (d : Data) (n : ℕ) → number_in least greatest d ≡ Some n → (least ≤ n) × (n ≤ greatest)
in_numbers least greatest d n is = search (rules, is)

abbrev pub IsWithin : ℕ → ℕ → ℕ → Type 0
IsWithin least greatest n = (least ≤ n) × (n ≤ greatest)

pub in_read : (least greatest : ℕ) (default : Option ℕ) (found : Option Data) (n : ℕ) → IfSome default (IsWithin least greatest)
    → read_or default (number_in least greatest) found ≡ Some n → IsWithin least greatest n
in_read least greatest default (Some d) n within is = in_numbers least greatest d n is
in_read least greatest (Some m) None n within is = search (rules, within, is)
in_read least greatest None None n within is = search (rules, is)

in_found : (k : KeyRow) (table : Option Members) (n : ℕ) → IfSome k.default (IsWithin k.least k.greatest)
    → option_and_then (number_by k) table ≡ Some n → IsWithin k.least k.greatest n
in_found k (Some table) n within is = in_read k.least k.greatest k.default (get_member k.name table) n within is
in_found k None n within is = search (rules, is)

default_within : (key : NumberKey) → IfSome (row key).default (IsWithin (row key).least (row key).greatest)
default_within Vendor = tt
default_within DeviceType = tt
default_within ProductCode = tt
default_within Major = tt
default_within Minor = tt
default_within Serial = tt
default_within Status = search arith
default_within State = search arith
default_within Port = search arith
default_within Peers = search arith
default_within Connections = search arith
default_within FirstHandle = (search arith, search arith)
default_within FirstId = (search arith, search arith)
default_within CounterValue = search arith
default_within CounterLimit = search arith

pub all_in_range : (described : Members) (c : Configuration) → HasValues described c → IsInRange c
all_in_range described c values key = in_found (row key) (table_with key described) (held c key) (default_within key) (values.numbers key)
