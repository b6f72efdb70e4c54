-- The lists of the table `access`.
use Rattle.std.proofs.Common.{◌≡◌, ℕ, ◌≤◌, List, ◌++◌, length, drop, append-nil, Option, Some, None, option_map, refl, sym, ap, ◌∙◌, arith, le-leb}
use Rattle.std.proofs.lemmas.Option.{none-some}
use Rattle.std.proofs.NetLemmas.Options.{map_some}
use Rattle.std.proofs.lemmas.List.{drop_all}
use Rattle.toml.specs.Data.{Data, Members}
use Rattle.toml.specs.View.{items_view}
use Rattle.toml.specs.declared.value.Value.{Value}
use Rattle.cip_objects.specs.Configuration.{fault_of}
use Rattle.enip_access.specs.declared.access.Access.{Access}
use Rattle.enip_access.specs.declared.prefix.Prefix.{Prefix}
use Rattle.enip_config.specs.declared.configuration.Configuration.{Configuration}
use Rattle.config_refusal.specs.declared.fault.LoadFault.{LoadFault}
use Rattle.enip_config.specs.declared.key.NumberKey.{NumberKey}
use Rattle.enip_config.specs.declared.key.NumberKey.TheVariants.{Vendor, DeviceType, ProductCode, Major, Minor, Serial, Status, State, Port, Peers, Connections, FirstHandle, FirstId, CounterValue, CounterLimit}
use Rattle.attribute_types.specs.Values.{read_or}
use Rattle.enip_config.specs.Keys.{each}
use Rattle.enip_config.specs.Access.{few, rule_in, shares_in, shares_seen, lists_of, IsBadList}
use Rattle.enip_config.specs.Documents.{number_in, HasValues, IsKnown, IsFaultOf}

-- a list that is not too long
pub few_rules : (all : Option (List Prefix)) (rules : List Prefix) → all ≡ Some rules → length rules ≤ 64 → few all ≡ Some rules
few_rules all rules is short = rw (is, le-leb (length rules) 64 short) refl

-- all values were read
pub at_end : (values : List Value) (n : ℕ) (rules : List Prefix) → length values ≤ n
    → option_map (λ rest. rules ++ rest) (each rule_in (items_view (drop n values))) ≡ each rule_in (items_view values)
    → each rule_in (items_view values) ≡ Some rules
at_end values n rules end is =
    sym is ∙ ap (λ vs. option_map (λ rest. rules ++ rest) (each rule_in (items_view vs))) (drop_all n values end) ∙ ap Some (append-nil rules)

same_number : (c : Configuration) (access : Option Access) (key : NumberKey) → number_in (record c { access = access }) key ≡ number_in c key
same_number c access Vendor = refl
same_number c access DeviceType = refl
same_number c access ProductCode = refl
same_number c access Major = refl
same_number c access Minor = refl
same_number c access Serial = refl
same_number c access Status = refl
same_number c access State = refl
same_number c access Port = refl
same_number c access Peers = refl
same_number c access Connections = refl
same_number c access FirstHandle = refl
same_number c access FirstId = refl
same_number c access CounterValue = refl
same_number c access CounterLimit = refl

-- a configuration keeps its values with other lists
pub with_access : (described : Members) (c : Configuration) (access : Option Access) → HasValues described c
    → option_map shares_seen access ≡ option_map shares_seen c.access → HasValues described (record c { access = access })
with_access described c access values same = record {
  numbers = λ key. values.numbers key ∙ ap Some (sym (same_number c access key));
  name = values.name;
  address = values.address;
  assemblies = values.assemblies;
  ledger = values.ledger;
  queue = values.queue;
  ahead = values.ahead;
  enabled = values.enabled;
  reset = values.reset;
  objects = values.objects;
  shares = values.shares ∙ ap Some (sym same);
  interfaces = values.interfaces;
  types = values.types;
}

-- what the lists refuse of the values that were read
pub refused_by_lists : (bytes : List ℕ) (described : Members) (c : Configuration) (fault : LoadFault)
    → IsKnown bytes described → HasValues described c → fault_of c.objects ≡ None → IsBadList (lists_of described) fault → IsFaultOf bytes fault
refused_by_lists bytes described c fault known values taken bad = rw bad.0 (described, (c, (known, (values, (taken, bad.1)))))

-- without shares there is no table
pub no_table : (found : Option Data) → read_or (Some None) (λ value. option_map (λ shares. Some shares) (shares_in value)) found ≡ Some None → found ≡ None
no_table None is = refl
no_table (Some value) is =
    map_some (λ shares. Some shares) (shares_in value) None is λ shares read same. absurd (none-some shares (sym same))
