-- The table `access` of a configuration.
use Rattle.std.specs.Prelude.{◌≡◌, ◌≤◌, IfSome, ℕ, List, Option, Some, None, option_map, codes, length, nat_le, if◌then◌else◌}
use Rattle.std.specs.Result.{result_ok}
use Rattle.toml.specs.Data.{Data, string, array, table, Members, get_member}
use Rattle.enip_access.specs.Access.{list_seen}
use Rattle.enip_access.specs.Prefix.{prefix_in}
use Rattle.enip_access.specs.declared.access.Access.{Access}
use Rattle.enip_access.specs.declared.prefix.Prefix.{Prefix}
use Rattle.config_refusal.specs.declared.fault.LoadFault.{LoadFault}
use Rattle.config_refusal.specs.declared.fault.LoadFault.TheVariants.{Refused}
use Rattle.config_refusal.specs.declared.fault.ConfigurationRefusal.TheVariants as refused
use Rattle.attribute_types.specs.Values.{both, number_in, read_or}
use Rattle.enip_config.specs.Keys.{each}

-- a share, from 1 to a greatest one, that may be left out
abbrev pub share_by : List ℕ → ℕ → Members → Option (Option ℕ)
share_by name greatest described =
    read_or (Some None) (λ value. option_map (λ share. Some share) (number_in 1 greatest value)) (get_member name described)

-- how many places one address may have, and how many connections
abbrev pub shares_in : Data → Option (Option ℕ × Option ℕ)
shares_in (table described) =
    both (share_by (codes "per_address") 16 described) (share_by (codes "connections_per_address") 64 described)
shares_in _ = None

-- the shares of the table `access`, if there is one
abbrev pub shares_of : Members → Option (Option (Option ℕ × Option ℕ))
shares_of described =
    read_or (Some None) (λ value. option_map (λ shares. Some shares) (shares_in value)) (get_member (codes "access") described)

-- a rule: the text of an address or of a prefix
abbrev pub rule_in : Data → Option Prefix
rule_in (string text) = result_ok (prefix_in text)
rule_in _ = None

-- up to 64 rules
abbrev pub few : Option (List Prefix) → Option (List Prefix)
few None = None
few (Some rules) = if nat_le (length rules) 64 then Some rules else None

-- a list of rules
abbrev pub rules_in : Data → Option (List Prefix)
rules_in (array values) = few (each rule_in values)
rules_in _ = None

-- a list that may be left out
abbrev pub list_by : List ℕ → Members → Option (Option (List Prefix))
list_by name described =
    read_or (Some None) (λ value. option_map (λ rules. Some rules) (rules_in value)) (get_member name described)

-- who may connect, and who may change something
abbrev pub lists_in : Data → Option (Option (List Prefix) × Option (List Prefix))
lists_in (table described) = both (list_by (codes "read") described) (list_by (codes "write") described)
lists_in _ = None

-- the lists of the table `access`, if there is one
abbrev pub lists_of : Members → Option (Option (Option (List Prefix) × Option (List Prefix)))
lists_of described =
    read_or (Some None) (λ value. option_map (λ lists. Some lists) (lists_in value)) (get_member (codes "access") described)

-- the shares and the lists of a device's rules
abbrev pub shares_seen : Access → Option ℕ × Option ℕ
shares_seen access = (access.per_address, access.connections_per_address)

abbrev pub lists_seen : Access → Option (List Prefix) × Option (List Prefix)
lists_seen access = (list_seen access.read, list_seen access.write)

-- a share is in range, if there is one
abbrev pub IsShare : ℕ → Option ℕ → Type 0
IsShare greatest share = IfSome share (λ n. (1 ≤ n) × (n ≤ greatest))

abbrev pub HasShares : Access → Type 0
HasShares access = IsShare 16 access.per_address × IsShare 64 access.connections_per_address

-- the fault is Access, and no list could be read
abbrev pub IsBadList : {A : Type 0} → Option A → LoadFault → Type 0
IsBadList read fault = (fault ≡ Refused refused.Access) × (read ≡ None)
