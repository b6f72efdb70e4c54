-- The interface of the system that a table `tcp_ip` or `ethernet_link` names: its values are read there when the device is
-- started.
use Rattle.std.specs.Prelude.{◌≡◌, ℕ, List, [], ◌∷◌, Bool, true, not, ◌&&◌, ◌||◌, ◌==◌, nat_le, nat_lt, codes, bytes_eq}
use Rattle.std.specs.Prelude.{length, Option, Some, None, option_map, is_some, if◌then◌else◌, string_bytes}
use Rattle.std.specs.List.{list_any}
use Rattle.toml.specs.Data.{Data, string, table, Members, get_member}
use Rattle.enip_config.specs.declared.interfaces.NamedInterfaces.{NamedInterfaces}
use Rattle.attribute_types.specs.Values.{both, read_or}

-- whether a table has a key
abbrev pub has : List ℕ → Members → Bool
has name described = is_some (get_member name described)

-- a byte that a name cannot have: one outside 0x21 to 0x7e, `/` and `:`
abbrev pub is_no_name_byte : ℕ → Bool
is_no_name_byte byte = ((nat_lt byte 0x21 || nat_lt 0x7e byte) || byte == 0x2f) || byte == 0x3a

-- the name of an interface: 1 to 15 such bytes, which are not a folder
abbrev pub is_interface_name : List ℕ → Bool
is_interface_name name =
    nat_le 1 (length name) && nat_le (length name) 15 && not (bytes_eq name (codes ".")) && not (bytes_eq name (codes ".."))
    && not (list_any is_no_name_byte name)

abbrev pub interface_name : Data → Option (List ℕ)
interface_name (string name) = if is_interface_name name then Some name else None
interface_name _ = None

-- the name in a table, if there is one; `given` says whether the table has a value that is read from the interface
abbrev pub named_in : Bool → Members → Option (Option (List ℕ))
named_in given described =
    if has (codes "interface") described && given then None
    else read_or (Some None) (λ value. option_map (λ name. Some name) (interface_name value))
    (get_member (codes "interface") described)

-- the values of the table `tcp_ip` that are read from an interface: address and mask
abbrev pub has_own_address : Members → Bool
has_own_address described = has (codes "address") described || has (codes "mask") described

abbrev pub named_by_tcp_ip : Data → Option (Option (List ℕ))
named_by_tcp_ip (table described) = named_in (has_own_address described) described
named_by_tcp_ip _ = None

-- those of the table `ethernet_link`: speed, flags, physical address and state
abbrev pub has_own_link : Members → Bool
has_own_link described =
    ((has (codes "speed") described || has (codes "flags") described) || has (codes "physical_address") described)
    || has (codes "state") described

abbrev pub named_by_link : Data → Option (Option (List ℕ))
named_by_link (table described) = named_in (has_own_link described) described
named_by_link _ = None

-- the interfaces that both tables name
abbrev pub tcp_ip_interface : Members → Option (Option (List ℕ))
tcp_ip_interface described = read_or (Some None) named_by_tcp_ip (get_member (codes "tcp_ip") described)

abbrev pub link_interface : Members → Option (Option (List ℕ))
link_interface described = read_or (Some None) named_by_link (get_member (codes "ethernet_link") described)

abbrev pub interfaces_of : Members → Option (Option (List ℕ) × Option (List ℕ))
interfaces_of described = both (tcp_ip_interface described) (link_interface described)

abbrev pub interfaces_seen : NamedInterfaces → Option (List ℕ) × Option (List ℕ)
interfaces_seen named = (option_map string_bytes named.tcp_ip, option_map string_bytes named.ethernet_link)
