-- The tables `tcp_ip` and `ethernet_link` of a configuration.
use Rattle.std.specs.Prelude.{◌≡◌, ◌≤◌, ℕ, List, [], ◌∷◌, ◌++◌, Bool, true, not, ◌&&◌, ◌||◌, nat_le, nat_lt, codes, length, map, false}
use Rattle.std.specs.Prelude.{Option, Some, None, option_map, option_and_then, if◌then◌else◌}
use Rattle.std.specs.List.{list_any}
use Rattle.toml.specs.Data.{Data, string, array, table, Items, no_items, item, Members, get_member}
use Rattle.cip_application.specs.declared.standard.EthernetLink.{EthernetLink}
use Rattle.cip_application.specs.declared.standard.TcpIpInterface.{TcpIpInterface}
use Rattle.cip_application.specs.Attributes.{AttributeValues}
use Rattle.cip_application.specs.Standard.{InterfaceValues, LinkValues, interface_attributes, link_attributes}
use Rattle.attribute_types.specs.Values.{both, number_in, read_or}
use Rattle.enip_config.specs.Keys.{KeyRow, optional, number_by, each, address_in}
use Rattle.enip_config.specs.Interfaces.{has}
use Rattle.enip_config.specs.Objects.{AttributeSeen, ObjectSeen, objects_of}

-- the key `inactivity_timeout` of the table `tcp_ip`
abbrev pub timeout_row : KeyRow
timeout_row = optional (codes "inactivity_timeout") 0 3600 120

-- the keys of the table `ethernet_link` whose values are numbers
abbrev pub speed_row : KeyRow
speed_row = optional (codes "speed") 0 0xffffffff 100

abbrev pub flags_row : KeyRow
flags_row = optional (codes "flags") 0 0xffffffff 15

abbrev pub type_row : KeyRow
type_row = optional (codes "type") 0 0xff 2

abbrev pub state_row : KeyRow
state_row = optional (codes "state") 0 0xff 1

abbrev pub no_address : List ℕ
no_address = 0 ∷ 0 ∷ 0 ∷ 0 ∷ []

-- an address that is required unless the table names an interface of the system, and one that is zeros if it is left out
abbrev pub own_address : List ℕ → Members → Option (List ℕ)
own_address name described =
    read_or (if has (codes "interface") described then Some no_address else None) address_in (get_member name described)

abbrev pub optional_address : List ℕ → Members → Option (List ℕ)
optional_address name described = read_or (Some no_address) address_in (get_member name described)

-- up to two addresses; those that are left out are zeros
abbrev pub two_addresses : Data → Option (List ℕ × List ℕ)
two_addresses (array no_items) = Some (no_address, no_address)
two_addresses (array (item first no_items)) = both (address_in first) (Some no_address)
two_addresses (array (item first (item second no_items))) = both (address_in first) (address_in second)
two_addresses _ = None

abbrev pub name_servers : Members → Option (List ℕ × List ℕ)
name_servers described =
    read_or (Some (no_address, no_address)) two_addresses (get_member (codes "name_servers") described)

-- a text has this many bytes at most, each 0x20 to 0x7e
abbrev pub is_text : ℕ → List ℕ → Bool
is_text most text = nat_le (length text) most && not (list_any (λ byte. nat_lt byte 0x20 || nat_lt 0x7e byte) text)

abbrev pub text_in : ℕ → Data → Option (List ℕ)
text_in most (string text) = if is_text most text then Some text else None
text_in most _ = None

abbrev pub text_by : List ℕ → ℕ → Members → Option (List ℕ)
text_by name most described = read_or (Some []) (text_in most) (get_member name described)

-- the six bytes of a MAC address: twice three
abbrev pub three_bytes : Data → Data → Data → Option (List ℕ)
three_bytes a b c = each (number_in 0 0xff) (item a (item b (item c no_items)))

abbrev pub six_bytes : Data → Option (List ℕ)
six_bytes (array (item a (item b (item c (item d (item e (item f no_items))))))) =
    option_map (λ halves. halves.0 ++ halves.1) (both (three_bytes a b c) (three_bytes d e f))
six_bytes _ = None

abbrev pub physical_address : Members → Option (List ℕ)
physical_address described =
    read_or (Some (0 ∷ 0 ∷ 0 ∷ 0 ∷ 0 ∷ 0 ∷ [])) six_bytes (get_member (codes "physical_address") described)

-- ---- the table `tcp_ip`

-- address, mask, gateway, name servers, domain, host, timeout
abbrev pub InterfaceParts : Type 0
InterfaceParts =
    List ℕ × (List ℕ × (List ℕ × ((List ℕ × List ℕ) × (List ℕ × (List ℕ × ℕ)))))

abbrev pub interface_of_parts : InterfaceParts → InterfaceValues
interface_of_parts parts = record {
  address = parts.0;
  mask = parts.1.0;
  gateway = parts.1.1.0;
  name_server = parts.1.1.1.0.0;
  second_name_server = parts.1.1.1.0.1;
  domain = parts.1.1.1.1.0;
  host = parts.1.1.1.1.1.0;
  inactivity_timeout = parts.1.1.1.1.1.1;
}

abbrev pub interface_in : Data → Option InterfaceValues
interface_in (table described) =
    option_map interface_of_parts
    (both (own_address (codes "address") described)
    (both (own_address (codes "mask") described)
    (both (optional_address (codes "gateway") described)
    (both (name_servers described)
    (both (text_by (codes "domain") 48 described)
    (both (text_by (codes "host") 64 described) (number_by timeout_row described)))))))
interface_in _ = None

-- the table, if there is one
abbrev pub interface_of : Members → Option (Option InterfaceValues)
interface_of described =
    read_or (Some None) (λ value. option_map (λ i. Some i) (interface_in value)) (get_member (codes "tcp_ip") described)

-- ---- the table `ethernet_link`

-- speed, flags, physical address, type, state, label
abbrev pub LinkParts : Type 0
LinkParts = ℕ × (ℕ × (List ℕ × (ℕ × (ℕ × List ℕ))))

abbrev pub link_of_parts : LinkParts → LinkValues
link_of_parts parts = record {
  speed = parts.0;
  flags = parts.1.0;
  physical_address = parts.1.1.0;
  interface_type = parts.1.1.1.0;
  state = parts.1.1.1.1.0;
  label = parts.1.1.1.1.1;
}

abbrev pub link_in : Data → Option LinkValues
link_in (table described) =
    option_map link_of_parts
    (both (number_by speed_row described)
    (both (number_by flags_row described)
    (both (physical_address described)
    (both (number_by type_row described)
    (both (number_by state_row described) (text_by (codes "label") 64 described))))))
link_in _ = None

-- the table, if there is one
abbrev pub link_of : Members → Option (Option LinkValues)
link_of described =
    read_or (Some None) (λ value. option_map (λ l. Some l) (link_in value)) (get_member (codes "ethernet_link") described)

-- ---- the objects that they make

abbrev pub values_seen : AttributeValues → AttributeSeen
values_seen a = (a.number, (a.settable, (a.checked, (a.kind, a.value))))

-- instance 1 of a class of the standard, with these attributes, no services of its own and none for lists
abbrev pub standard_object : ℕ → List AttributeValues → ObjectSeen
standard_object class attributes = (true, (class, (1, (None, (map values_seen attributes, ([], false))))))

abbrev pub interface_objects : Option InterfaceValues → List ObjectSeen
interface_objects None = []
interface_objects (Some i) = standard_object 0xf5 (interface_attributes i) ∷ []

abbrev pub link_objects : Option LinkValues → List ObjectSeen
link_objects None = []
link_objects (Some l) = standard_object 0xf6 (link_attributes l) ∷ []

-- the own objects in the order of the file, then the TCP/IP Interface, then the Ethernet Link
abbrev pub joined : Option InterfaceValues → Option LinkValues → List ObjectSeen → List ObjectSeen
joined i l own = (own ++ interface_objects i) ++ link_objects l

abbrev pub all_objects_of : Members → Option (List ObjectSeen)
all_objects_of described =
    option_and_then (λ i. option_and_then (λ l. option_map (joined i l) (objects_of described)) (link_of described))
    (interface_of described)

-- ---- what was read

-- the texts of the objects are short
pub record HasShortTexts (i : TcpIpInterface) : Type 0 where
  pub domain : length i.domain.now ≤ 48
  pub host : length i.host.now ≤ 64

abbrev pub HasShortLabel : EthernetLink → Type 0
HasShortLabel l = length l.label.now ≤ 64
