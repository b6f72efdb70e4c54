-- The interface configuration of a device (Volume 2, TCP/IP Interface object, attribute 5), and how it is printed.
use Rattle.std.specs.Prelude.{ℕ, Bool, ◌+◌, ◌*◌, ◌%◌, ◌==◌, ◌&&◌, ◌||◌, nat_le, if◌then◌else◌, List, [], ◌∷◌, ◌++◌, length, take, drop}
use Rattle.std.specs.Prelude.{codes, slice_index, Option, Some, None}
use Rattle.hex.specs.Hex.{encode_lower}
use Rattle.serde_json.specs.Data.{Data, string, object, member, no_members}
use Rattle.enip_lines.specs.JsonValues.{count, latin}
use Rattle.enip_commands.specs.Json.{host_text}
use Rattle.enip_commands.specs.Listing.{name_text}
use Rattle.enip_commands.specs.declared.interface.InterfaceConfiguration.{InterfaceConfiguration}

-- Addresses have their most significant octet first.
pub record Interface : Type 0 where
  pub ip_address : List ℕ
  pub network_mask : List ℕ
  pub gateway_address : List ℕ
  pub name_server : List ℕ
  pub name_server_2 : List ℕ
  pub domain_name : List ℕ

abbrev pub interface_in : InterfaceConfiguration → Interface
interface_in v = record {
  ip_address = v.ip_address;
  network_mask = v.network_mask;
  gateway_address = v.gateway_address;
  name_server = v.name_server;
  name_server_2 = v.name_server_2;
  domain_name = v.domain_name.now;
}

-- An address is a UDINT, so its least significant octet is first on the wire.
abbrev pub host_at : ℕ → List ℕ → List ℕ
host_at place b = slice_index b (place + 3) ∷ slice_index b (place + 2) ∷ slice_index b (place + 1) ∷ slice_index b place ∷ []

-- The domain name is a STRING: its size, and that many characters.
abbrev pub name_size : List ℕ → ℕ
name_size b = slice_index b 20 + 256 * slice_index b 21

abbrev pub interface_fields : List ℕ → Interface
interface_fields b = record {
  ip_address = host_at 0 b;
  network_mask = host_at 4 b;
  gateway_address = host_at 8 b;
  name_server = host_at 12 b;
  name_server_2 = host_at 16 b;
  domain_name = take (name_size b) (drop 22 b);
}

-- A name of an odd size is followed by a byte of padding, which may be missing (ours).
abbrev pub is_whole : List ℕ → Bool
is_whole b = (length b == 22 + name_size b) || (length b == 22 + name_size b + name_size b % 2)

-- The configuration that the bytes spell, if any.
unfoldable pub interface_of : List ℕ → Option Interface
interface_of b = if nat_le 22 (length b) && is_whole b then Some (interface_fields b) else None

-- A line for each field, below the line of the attribute.
abbrev pub interface_text : Interface → List ℕ
interface_text i =
    (codes "\n    ip-address: " ++ host_text i.ip_address)
    ++ (codes "\n    network-mask: " ++ host_text i.network_mask)
    ++ (codes "\n    gateway-address: " ++ host_text i.gateway_address)
    ++ (codes "\n    name-server: " ++ host_text i.name_server)
    ++ (codes "\n    name-server-2: " ++ host_text i.name_server_2)
    ++ (codes "\n    domain-name: " ++ name_text i.domain_name)

-- The fields as JSON.
abbrev pub fields_data : Interface → Data
fields_data i =
    object (member (codes "domain_name") (string (latin i.domain_name))
    (member (codes "gateway_address") (string (host_text i.gateway_address))
    (member (codes "ip_address") (string (host_text i.ip_address))
    (member (codes "name_server") (string (host_text i.name_server))
    (member (codes "name_server_2") (string (host_text i.name_server_2))
    (member (codes "network_mask") (string (host_text i.network_mask)) no_members))))))

-- The object of a reply: the fields, and its data in hexadecimal.
abbrev pub interface_data : List ℕ → Interface → Data
interface_data bytes i =
    object (member (codes "configuration") (fields_data i)
    (member (codes "data") (string (encode_lower bytes))
    (member (codes "status") (count 0) no_members)))
