-- The TCP/IP Interface and the Ethernet Link, as application objects (Volume 2, TCP/IP Interface object, Ethernet Link
-- object).
use Rattle.std.specs.Prelude.{◌≡◌, ℕ, ◌%◌, Bool, true, false, ◌==◌, if◌then◌else◌, List, [], ◌∷◌, ◌++◌, length, map}
use Rattle.std.specs.Prelude.{Some, None}
use Rattle.byteorder.specs.Endian.{little_bytes, big_number}
use Rattle.cip_application.specs.declared.config.ObjectConfig.{ObjectConfig}
use Rattle.cip_application.specs.declared.kind.AttributeKind.{AttributeKind}
use Rattle.cip_application.specs.declared.kind.AttributeKind.TheVariants.{Fixed, ShortString}
use Rattle.cip_application.specs.declared.number.NumberType.TheVariants.{Uint}
use Rattle.cip_application.specs.declared.standard.EthernetLink.{EthernetLink}
use Rattle.cip_application.specs.declared.standard.TcpIpInterface.{TcpIpInterface}
use Rattle.cip_application.specs.Attributes.{AttributeValues}
use Rattle.cip_application.specs.Configuration.{attribute_of_config}

-- An address as a UDINT: its first byte is the most significant one.
abbrev pub address_bytes : List ℕ → List ℕ
address_bytes address = little_bytes 4 (big_number 4 address)

-- A text has an even length, with a zero at its end if need be.
abbrev pub padding : ℕ → List ℕ
padding size = if size % 2 == 0 then [] else 0 ∷ []

-- A STRING: its length, then the text. The padding is not counted.
abbrev pub string_value : List ℕ → List ℕ
string_value text = little_bytes 2 (length text) ++ (text ++ padding (length text))

-- An attribute that peers only read.
abbrev pub attribute : ℕ → AttributeKind → List ℕ → AttributeValues
attribute number kind value = record {
  number = number;
  kind = kind;
  settable = false;
  checked = false;
  value = value;
  changes = 0;
}

-- The same, of a value whose size never changes.
abbrev pub fixed : ℕ → List ℕ → AttributeValues
fixed number value = attribute number (Fixed (length value) None) value

-- The encapsulation inactivity timeout, in seconds: 0 to 3,600.
abbrev pub timeout : ℕ → AttributeValues
timeout seconds =
    record (attribute 13 (Fixed 2 (Some (record { number = Uint; least = 0; greatest = 3600 }))) (little_bytes 2 seconds)) {
      settable = true;
    }

-- What a configuration says of a TCP/IP Interface, and of an Ethernet Link.
pub record InterfaceValues : Type 0 where
  pub address : List ℕ
  pub mask : List ℕ
  pub gateway : List ℕ
  pub name_server : List ℕ
  pub second_name_server : List ℕ
  pub domain : List ℕ
  pub host : List ℕ
  pub inactivity_timeout : ℕ

pub record LinkValues : Type 0 where
  pub speed : ℕ
  pub flags : ℕ
  pub physical_address : List ℕ
  pub interface_type : ℕ
  pub state : ℕ
  pub label : List ℕ

abbrev pub interface_seen : TcpIpInterface → InterfaceValues
interface_seen i = record {
  address = i.address;
  mask = i.mask;
  gateway = i.gateway;
  name_server = i.name_server;
  second_name_server = i.second_name_server;
  domain = i.domain.now;
  host = i.host.now;
  inactivity_timeout = i.inactivity_timeout;
}

abbrev pub link_seen : EthernetLink → LinkValues
link_seen l = record {
  speed = l.speed;
  flags = l.flags;
  physical_address = l.physical_address;
  interface_type = l.interface_type;
  state = l.state;
  label = l.label.now;
}

-- Address, mask, gateway, name servers, domain.
abbrev pub interface_value : InterfaceValues → List ℕ
interface_value i =
    address_bytes i.address ++ (address_bytes i.mask ++ (address_bytes i.gateway ++ (address_bytes i.name_server
    ++ (address_bytes i.second_name_server ++ string_value i.domain))))

-- Status: the interface configuration is valid and was not set by switches. Nothing of it can be set by a peer, and it
-- is static. The physical link object is instance 1 of the Ethernet Link.
abbrev pub interface_attributes : InterfaceValues → List AttributeValues
interface_attributes i =
    fixed 1 (little_bytes 4 1)
    ∷ fixed 2 (little_bytes 4 0)
    ∷ fixed 3 (little_bytes 4 0)
    ∷ fixed 4 (2 ∷ 0 ∷ 0x20 ∷ 0xf6 ∷ 0x24 ∷ 1 ∷ [])
    ∷ fixed 5 (interface_value i)
    ∷ fixed 6 (string_value i.host)
    ∷ timeout i.inactivity_timeout
    ∷ []

-- Speed, flags, physical address, type, state, label.
abbrev pub link_attributes : LinkValues → List AttributeValues
link_attributes l =
    fixed 1 (little_bytes 4 l.speed)
    ∷ fixed 2 (little_bytes 4 l.flags)
    ∷ fixed 3 l.physical_address
    ∷ fixed 7 (l.interface_type ∷ [])
    ∷ fixed 8 (l.state ∷ [])
    ∷ attribute 10 (ShortString 64) (length l.label ∷ l.label)
    ∷ []

-- The object is instance 1 of this class of the standard, with these attributes, no services of its own and none for
-- lists.
pub record IsStandard (class : ℕ) (attributes : List AttributeValues) (o : ObjectConfig) : Type 0 where
  pub of_class : o.class ≡ class
  pub first : o.instance ≡ 1
  pub standard : o.standard ≡ true
  pub unnamed : o.name ≡ None
  pub with_attributes : map attribute_of_config o.attributes.items ≡ attributes
  pub without_services : o.services.items ≡ []
  pub without_lists : o.lists ≡ false
