-- What a conformance test looks for in a configuration, a line for each part, and what is missing.
use Rattle.std.specs.Prelude.{ℕ, ◌==◌, ◌%◌, ◌/◌, ◌&&◌, ◌||◌, nat_le, Bool, if◌then◌else◌, List, [], ◌∷◌, ◌++◌, length, codes, decimal, Option, Some, None}
use Rattle.std.specs.List.{flat_map, list_any}
use Rattle.std.specs.String.{string_bytes}
use Rattle.std.specs.declared.alloc.Global.{Global}
use Rattle.std.specs.Prelude.{String}
use Rattle.cip_application.specs.declared.config.ObjectConfig.{ObjectConfig}
use Rattle.cip_objects.specs.declared.config.AssemblyConfig.{AssemblyConfig}
use Rattle.cip_objects.specs.declared.config.Config.{Config}
use Rattle.enip_eds.specs.declared.profile.KindLine.{KindLine}
use Rattle.enip_eds.specs.declared.profile.KindLine.TheVariants as kinds
use Rattle.enip_eds.specs.declared.profile.StateLine.{StateLine}
use Rattle.enip_eds.specs.declared.profile.StateLine.TheVariants as states
use Rattle.enip_eds.specs.DeviceTypes.{type_name_of}
use Rattle.enip_eds.specs.Texts.{joined}

-- ---- the Identity object

-- Attribute 1. No vendor has the number 0.
abbrev pub vendor_line : ℕ → List ℕ
vendor_line vendor =
    if vendor == 0 then codes "Identity object, attribute 1: missing: no vendor has the ID 0\n"
    else joined (codes "Identity object, attribute 1: vendor ID " ∷ decimal vendor ∷ codes " (note: only ODVA assigns vendor IDs)\n" ∷ [])

-- The device types that vendors give meanings: 0x64 to 0xc7, and 0x300 to 0x4ff.
abbrev pub is_vendor_specific : ℕ → Bool
is_vendor_specific number = (nat_le 100 number && nat_le number 199) || (nat_le 768 number && nat_le number 1279)

abbrev pub unnamed_type_line : ℕ → List ℕ
unnamed_type_line device_type =
    if is_vendor_specific device_type
    then joined (codes "Identity object, attribute 2: device type " ∷ decimal device_type ∷ codes " (vendor specific)\n" ∷ [])
    else joined (codes "Identity object, attribute 2: missing: no profile has the device type " ∷ decimal device_type ∷ codes "\n" ∷ [])

abbrev pub type_line : Option (List ℕ) → ℕ → List ℕ
type_line None device_type = unnamed_type_line device_type
type_line (Some name) device_type =
    joined (codes "Identity object, attribute 2: device type " ∷ decimal device_type ∷ codes " (" ∷ name ∷ codes ")\n" ∷ [])

-- Attribute 3.
abbrev pub product_line : ℕ → List ℕ
product_line code =
    if code == 0 then codes "Identity object, attribute 3: missing: no product has the code 0\n"
    else joined (codes "Identity object, attribute 3: product code " ∷ decimal code ∷ codes "\n" ∷ [])

-- Attribute 4. Neither part of a revision is 0.
abbrev pub revision_line : ℕ → ℕ → List ℕ
revision_line major minor =
    if (major == 0) || (minor == 0)
    then joined (codes "Identity object, attribute 4: missing: revision " ∷ decimal major ∷ codes "." ∷ decimal minor ∷ codes " has a part that is 0\n" ∷ [])
    else joined (codes "Identity object, attribute 4: revision " ∷ decimal major ∷ codes "." ∷ decimal minor ∷ codes "\n" ∷ [])

-- The bits of the status that the standard reserves: 1, 3, and 12 to 15.
abbrev pub has_reserved_bits : ℕ → Bool
has_reserved_bits status = (status / 2 % 2 == 1) || (status / 8 % 2 == 1) || nat_le 4096 status

-- Attribute 5.
abbrev pub status_line : ℕ → List ℕ
status_line status =
    if has_reserved_bits status then codes "Identity object, attribute 5: missing: the status has a reserved bit\n"
    else codes "Identity object, attribute 5: status is present\n"

-- Attribute 6.
abbrev pub serial_line : ℕ → List ℕ
serial_line serial =
    if serial == 0 then codes "Identity object, attribute 6: missing: the serial number is 0\n"
    else codes "Identity object, attribute 6: serial number is present\n"

-- Attribute 7. A quote or a backslash is printable, and a tool may still not show it.
abbrev pub name_line : List ℕ → List ℕ
name_line [] = codes "Identity object, attribute 7: missing: the product name is empty\n"
name_line (byte ∷ bytes) = codes "Identity object, attribute 7: product name is present\n"

-- Attribute 8: 0 to 5, or 255.
abbrev pub state_line : ℕ → List ℕ
state_line state =
    if nat_le state 5 || (state == 255) then codes "Identity object, attribute 8: state is present\n"
    else joined (codes "Identity object, attribute 8: missing: the state " ∷ decimal state ∷ codes " is reserved\n" ∷ [])

-- The Identity object. The name is that of the device type.
abbrev pub identity_lines : Option (List ℕ) → Config → List ℕ
identity_lines name c =
    vendor_line c.vendor ++ (type_line name c.device_type ++ (product_line c.product_code
    ++ (revision_line c.major c.minor ++ (status_line c.status ++ (serial_line c.serial ++ (name_line (string_bytes c.name) ++ state_line c.state))))))

-- ---- for private clauses: the lines of the Identity object

abbrev pub kind_line : KindLine → List ℕ
kind_line (kinds.Vendor vendor) = vendor_line vendor
kind_line (kinds.Product code) = product_line code
kind_line (kinds.Revision major minor) = revision_line major minor

abbrev pub state_lines : StateLine → List ℕ
state_lines (states.Status status) = status_line status
state_lines (states.Serial serial) = serial_line serial
state_lines (states.Name name) = name_line name.now
state_lines (states.State state) = state_line state

-- ---- the other objects

-- Reset, if clients can reset the device.
abbrev pub reset_line : Bool → List ℕ
reset_line allowed =
    if allowed then codes "Identity object, service 0x05: Reset of type 0 and 1\n"
    else codes "Identity object, service 0x05: missing: Reset is required of every device\n"

abbrev pub router_line : Bool → List ℕ
router_line present =
    if present then codes "Message Router object (0x02): instance 1\n"
    else codes "Message Router object (0x02): no attributes (all are optional)\n"

-- What comes before the assemblies.
abbrev pub before_assemblies : Bool → Bool → List ℕ
before_assemblies reset has_router = reset_line reset ++ router_line has_router

-- Instances 1 to 99 are those of device profiles.
abbrev pub assembly_line : AssemblyConfig → List ℕ
assembly_line a =
    if nat_le a.instance 99
    then joined (codes "Assembly object (0x04), instance " ∷ decimal a.instance ∷ codes ": " ∷ decimal (length a.members.items)
    ∷ codes " members (note: instances 1 to 99 are those of device profiles)\n" ∷ [])
    else joined (codes "Assembly object (0x04), instance " ∷ decimal a.instance ∷ codes ": " ∷ decimal (length a.members.items) ∷ codes " members\n" ∷ [])

abbrev pub assembly_lines : List AssemblyConfig → List ℕ
assembly_lines [] = codes "Assembly object (0x04): no instance\n"
assembly_lines (a ∷ others) = flat_map assembly_line (a ∷ others)

abbrev pub name_note : Option (String Global) → List ℕ
name_note None = codes " (note: without a name, a tool shows its numbers)\n"
name_note (Some name) = codes "\n"

-- An own object. The classes of vendors are 0x64 to 0xc7, and 0x300 to 0x4ff. The objects of the standard have lines
-- of their own.
abbrev pub object_line : ObjectConfig → List ℕ
object_line o =
    if o.standard then []
    else if is_vendor_specific o.class
    then joined (codes "object of class " ∷ decimal o.class ∷ codes ", instance " ∷ decimal o.instance ∷ codes ": " ∷ decimal (length o.attributes.items)
    ∷ codes " attributes" ∷ name_note o.name ∷ [])
    else joined (codes "object of class " ∷ decimal o.class ∷ codes ", instance " ∷ decimal o.instance
    ∷ codes ": missing: the class is not one of those that vendors may use\n" ∷ [])

-- The TCP/IP Interface and the Ethernet Link are those of the configuration, if it has them.
abbrev pub interface_line : Bool → List ℕ
interface_line present =
    if present then codes "TCP/IP Interface object (0xF5): instance 1\n"
    else codes "TCP/IP Interface object (0xF5): missing: required of every EtherNet/IP device\n"

abbrev pub link_line : Bool → List ℕ
link_line present =
    if present then codes "Ethernet Link object (0xF6): instance 1\n"
    else codes "Ethernet Link object (0xF6): missing: required of every EtherNet/IP device\n"

abbrev pub has_class : ℕ → List ObjectConfig → Bool
has_class class objects = list_any (λ o. o.class == class) objects

-- What comes after the own objects.
abbrev pub network_lines : Bool → Bool → List ℕ
network_lines has_interface has_link =
    codes "Connection Manager object (0x06): class 3 connections, no I/O connections\n"
    ++ (interface_line has_interface ++ link_line has_link)

-- The whole text. The flag says whether clients can reset the device.
abbrev pub profile : Config → Bool → List ℕ
profile c reset =
    identity_lines (type_name_of c.device_type) c ++ (before_assemblies reset (has_class 2 c.objects.items) ++ (assembly_lines c.assemblies.items ++ (flat_map object_line c.objects.items ++ network_lines (has_class 0xf5 c.objects.items) (has_class 0xf6 c.objects.items))))
