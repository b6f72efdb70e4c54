-- How the lists of a device are printed.
use Rattle.std.specs.Prelude.{ℕ, ◌≡◌, ◌&&◌, nat_le, List, [], ◌∷◌, ◌++◌, slice_index, codes, Option, Result, Ok, Err}
use Rattle.std.specs.Prelude.{if◌then◌else◌}
use Rattle.std.specs.Fmt.{decimal}
use Rattle.std.specs.List.{flat_map}
use Rattle.std.specs.Io.KnownBytes.{Appends}
use Rattle.byteorder.specs.Endian.{big_bytes}
use Rattle.hex.specs.Hex.{encode_lower}
use Rattle.enip_wire.specs.Stream.{parsed}
use Rattle.enip_client.specs.Identity.{Identity}
use Rattle.enip_client.specs.Service.{Service}
use Rattle.enip_client.specs.Lists.{Entry, A_service, An_identity, answer_in}
use Rattle.enip_client.specs.Listing.{ListState, IsListed}
use Rattle.enip_client.specs.declared.fault.AskFault.TheVariants as ask
use Rattle.enip_client.specs.declared.fault.ClientFault.{ClientFault}
use Rattle.enip_client.specs.declared.lists.ListCommand.{ListCommand}
use Rattle.enip_client.specs.declared.lists.ListCommand.TheVariants as lists
use Rattle.enip_lines.specs.Lines.{with_newline}
use Rattle.enip_faults.specs.Statuses.{IsOfDevices}
use Rattle.enip_commands.specs.declared.request_failure.RequestFailure.{RequestFailure}
use Rattle.enip_commands.specs.declared.request_failure.RequestFailure.TheVariants.{Hex, Session, Client}
use Rattle.enip_commands.specs.declared.request_failure.RequestFailure.TheVariants.{Shape, Fields, Program}

-- Numbers of two and of four bytes, in hexadecimal.
abbrev pub hex_word : ℕ → List ℕ
hex_word n = codes "0x" ++ encode_lower (big_bytes 2 n)

abbrev pub hex_number : ℕ → List ℕ
hex_number n = codes "0x" ++ encode_lower (big_bytes 4 n)

-- A byte of a name: itself if it is printable ASCII, otherwise `\xHH`.
abbrev pub name_byte : ℕ → List ℕ
name_byte byte =
    if nat_le 32 byte && nat_le byte 126 then byte ∷ [] else codes "\\x" ++ encode_lower (byte ∷ [])

abbrev pub name_text : List ℕ → List ℕ
name_text name = flat_map name_byte name

-- An address and its port.
abbrev pub address_text : List ℕ → ℕ → List ℕ
address_text address port =
    decimal (slice_index address 0) ++ codes "." ++ decimal (slice_index address 1) ++ codes "."
    ++ decimal (slice_index address 2) ++ codes "." ++ decimal (slice_index address 3) ++ codes ":" ++ decimal port

abbrev pub revision_text : ℕ → ℕ → List ℕ
revision_text major minor = decimal major ++ codes "." ++ decimal minor

-- The fields of an identity, one per line.
abbrev pub identity_lines : Identity → List ℕ
identity_lines i =
    (codes "vendor " ++ decimal i.vendor)
    ++ (codes "\ndevice type " ++ decimal i.device_type)
    ++ (codes "\nproduct code " ++ decimal i.product_code)
    ++ (codes "\nrevision " ++ revision_text i.major i.minor)
    ++ (codes "\nstatus " ++ hex_word i.status)
    ++ (codes "\nserial " ++ hex_number i.serial)
    ++ (codes "\nname " ++ name_text i.name)
    ++ (codes "\nstate " ++ decimal i.state)
    ++ (codes "\naddress " ++ address_text i.address i.port)

-- The fields of a service, one per line.
abbrev pub service_lines : Service → List ℕ
service_lines s =
    (codes "version " ++ decimal s.version)
    ++ (codes "\ncapability flags " ++ hex_word s.flags)
    ++ (codes "\nname " ++ name_text s.name)

abbrev pub entry_lines : Entry → List ℕ
entry_lines (A_service service) = service_lines service
entry_lines (An_identity identity) = identity_lines identity

-- A further entry, after an empty line.
abbrev pub further : Entry → List ℕ
further entry = codes "\n" ++ with_newline (entry_lines entry)

-- The entries of a list.
abbrev pub list_text : List Entry → List ℕ
list_text [] = []
list_text (entry ∷ more) = with_newline (entry_lines entry) ++ flat_map further more

-- A device on one line: address, name, vendor, product code, serial number.
abbrev pub device_text : Identity → List ℕ
device_text i =
    address_text i.address i.port
    ++ (codes " " ++ name_text i.name)
    ++ (codes " vendor " ++ decimal i.vendor)
    ++ (codes " product " ++ decimal i.product_code)
    ++ (codes " serial " ++ hex_number i.serial)

abbrev pub device_line : Entry → List ℕ
device_line (A_service service) = []
device_line (An_identity identity) = with_newline (device_text identity)

-- The lines of an answer to ListIdentity. A datagram that is not a whole answer has none.
abbrev pub devices_in : Result (List Entry) ClientFault → List ℕ
devices_in (Ok entries) = flat_map device_line entries
devices_in (Err fault) = []

abbrev pub datagram_text : List ℕ → List ℕ
datagram_text datagram = devices_in (answer_in lists.Identity (parsed datagram))

-- The answer was printed, or it is malformed, or a device or memory failed.
abbrev pub IsListPrinted : ListCommand → ListState → ListState → Option (List ℕ) → Option (List ℕ)
    → Result (Unit {0}) RequestFailure → Type 0
IsListPrinted command old new before after (Ok done) =
    (entries : List Entry) × IsListed command old new (Ok entries) × Appends before after (list_text entries)
IsListPrinted command old new before after (Err Hex) = ⊥
IsListPrinted command old new before after (Err (Session status)) = ⊥
IsListPrinted command old new before after (Err (Client fault)) = IsListed command old new (Err (ask.Client fault))
IsListPrinted command old new before after (Err (Shape value_type fault)) = ⊥
IsListPrinted command old new before after (Err (Fields fault)) = ⊥
IsListPrinted command old new before after (Err (Program fault)) = IsOfDevices fault

-- The same, without what was printed.
abbrev pub IsListAsked : ListCommand → ListState → ListState → Result (Unit {0}) RequestFailure → Type 0
IsListAsked command old new (Ok done) = (entries : List Entry) × IsListed command old new (Ok entries)
IsListAsked command old new (Err Hex) = ⊥
IsListAsked command old new (Err (Session status)) = ⊥
IsListAsked command old new (Err (Client fault)) = IsListed command old new (Err (ask.Client fault))
IsListAsked command old new (Err (Shape value_type fault)) = ⊥
IsListAsked command old new (Err (Fields fault)) = ⊥
IsListAsked command old new (Err (Program fault)) = IsOfDevices fault
