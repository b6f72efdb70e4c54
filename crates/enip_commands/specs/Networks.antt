-- The physical link and the host name of a device, and the numbers of its Ethernet Link (Volume 2: TCP/IP Interface object,
-- attributes 4 and 6; Ethernet Link object, attributes 2, 7 and 8).
use Rattle.std.specs.Prelude.{ℕ, Bool, ◌+◌, ◌*◌, ◌/◌, ◌%◌, ◌==◌, ◌&&◌, nat_le, if◌then◌else◌, List, [], ◌∷◌, ◌++◌, length, take, drop}
use Rattle.std.specs.Prelude.{codes, false, slice_index, Option, Some, None, Result, Ok, Err}
use Rattle.std.specs.Borrow.{Bor}
use Rattle.std.specs.Fmt.{decimal}
use Rattle.byteorder.specs.Endian.{big_bytes}
use Rattle.hex.specs.Hex.{encode_lower}
use Rattle.serde_json.specs.Data.{Data, string, object, member, no_members}
use Rattle.cip_message.specs.PathReading.{path_of}
use Rattle.cip_message.specs.declared.path.Path.{Path}
use Rattle.cip_message.specs.declared.path.PathFault.{PathFault}
use Rattle.cip_values.specs.declared.element.ElementaryType.TheVariants as elements
use Rattle.cip_values.specs.declared.element.ValueType.{ValueType}
use Rattle.enip_lines.specs.JsonValues.{count}
use Rattle.enip_commands.specs.declared.network.PhysicalLink.{PhysicalLink}

-- ---- the physical link

-- An object: a class and an instance.
pub record Link : Type 0 where
  pub class : ℕ
  pub instance : ℕ

abbrev pub link_in : PhysicalLink → Link
link_in l = record { class = l.class; instance = l.instance }

-- The number in the first two bytes: a size.
abbrev pub size_of : List ℕ → ℕ
size_of b = slice_index b 0 + 256 * slice_index b 1

-- A class and an instance without an attribute and a member.
abbrev pub link_at : ℕ → ℕ → Option ℕ → Option ℕ → Option Link
link_at class instance None None = Some (record { class = class; instance = instance })
link_at class instance None (Some m) = None
link_at class instance (Some a) m = None

abbrev pub link_in_path : Result Path PathFault → Option Link
link_in_path (Err fault) = None
link_in_path (Ok p) = link_at p.class p.instance p.attribute p.member

abbrev pub object_of : List ℕ → Option Link
object_of path = link_in_path (path_of path)

-- The size of a path in words, and the path.
abbrev pub link_of : List ℕ → Option Link
link_of b = if nat_le 2 (length b) && (length b == 2 + 2 * size_of b) then object_of (drop 2 b) else None

-- A class in hexadecimal: two digits, or four.
abbrev pub class_text : ℕ → List ℕ
class_text class =
    if nat_le class 0xff then codes "0x" ++ encode_lower (class ∷ []) else codes "0x" ++ encode_lower (big_bytes 2 class)

abbrev pub link_text : Link → List ℕ
link_text l = codes "class " ++ class_text l.class ++ codes ", instance " ++ decimal l.instance

-- The link as JSON, and the object of a reply: the link, and its data in hexadecimal.
abbrev pub link_fields : Link → Data
link_fields l = object (member (codes "class") (count l.class) (member (codes "instance") (count l.instance) no_members))

abbrev pub link_data : List ℕ → Link → Data
link_data bytes l =
    object (member (codes "data") (string (encode_lower bytes))
    (member (codes "link") (link_fields l)
    (member (codes "status") (count 0) no_members)))

-- ---- the host name

-- The type of a name.
abbrev pub string_type : ValueType
string_type = record { element = elements.String; is_list = false }

-- A STRING of an odd size that is followed by a byte of padding: its characters.
abbrev pub is_padded : List ℕ → Bool
is_padded b = nat_le 2 (length b) && ((size_of b % 2 == 1) && (length b == 3 + size_of b))

abbrev pub padded_name : List ℕ → Option (List ℕ)
padded_name b = if is_padded b then Some (take (size_of b) (drop 2 b)) else None

-- ---- the numbers of an Ethernet Link

-- The first text if a bit is set.
abbrev pub chosen : ℕ → List ℕ → List ℕ → List ℕ
chosen bit set clear = if bit == 1 then set else clear

-- Bits 2 to 4 of the flags: how the speed and the duplex mode were chosen.
abbrev pub negotiation_text : ℕ → List ℕ
negotiation_text n =
    if n == 0 then codes "negotiation in progress"
    else (if n == 1 then codes "negotiation and speed detection failed"
    else (if n == 2 then codes "negotiation failed, speed detected"
    else (if n == 3 then codes "negotiated"
    else (if n == 4 then codes "not negotiated" else codes "reserved negotiation status"))))

-- Bit 0 is an active link, bit 1 full duplex, bit 5 a setting that requires a reset, bit 6 a fault of the hardware.
abbrev pub flags_text : ℕ → List ℕ
flags_text n =
    chosen (n % 2) (codes "link active") (codes "link inactive")
    ++ chosen (n / 2 % 2) (codes ", full duplex, ") (codes ", half duplex, ")
    ++ negotiation_text (n / 4 % 8)
    ++ chosen (n / 32 % 2) (codes ", reset required") []
    ++ chosen (n / 64 % 2) (codes ", hardware fault") []

abbrev pub type_name : ℕ → Option (List ℕ)
type_name n =
    if n == 0 then Some (codes "unknown")
    else (if n == 1 then Some (codes "internal")
    else (if n == 2 then Some (codes "twisted pair")
    else (if n == 3 then Some (codes "optical fiber") else None)))

abbrev pub state_name : ℕ → Option (List ℕ)
state_name n =
    if n == 0 then Some (codes "unknown")
    else (if n == 1 then Some (codes "enabled")
    else (if n == 2 then Some (codes "disabled")
    else (if n == 3 then Some (codes "testing") else None)))

-- The text of a name, if there is one.
abbrev pub text_in : Option (Bor (List ℕ)) → Option (List ℕ)
text_in None = None
text_in (Some text) = Some text.now
