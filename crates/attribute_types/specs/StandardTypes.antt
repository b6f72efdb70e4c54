-- The types of the attributes of the Message Router (Volume 1, Message Router object), the TCP/IP Interface and the
-- Ethernet Link (Volume 2, TCP/IP Interface object, Ethernet Link object).
use Rattle.std.specs.Prelude.{ℕ, ◌==◌, ◌&&◌, nat_le, if◌then◌else◌}
use Rattle.cip_values.specs.declared.element.ElementaryType.TheVariants as elements
use Rattle.attribute_types.specs.declared.attribute_type.AttributeType.{AttributeType}
use Rattle.attribute_types.specs.declared.attribute_type.AttributeType.TheVariants.{One, Array, ShortString, Bytes}

-- greatest number of connections, open connections
abbrev pub type_of_router : ℕ → ℕ → AttributeType
type_of_router attribute size =
    if attribute == 2 then One elements.Uint
    else if attribute == 3 then One elements.Uint
    else Bytes size

-- status, configuration capability, configuration control; encapsulation inactivity timeout
abbrev pub type_of_interface : ℕ → ℕ → AttributeType
type_of_interface attribute size =
    if nat_le 1 attribute && nat_le attribute 3 then One elements.Dword
    else if attribute == 13 then One elements.Uint
    else Bytes size

-- speed, flags, physical address; interface type and state; label
abbrev pub type_of_link : ℕ → ℕ → AttributeType
type_of_link attribute size =
    if attribute == 1 then One elements.Udint
    else if attribute == 2 then One elements.Dword
    else if attribute == 3 then Array elements.Usint 6
    else if attribute == 7 then One elements.Usint
    else if attribute == 8 then One elements.Usint
    else if attribute == 10 then ShortString 64
    else Bytes size

-- an attribute of several parts, or whose text is padded, has the bytes of its value
abbrev pub type_of_standard : ℕ → ℕ → ℕ → AttributeType
type_of_standard class attribute size =
    if class == 2 then type_of_router attribute size
    else if class == 0xf5 then type_of_interface attribute size
    else if class == 0xf6 then type_of_link attribute size
    else Bytes size
