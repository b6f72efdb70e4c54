-- ListIdentity, 0x0063 (Volume 2, encapsulation commands).
use Rattle.std.specs.Prelude.{ℕ, List, [], ◌∷◌, ◌++◌, length}
use Rattle.std.specs.List.{flat_map}
use Rattle.byteorder.specs.Endian.{big_bytes}
use Rattle.cip_bytes.specs.Numbers.{le}
use Rattle.cip_bytes.specs.declared.protocol.TheConstants.{IDENTITY}
use Rattle.cip_objects.specs.Contents.{Contents, bytes_at}
use Rattle.enip_wire.specs.Frames.{Frame}
use Rattle.enip_adapter.specs.declared.peer.Session.{Session}
use Rattle.enip_adapter.specs.declared.shared.Listen.{Listen}
use Rattle.enip_adapter.specs.declared.shared.Shared.{Shared}
use Rattle.enip_adapter.specs.Replies.{Reaction, replied}

-- A socket address, big-endian: family 2, port, address, eight zeros.
abbrev pub socket_address : Listen → List ℕ
socket_address listen = big_bytes 2 2 ++ big_bytes 2 listen.port ++ listen.address ++ 0 ∷ 0 ∷ 0 ∷ 0 ∷ 0 ∷ 0 ∷ 0 ∷ 0 ∷ []

-- Attributes 1 to 8 of the Identity object: vendor, device type, product code, revision, status, serial number, product
-- name, state.
abbrev pub identity_attributes : List ℕ
identity_attributes = 1 ∷ 2 ∷ 3 ∷ 4 ∷ 5 ∷ 6 ∷ 7 ∷ 8 ∷ []

abbrev pub identity_bytes : Contents → List ℕ
identity_bytes objects = flat_map (bytes_at objects IDENTITY 1) identity_attributes

-- Protocol version 1, the socket address, and the Identity object's attributes.
abbrev pub identity_item : Listen → Contents → List ℕ
identity_item listen objects = le 2 1 ++ (socket_address listen ++ identity_bytes objects)

-- One item of type 0x000c.
abbrev pub text_of_item : List ℕ → List ℕ
text_of_item item = le 2 1 ++ (le 2 0x000c ++ (le 2 (length item) ++ item))

abbrev pub identity_text : Listen → Contents → List ℕ
identity_text listen objects = text_of_item (identity_item listen objects)

-- Answered with or without a session, and whatever its data.
abbrev pub list_identity : Shared → Session → Frame → Reaction
list_identity shared session f = replied session f.header (identity_text shared.listen shared.objects.router.objects)
