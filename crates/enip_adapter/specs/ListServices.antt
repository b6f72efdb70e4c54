-- ListServices, 0x0004 (Volume 2, encapsulation commands).
use Rattle.std.specs.Prelude.{ℕ, List, [], ◌∷◌, ◌++◌, codes}
use Rattle.cip_bytes.specs.Numbers.{le}
use Rattle.enip_wire.specs.Frames.{Frame}
use Rattle.enip_adapter.specs.declared.peer.Session.{Session}
use Rattle.enip_adapter.specs.Replies.{Reaction, replied}

-- One item of type 0x0100 and 20 bytes: version 1, capability flags with bit 5 (CIP over TCP), and the name of the
-- service followed by two NUL bytes.
abbrev pub services_text : List ℕ
services_text = le 2 1 ++ le 2 0x0100 ++ le 2 20 ++ le 2 1 ++ le 2 0x0020 ++ codes "Communications" ++ 0 ∷ 0 ∷ []

-- Answered with or without a session, and whatever its data.
abbrev pub list_services : Session → Frame → Reaction
list_services session f = replied session f.header services_text
