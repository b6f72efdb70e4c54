-- ListInterfaces, 0x0064 (Volume 2, encapsulation commands).
use Rattle.std.specs.Prelude.{ℕ, List}
use Rattle.cip_bytes.specs.Numbers.{le}
use Rattle.enip_wire.specs.Frames.{Frame}
use Rattle.enip_adapter.specs.declared.peer.Session.{Session}
use Rattle.enip_adapter.specs.Replies.{Reaction, replied}

-- No items.
abbrev pub interfaces_text : List ℕ
interfaces_text = le 2 0

-- Answered with or without a session, and whatever its data.
abbrev pub list_interfaces : Session → Frame → Reaction
list_interfaces session f = replied session f.header interfaces_text
