-- SendUnitData, 0x0070 (Volume 2, encapsulation commands; Volume 1, transport class 3).
use Rattle.std.specs.Prelude.{ℕ, List, if◌then◌else◌, not, Option, Some, None, Result, Ok, Err}
use Rattle.cip_bytes.specs.declared.protocol.EncapsulationStatus.TheVariants.{Success}
use Rattle.cip_manager.specs.Items.{Reply as HeldReply, ItemTurn, item_turn}
use Rattle.cip_ledger.specs.Device.{Device}
use Rattle.enip_wire.specs.Bodies.{unit_body_bytes, unit_body_of}
use Rattle.enip_wire.specs.Frames.{Frame}
use Rattle.enip_wire.specs.declared.header.Header.{Header}
use Rattle.enip_wire.specs.declared.item_list.CpfFault.{CpfFault}
use Rattle.enip_adapter.specs.declared.peer.Session.{Session}
use Rattle.enip_adapter.specs.declared.shared.Shared.{Shared}
use Rattle.enip_adapter.specs.declared.no_reply_reason.NoReplyReason.TheVariants.{AnotherSession, NotAPacket, NotTaken}
use Rattle.enip_adapter.specs.Rights.{after_for, answer_for}
use Rattle.enip_adapter.specs.Replies.{Reply, NoReply, Sends, Served, leaving, replying, no_reply, reply, is_registered_as}

-- What an item does. The objects, with the ledger before them, are the router behind the connections. What a reader is
-- refused is held and repeated as any reply.
abbrev pub turn_of_item : Shared → Session → ℕ → List ℕ → ItemTurn Device
turn_of_item shared session id item =
    item_turn (after_for session.rights) (answer_for session.rights) shared.manager.connections shared.moment
    session.handle id item shared.objects

-- A SendUnitData with the T->O ID, and the count and reply that the target holds.
abbrev pub unit_reply : Header → HeldReply → List ℕ
unit_reply asked answer = reply asked asked.session Success (unit_body_bytes answer.id answer.bytes)

-- No answer if no connection of the session has the ID, or if the item is dropped (ours).
abbrev pub item_reply : Header → Option HeldReply → Reply
item_reply asked None = NoReply NotTaken
item_reply asked (Some answer) = Sends (unit_reply asked answer)

-- What all peers share after an item.
abbrev pub left_by_item : Shared → ItemTurn Device → Shared
left_by_item shared turn =
    record shared { manager = record shared.manager { connections = turn.connections }; objects = turn.router }

abbrev pub served_item : Shared → Session → Frame → ItemTurn Device → Served
served_item shared session f turn =
    leaving (left_by_item shared turn) (replying session (item_reply f.header turn.reply))

abbrev pub item_of_body : Shared → Session → Frame → Result (ℕ × List ℕ) CpfFault → Served
item_of_body shared session f (Err fault) = leaving shared (no_reply session (NotAPacket fault))
item_of_body shared session f (Ok (id, item)) = served_item shared session f (turn_of_item shared session id item)

-- No answer if the session is not this peer's registered one, or if the data are not a packet (ours).
abbrev pub send_unit_data : Shared → Session → Frame → Served
send_unit_data shared session f =
    if not (is_registered_as session f.header.session) then leaving shared (no_reply session AnotherSession)
    else item_of_body shared session f (unit_body_of f.body)
