-- A whole frame, by its options, its status and its command (Volume 2, encapsulation commands).
use Rattle.std.specs.Prelude.{◌==◌, not, if◌then◌else◌, true, Option, Some, None}
use Rattle.cip_bytes.specs.Protocol.{command_of}
use Rattle.cip_bytes.specs.declared.protocol.Command.{Command}
use Rattle.cip_bytes.specs.declared.protocol.Command.TheVariants.{Nop, ListServices, ListIdentity, ListInterfaces}
use Rattle.cip_bytes.specs.declared.protocol.Command.TheVariants.{RegisterSession, UnRegisterSession, SendRRData}
use Rattle.cip_bytes.specs.declared.protocol.Command.TheVariants.{SendUnitData}
use Rattle.cip_bytes.specs.declared.protocol.EncapsulationStatus.TheVariants.{UnsupportedCommand, InvalidLength}
use Rattle.enip_wire.specs.Frames.{Frame}
use Rattle.enip_wire.specs.Stream.{Parsed}
use Rattle.enip_wire.specs.Stream.Parsed.{Incomplete, WholeFrame, TooLongHeader}
use Rattle.enip_wire.specs.declared.header.Header.{Header}
use Rattle.enip_adapter.specs.declared.peer.Session.{Session}
use Rattle.enip_adapter.specs.declared.shared.Shared.{Shared}
use Rattle.enip_adapter.specs.declared.no_reply_reason.NoReplyReason.TheVariants as no_reply_reason
use Rattle.enip_adapter.specs.Replies.{Reaction, Served, leaving, no_reply, refused}
use Rattle.enip_adapter.specs.ListServices.{list_services}
use Rattle.enip_adapter.specs.ListIdentity.{list_identity}
use Rattle.enip_adapter.specs.ListInterfaces.{list_interfaces}
use Rattle.enip_adapter.specs.RegisterSession.{register_session}
use Rattle.enip_adapter.specs.UnRegisterSession.{unregister_session}
use Rattle.enip_adapter.specs.SendRRData.{send_rr_data}
use Rattle.enip_adapter.specs.SendUnitData.{send_unit_data}

-- By its command. NOP has no answer. An unknown command is unsupported (ours).
abbrev pub by_command : Shared → Session → Frame → Option Command → Served
by_command shared session f (Some Nop) = leaving shared (no_reply session no_reply_reason.Nop)
by_command shared session f (Some ListServices) = leaving shared (list_services session f)
by_command shared session f (Some ListIdentity) = leaving shared (list_identity shared session f)
by_command shared session f (Some ListInterfaces) = leaving shared (list_interfaces session f)
by_command shared session f (Some RegisterSession) = leaving shared (register_session session f)
by_command shared session f (Some UnRegisterSession) = leaving shared (unregister_session session f)
by_command shared session f (Some SendRRData) = send_rr_data shared session f
by_command shared session f (Some SendUnitData) = send_unit_data shared session f
by_command shared session f None = leaving shared (refused session f.header UnsupportedCommand)

-- What a frame does. A frame with options, or with a status (ours), is discarded.
unfoldable pub command_served : Shared → Session → Frame → Served
command_served shared session f =
    if not (f.header.options == 0) then leaving shared (no_reply session no_reply_reason.Options)
    else if not (f.header.status == 0) then leaving shared (no_reply session no_reply_reason.Status)
    else by_command shared session f (command_of f.header.command)

-- A header whose length is over the limit: invalid length, and the TCP connection is closed.
abbrev pub long_refused : Session → Header → Reaction
long_refused session asked = record (refused session asked InvalidLength) { close = true }

-- What a peer's bytes do.
abbrev pub parsed_served : Shared → Session → Parsed → Served
parsed_served shared session Incomplete = leaving shared (no_reply session no_reply_reason.NoFrame)
parsed_served shared session (WholeFrame f) = command_served shared session f
parsed_served shared session (TooLongHeader h) = leaving shared (long_refused session h)
