-- Discovery over UDP: the answer to a datagram (Volume 2, encapsulation over UDP).
use Rattle.std.specs.Prelude.{ℕ, List, ◌==◌, ◌&&◌, if◌then◌else◌, Bool, true, false, Option, Some, None}
use Rattle.cip_bytes.specs.Protocol.{command_of}
use Rattle.cip_bytes.specs.declared.protocol.Command.{Command}
use Rattle.cip_bytes.specs.declared.protocol.Command.TheVariants.{ListServices, ListIdentity, ListInterfaces}
use Rattle.enip_wire.specs.Frames.{Frame}
use Rattle.enip_wire.specs.Stream.{Parsed, parsed}
use Rattle.enip_wire.specs.Stream.Parsed.{WholeFrame}
use Rattle.enip_adapter.specs.declared.peer.Rights.TheVariants.{Read}
use Rattle.enip_adapter.specs.declared.shared.Shared.{Shared}
use Rattle.enip_adapter.specs.Commands.{command_served}
use Rattle.enip_adapter.specs.Replies.{Reply}
use Rattle.enip_adapter.specs.Replies.Reply.{NoReply, Sends}
use Rattle.enip_adapter.specs.Turn.{new_session}

-- The commands that are answered in a datagram (ours): those that ask who the device is.
abbrev pub is_discovery : Option Command → Bool
is_discovery (Some ListServices) = true
is_discovery (Some ListIdentity) = true
is_discovery (Some ListInterfaces) = true
is_discovery other = false

-- The bytes that are sent back, if any.
abbrev pub bytes_of : Reply → Option (List ℕ)
bytes_of (NoReply why) = None
bytes_of (Sends bytes) = Some bytes

-- A frame with such a command is answered as over TCP to a reader that has just begun, whatever its handle. A frame with
-- data is not a request: an answer has data, so two devices never answer each other (ours).
abbrev pub frame_discovered : Shared → Frame → Option (List ℕ)
frame_discovered shared f =
    if is_discovery (command_of f.header.command) && (f.header.length == 0)
    then bytes_of (command_served shared (new_session 0 Read None) f).reaction.answer
    else None

-- Bytes that are not exactly one whole frame have no answer.
abbrev pub parsed_discovered : Shared → Parsed → Option (List ℕ)
parsed_discovered shared (WholeFrame f) = frame_discovered shared f
parsed_discovered shared other = None

-- The answer to a datagram, which is one frame from its first byte to its last.
abbrev pub discovered : Shared → List ℕ → Option (List ℕ)
discovered shared datagram = parsed_discovered shared (parsed datagram)
