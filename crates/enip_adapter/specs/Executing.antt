-- The command of the ledger that a piece would execute, unless it is queued: that of the frame which it completes.
use Rattle.std.specs.Prelude.{ℕ, if◌then◌else◌, Option, Some, None, List, [], ◌∷◌, map}
use Rattle.cip_ledger.specs.declared.doubt.DoubtfulCommand.{DoubtfulCommand}
use Rattle.cip_ledger.specs.Device.{owned_standing}
use Rattle.cip_ledger.specs.Executing.{command_of}
use Rattle.cip_ledger.specs.Runs.{Request}
use Rattle.enip_wire.specs.declared.reader.FrameView.{FrameView}
use Rattle.enip_wire.specs.Frames.{Frame}
use Rattle.enip_wire.specs.Stream.{Parsed, held_and_taken, parsed, frame_of}
use Rattle.enip_wire.specs.Stream.Parsed.{Incomplete, WholeFrame, TooLongHeader}
use Rattle.enip_adapter.specs.declared.peer.PeerSlot.{PeerSlot}
use Rattle.enip_adapter.specs.declared.peer.Session.{Session}
use Rattle.enip_adapter.specs.declared.shared.Shared.{Shared}
use Rattle.enip_adapter.specs.Adapter.{state_in, held_in}
use Rattle.enip_adapter.specs.Calls.{AdapterState, bytes_held}
use Rattle.enip_adapter.specs.DeviceRuns.{requests_in_frame}
use Rattle.enip_adapter.specs.Turn.{session_of}

-- At most one request of a frame reaches the device.
abbrev pub executing_requests : Shared → List Request → Option DoubtfulCommand
executing_requests shared [] = None
executing_requests shared (request ∷ more) =
    command_of owned_standing shared.objects.ledger shared.objects.router request

abbrev pub executing_frame : Shared → Session → Frame → Option DoubtfulCommand
executing_frame shared session f = executing_requests shared (requests_in_frame shared session f)

abbrev pub executing_parsed : Shared → Session → Parsed → Option DoubtfulCommand
executing_parsed shared session Incomplete = None
executing_parsed shared session (WholeFrame f) = executing_frame shared session f
executing_parsed shared session (TooLongHeader h) = None

-- By what is seen of a piece: the session of its peer, and the whole frame that it completes.
abbrev pub executing_seen : Shared → Option (Session × FrameView) → Option DoubtfulCommand
executing_seen shared None = None
executing_seen shared (Some seen) = executing_frame shared seen.0 (frame_of seen.1)

-- By a piece for the peer with this session, of which these bytes are held.
abbrev pub executing_piece : Shared → List ℕ → List ℕ → Option Session → Option DoubtfulCommand
executing_piece shared held piece None = None
executing_piece shared held piece (Some session) =
    if session.closed then None else executing_parsed shared session (parsed (held_and_taken held piece))

-- The same at the peer slots.
abbrev pub executing_at : ℕ → ℕ → Shared → List PeerSlot → ℕ → List ℕ → Option DoubtfulCommand
executing_at limit next_handle shared places peer piece =
    executing_piece shared (bytes_held (map held_in places) peer) piece
    (session_of (state_in limit next_handle shared places) peer)

-- The command that the piece of a peer would execute if it were fed now.
abbrev pub executing : AdapterState → ℕ → List ℕ → Option DoubtfulCommand
executing a peer piece =
    executing_piece a.state.shared (bytes_held a.held peer) piece (session_of a.state peer)
