-- What a piece withdraws, before it is fed: what the request of the frame that it completes withdraws.
use Rattle.std.specs.Prelude.{ℕ, if◌then◌else◌, Bool, false, is_some, Option, Some, None, List, [], ◌∷◌, map}
use Rattle.cip_ledger.specs.Device.{Device}
use Rattle.cip_ledger.specs.Runs.{Request}
use Rattle.cip_ledger.specs.Withdrawing.{withdrawn_by, found_by}
use Rattle.enip_wire.specs.declared.reader.FrameView.{FrameView}
use Rattle.enip_wire.specs.Stream.{Parsed, held_and_taken, parsed, frame_of}
use Rattle.enip_wire.specs.Stream.Parsed.{Incomplete, WholeFrame, TooLongHeader}
use Rattle.enip_adapter.specs.declared.peer.PeerSlot.{PeerSlot}
use Rattle.enip_adapter.specs.declared.peer.Session.{Session}
use Rattle.enip_adapter.specs.declared.shared.Shared.{Shared}
use Rattle.enip_adapter.specs.Adapter.{state_in, held_in}
use Rattle.enip_adapter.specs.Calls.{AdapterState, Call, bytes_held}
use Rattle.enip_adapter.specs.Calls.Call.{Writes}
use Rattle.enip_adapter.specs.DeviceRuns.{requests_in_frame}
use Rattle.enip_adapter.specs.OwnWrites.{Withdraws}
use Rattle.enip_adapter.specs.Runs.{after_calls}
use Rattle.enip_adapter.specs.Turn.{session_of}

-- ---- the request that a piece completes

abbrev pub requests_by_parsed : Shared → Session → Parsed → List Request
requests_by_parsed shared session Incomplete = []
requests_by_parsed shared session (WholeFrame f) = requests_in_frame shared session f
requests_by_parsed shared session (TooLongHeader h) = []

-- By what is seen of a piece: the session of its peer, and the whole frame that it completes.
abbrev pub requests_by_seen : Shared → Option (Session × FrameView) → List Request
requests_by_seen shared None = []
requests_by_seen shared (Some seen) = requests_in_frame shared seen.0 (frame_of seen.1)

-- By a piece for the peer with this session, of which these bytes are held.
abbrev pub requests_by_piece : Shared → List ℕ → List ℕ → Option Session → List Request
requests_by_piece shared held piece None = []
requests_by_piece shared held piece (Some session) =
    if session.closed then [] else requests_by_parsed shared session (parsed (held_and_taken held piece))

-- The same at the peer slots.
abbrev pub requests_at : ℕ → ℕ → Shared → List PeerSlot → ℕ → List ℕ → List Request
requests_at limit next_handle shared places peer piece =
    requests_by_piece shared (bytes_held (map held_in places) peer) piece
    (session_of (state_in limit next_handle shared places) peer)

-- The request, if any, that would reach the device if a peer's piece were fed now.
abbrev pub requests_of_piece : AdapterState → ℕ → List ℕ → List Request
requests_of_piece a peer piece =
    requests_by_piece a.state.shared (bytes_held a.held peer) piece (session_of a.state peer)

-- ---- what is withdrawn

-- At most one request of a frame reaches the device.
abbrev pub writes_of : List Request → List Call
writes_of [] = []
writes_of (request ∷ more) = Writes (Withdraws request.1) ∷ []

abbrev pub device_found : Device → List Request → Device
device_found device [] = device
device_found device (request ∷ more) = found_by request.1 device

abbrev pub shared_found : Shared → List Request → Shared
shared_found shared requests = record shared { objects = device_found shared.objects requests }

abbrev pub is_withdrawing : Device → List Request → Bool
is_withdrawing device [] = false
is_withdrawing device (request ∷ more) = is_some (withdrawn_by request.1 device)

-- The adapter as a piece finds it when it is fed: what its request withdraws is withdrawn.
abbrev pub found_by_piece : AdapterState → ℕ → List ℕ → AdapterState
found_by_piece a peer piece = after_calls a (writes_of (requests_of_piece a peer piece))
