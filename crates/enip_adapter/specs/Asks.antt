-- What the owner of the device is asked: of each of its own requests that reaches the objects, what `asks` says.
use Rattle.std.specs.Prelude.{ℕ, if◌then◌else◌, Option, Some, None, List, [], ◌∷◌, ◌++◌, map}
use Rattle.std.specs.Borrow.{Bor}
use Rattle.std.specs.List.{flat_map}
use Rattle.cip_ledger.specs.Device.{Device}
use Rattle.cip_ledger.specs.Reaching.{listed}
use Rattle.cip_ledger.specs.Runs.{Request}
use Rattle.cip_objects.specs.Contents.{Contents}
use Rattle.cip_objects.specs.OwnRequests.{Asked}
use Rattle.cip_owner.specs.Owned.{asks}
use Rattle.cip_owner.specs.Replies.{Reply}
use Rattle.enip_wire.specs.declared.reader.FrameView.{FrameView}
use Rattle.enip_wire.specs.Stream.{Parsed, held_and_taken, parsed, frame_of}
use Rattle.enip_wire.specs.Stream.Parsed.{Incomplete, WholeFrame, TooLongHeader}
use Rattle.enip_adapter.specs.declared.asked_head.AskedHead.{AskedHead}
use Rattle.enip_adapter.specs.declared.peer.PeerSlot.{PeerSlot}
use Rattle.enip_adapter.specs.declared.peer.Session.{Session}
use Rattle.enip_adapter.specs.declared.shared.Shared.{Shared}
use Rattle.enip_adapter.specs.Adapter.{state_in, held_in}
use Rattle.enip_adapter.specs.Calls.{AdapterState, Call, after_call, bytes_held}
use Rattle.enip_adapter.specs.Calls.Call.{Feeds, Writes}
use Rattle.enip_adapter.specs.DeviceRuns.{DeviceStep, Requested, WrittenBy, device_after_step, reached_by_step}
use Rattle.enip_adapter.specs.DeviceRuns.{steps_of_calls, requests_in_frame}
use Rattle.enip_adapter.specs.OwnWrites.{Prepares}
use Rattle.enip_adapter.specs.Runs.{after_calls}
use Rattle.enip_adapter.specs.Turn.{session_of}

-- ---- what is asked

-- By what reaches the objects: a request with the limit on its reply, or a write, which asks nothing.
abbrev pub asks_by_reached : Contents → DeviceStep → List Asked
asks_by_reached objects (Requested request) = listed (asks objects request.0 request.1)
asks_by_reached objects (WrittenBy write) = []

-- By a step of the device. At most one request of a step reaches the objects.
abbrev pub asks_by_step : Device → DeviceStep → List Asked
asks_by_step device step = flat_map (asks_by_reached device.router.objects) (reached_by_step device step)

-- By steps, one after the other.
abbrev pub asks_by_steps : Device → List DeviceStep → List Asked
asks_by_steps device [] = []
asks_by_steps device (step ∷ steps) = asks_by_step device step ++ asks_by_steps (device_after_step device step) steps

-- By calls of the adapter, and by one.
abbrev pub asks_of_calls : AdapterState → List Call → List Asked
asks_of_calls a calls = asks_by_steps a.state.shared.objects (steps_of_calls a calls)

abbrev pub asks_of_call : AdapterState → Call → List Asked
asks_of_call a call = asks_of_calls a (call ∷ [])

-- ---- what a piece asks, by the frame that it completes

-- A request that is lent, and the limit on its reply.
abbrev pub request_lent : Bor (List ℕ) × ℕ → Request
request_lent lent = (lent.1, lent.0.now)

abbrev pub asks_by_requests : Device → List Request → List Asked
asks_by_requests device requests = asks_by_steps device (map Requested requests)

abbrev pub asks_by_parsed : Shared → Session → Parsed → List Asked
asks_by_parsed shared session Incomplete = []
asks_by_parsed shared session (WholeFrame f) = asks_by_requests shared.objects (requests_in_frame shared session f)
asks_by_parsed shared session (TooLongHeader h) = []

-- What is asked by a request whose data were copied.
abbrev pub asked_with : List ℕ → AskedHead → Asked
asked_with content head = record {
  class = head.class;
  instance = head.instance;
  service = head.service;
  attribute = head.attribute;
  content = content;
  reply_limit = head.reply_limit;
  kind = head.kind;
}

-- By what is seen of a piece: the session of its peer, and the whole frame that it completes.
abbrev pub asks_by_seen : Shared → Option (Session × FrameView) → List Asked
asks_by_seen shared None = []
asks_by_seen shared (Some seen) = asks_by_requests shared.objects (requests_in_frame shared seen.0 (frame_of seen.1))

-- By a piece for the peer with this session, of which these bytes are held.
abbrev pub asks_by_piece : Shared → List ℕ → List ℕ → Option Session → List Asked
asks_by_piece shared held piece None = []
asks_by_piece shared held piece (Some session) =
    if session.closed then [] else asks_by_parsed shared session (parsed (held_and_taken held piece))

-- The same at the peer slots.
abbrev pub asks_at : ℕ → ℕ → Shared → List PeerSlot → ℕ → List ℕ → List Asked
asks_at limit next_handle shared places peer piece =
    asks_by_piece shared (bytes_held (map held_in places) peer) piece
    (session_of (state_in limit next_handle shared places) peer)

-- ---- a feed with a reply of the owner

-- The reply is prepared for this feed alone.
abbrev pub prepared_feed : ℕ → ℕ → List ℕ → Option Reply → List Call
prepared_feed now peer piece reply =
    Writes (Prepares reply) ∷ Feeds now peer piece ∷ Writes (Prepares None) ∷ []

-- The adapter at which a feed takes place whose reply is prepared.
abbrev pub with_reply : AdapterState → Option Reply → AdapterState
with_reply a reply = after_call a (Writes (Prepares reply))

-- The owner of a device, as two functions: what it answers, and the owner afterwards.
module _ {O : Type 0} (answer : O → Asked → Option Reply) (after : O → Asked → O) where
  -- A feed that asks the owner: nothing else, if nothing is asked.
  abbrev pub calls_asking : O → ℕ → ℕ → List ℕ → List Asked → List Call
  calls_asking owner now peer piece [] = Feeds now peer piece ∷ []
  calls_asking owner now peer piece (asked ∷ more) = prepared_feed now peer piece (answer owner asked)

  -- The adapter at which the piece is fed.
  abbrev pub asked_adapter : AdapterState → O → List Asked → AdapterState
  asked_adapter a owner [] = a
  asked_adapter a owner (asked ∷ more) = with_reply a (answer owner asked)

  -- The owner after what it was asked.
  abbrev pub owner_after : O → List Asked → O
  owner_after owner [] = owner
  owner_after owner (asked ∷ more) = owner_after (after owner asked) more

  -- The adapter after a feed that asks the owner.
  abbrev pub after_asking : AdapterState → O → ℕ → ℕ → List ℕ → AdapterState
  after_asking a owner now peer piece =
      after_calls a (calls_asking owner now peer piece (asks_of_call a (Feeds now peer piece)))

  abbrev pub asking_adapter : AdapterState → O → ℕ → ℕ → List ℕ → AdapterState
  asking_adapter a owner now peer piece = asked_adapter a owner (asks_of_call a (Feeds now peer piece))
