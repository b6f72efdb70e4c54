-- What the owner of the device is asked over whole frames, in every world reached from an opening.
use Rattle.std.specs.Prelude.{◌≡◌, ◌≤◌, ◌-◌, ℕ, true, if◌then◌else◌, Option, Some, None, List, [], ◌∷◌, ◌++◌, length}
use Rattle.cip_bytes.specs.declared.protocol.TheConstants.{UNCONNECTED_LIMIT}
use Rattle.cip_objects.specs.OwnRequests.{Asked}
use Rattle.enip_adapter.specs.Asks.{asks_by_step, asks_by_steps, asks_of_calls}
use Rattle.enip_adapter.specs.Calls.{Call}
use Rattle.enip_adapter.specs.Calls.Call.{Feeds, Ticks, Writes}
use Rattle.enip_adapter.specs.DeviceRuns.{Requested}
use Rattle.enip_adapter.specs.Runs.{after_calls}
use Rattle.enip_client.specs.Frames.{request_frame}
use Rattle.enip_wire.specs.Frames.{frame}
use Rattle.enip_bench.specs.CountingWorld.{CountingWorld, LAST_MOMENT, counting_step}
use Rattle.enip_bench.specs.Events.{Event, Submit, Resend, Reach, Back, Other, Write, Shut, GiveUp, delivery, is_unconnected_request}
use Rattle.enip_bench.specs.FrameOnce.{objects_in, numbers_of, IsFirstArrival}
use Rattle.enip_bench.specs.NumberedWorld.{request_of}
use Rattle.enip_bench.specs.ObjectsRun.{steps_of_log}
use Rattle.enip_bench.specs.Reached.{IsReached}

-- the calls of the adapter that an event is
abbrev pub calls_of_reach : CountingWorld → Option (List ℕ) → List Call
calls_of_reach world None = []
calls_of_reach world (Some bytes) = Feeds 0 world.peer bytes ∷ []

abbrev pub calls_of_event : CountingWorld → Event → List Call
calls_of_event world (Submit request) = []
calls_of_event world Resend = []
calls_of_event world (Reach position) = calls_of_reach world (delivery world.last_reached world.sent position)
calls_of_event world (Back position) = []
calls_of_event world (Other request) =
    if is_unconnected_request request then Feeds 0 world.second (frame (request_frame world.second 0 request)) ∷ []
    else []
calls_of_event world (Write write) = Writes write ∷ []
calls_of_event world Shut = Ticks LAST_MOMENT ∷ []
calls_of_event world GiveUp = []

-- what the owner is asked by an event, and by these events in order
abbrev pub asks_by_event : CountingWorld → Event → List Asked
asks_by_event world event = asks_of_calls world.adapter (calls_of_event world event)

abbrev pub asks_by_events : CountingWorld → List Event → List Asked
asks_by_events world [] = []
asks_by_events world (event ∷ events) = asks_by_event world event ++ asks_by_events (counting_step world event) events

-- an event changes the adapter as its calls do
abbrev pub calls_in_frames : Type 0
calls_in_frames = (world : CountingWorld) (event : Event) →
    (counting_step world event).adapter ≡ after_calls world.adapter (calls_of_event world event)

-- The owner is asked what the log asks. The log has each request of the connection at most once.
abbrev pub asks_in_frames : Type 0
asks_in_frames = (world : CountingWorld) (by : IsReached world) →
    asks_by_events by.begun by.events
    ≡ asks_by_steps by.objects (steps_of_log by.wants.t_to_o_size (numbers_of by).submits (numbers_of by).log)

-- the first frame of a request that reaches the open adapter asks what the request asks
abbrev pub first_asks_in_frames : Type 0
first_asks_in_frames = (world : CountingWorld) (by : IsReached world) (event : Event) (number : ℕ) →
    IsFirstArrival by event number →
    asks_by_event world event
    ≡ asks_by_step (objects_in world)
    (Requested (by.wants.t_to_o_size - 2, request_of (numbers_of by).submits number))

-- a request of the other session asks each time what it asks
abbrev pub other_asks_in_frames : Type 0
other_asks_in_frames = (world : CountingWorld) → IsReached world → (request : List ℕ) →
    is_unconnected_request request ≡ true →
    asks_by_event world (Other request)
    ≡ asks_by_step (objects_in world) (Requested (UNCONNECTED_LIMIT, request))

-- nothing else asks anything: no repeat does
abbrev pub unasked_in_frames : Type 0
unasked_in_frames = (world : CountingWorld) (by : IsReached world) (event : Event) →
    ((number : ℕ) → IsFirstArrival by event number → ⊥) → ((request : List ℕ) → event ≡ Other request → ⊥) →
    asks_by_event world event ≡ []

-- an event asks at most once
abbrev pub one_ask_in_frames : Type 0
one_ask_in_frames = (world : CountingWorld) → IsReached world → (event : Event) →
    length (asks_by_event world event) ≤ 1
