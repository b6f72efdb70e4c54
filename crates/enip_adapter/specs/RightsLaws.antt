-- What holds of readers: whatever they send, the device is as if they had sent nothing to it.
use Rattle.std.specs.Prelude.{◌≡◌, ℕ, false, Option, Some, None, List, [], ◌∷◌, ◌++◌}
use Rattle.cip_ledger.specs.Device.{Device, exec_device}
use Rattle.enip_adapter.specs.declared.peer.Rights.{Rights}
use Rattle.enip_adapter.specs.declared.peer.Rights.TheVariants.{Read, Write}
use Rattle.enip_adapter.specs.declared.peer.Session.{Session}
use Rattle.enip_adapter.specs.Asks.{asks_by_step, asks_by_steps, asks_of_calls}
use Rattle.enip_adapter.specs.Calls.{AdapterState, Call}
use Rattle.enip_adapter.specs.DeviceRuns.{DeviceStep, Requested, device_after, steps_by_event}
use Rattle.enip_adapter.specs.Rights.{is_change}
use Rattle.enip_adapter.specs.Runs.{after_calls, events_of_calls}
use Rattle.enip_adapter.specs.Turn.{State, Event, turn, session_of}
use Rattle.enip_adapter.specs.Turn.Event.{Framed}

-- ---- one request

-- A request that is not a change leaves the device as it was: its objects, its ledger, and what is prepared.
abbrev pub unchanged_law : Type 0
unchanged_law = (device : Device) (max_size : ℕ) (request : List ℕ) → is_change request ≡ false →
    (exec_device device max_size request).after ≡ device

-- It asks the owner nothing.
abbrev pub unasked_by_reading_law : Type 0
unasked_by_reading_law = (device : Device) (max_size : ℕ) (request : List ℕ) → is_change request ≡ false →
    asks_by_step device (Requested (max_size, request)) ≡ []

-- ---- lists of calls

-- The steps of a frame, if its peer is a writer.
abbrev pub steps_by_rights : Rights → List DeviceStep → List DeviceStep
steps_by_rights Write steps = steps
steps_by_rights Read steps = []

abbrev pub writer_steps_by_session : Option Session → List DeviceStep → List DeviceStep
writer_steps_by_session None steps = []
writer_steps_by_session (Some session) steps = steps_by_rights session.rights steps

abbrev pub writer_steps_by_event : State → Event → List DeviceStep
writer_steps_by_event s (Framed peer f) = writer_steps_by_session (session_of s peer) (steps_by_event s (Framed peer f))
writer_steps_by_event s event = steps_by_event s event

-- The requests in the frames of writers that reach the device, and its own writes, in order.
abbrev pub writer_steps : State → List Event → List DeviceStep
writer_steps s [] = []
writer_steps s (event ∷ events) = writer_steps_by_event s event ++ writer_steps (turn s event).state events

abbrev pub writer_steps_of_calls : AdapterState → List Call → List DeviceStep
writer_steps_of_calls a calls = writer_steps a.state (events_of_calls a calls)

-- After any calls of any peers, the objects and the ledger are those after these steps alone: no frame of a reader is
-- among them.
abbrev pub readers_law : Type 0
readers_law = (a : AdapterState) (calls : List Call) →
    (after_calls a calls).state.shared.objects ≡ device_after a.state.shared.objects (writer_steps_of_calls a calls)

-- The owner of the device is asked what these steps ask, and nothing else.
abbrev pub readers_ask_nothing_law : Type 0
readers_ask_nothing_law = (a : AdapterState) (calls : List Call) →
    asks_of_calls a calls ≡ asks_by_steps a.state.shared.objects (writer_steps_of_calls a calls)
