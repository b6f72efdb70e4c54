-- The requests that reach the device, its objects and its ledger, and the laws of its runs. What a reader is refused does
-- not reach it.
use Rattle.std.specs.Prelude.{◌≡◌, ⊤, ℕ, ◌==◌, nat_lt, not, if◌then◌else◌, find, map, length, Option, Some, None, List, [], ◌∷◌, ◌++◌, Result, Ok, Err}
use Rattle.std.specs.List.{AllByRecursion}
use Rattle.cip_bytes.specs.Protocol.{command_of}
use Rattle.cip_bytes.specs.declared.protocol.Command.{Command}
use Rattle.cip_bytes.specs.declared.protocol.Command.TheVariants.{SendRRData, SendUnitData}
use Rattle.cip_bytes.specs.declared.protocol.TheConstants.{UNCONNECTED_LIMIT}
use Rattle.cip_class3.specs.Item.{sequence_count_of, message_of}
use Rattle.cip_class3.specs.TargetRule.{TargetState, has_accepted_size, is_held, max_reply_size}
use Rattle.cip_ledger.specs.Device.{Device, owned_standing, exec_device, run}
use Rattle.cip_ledger.specs.Laws.{HasNoDoubles, Rises}
use Rattle.cip_ledger.specs.Runs.{Request, journal, reached}
use Rattle.cip_ledger.specs.Runs.{Event as LedgerEvent}
use Rattle.cip_ledger.specs.Withdrawing.{withdrawal_result}
use Rattle.cip_manager.specs.declared.connection.Connection.{Connection}
use Rattle.cip_manager.specs.Connection.{is_named}
use Rattle.cip_owner.specs.Owned.{OwnedState, exec_owned}
use Rattle.enip_wire.specs.Bodies.{rr_body_of, unit_body_of}
use Rattle.enip_wire.specs.Frames.{Frame}
use Rattle.enip_wire.specs.declared.item_list.CpfFault.{CpfFault}
use Rattle.enip_adapter.specs.declared.peer.Rights.{Rights}
use Rattle.enip_adapter.specs.declared.peer.Session.{Session}
use Rattle.enip_adapter.specs.declared.shared.Shared.{Shared}
use Rattle.enip_adapter.specs.Calls.{AdapterState, Call}
use Rattle.enip_adapter.specs.Calls.Call.{Writes}
use Rattle.enip_adapter.specs.OwnWrites.{OwnWrite, Finishes, Withdraws, objects_written, device_written, ticket_withdrawn}
use Rattle.enip_adapter.specs.Replies.{is_registered_as}
use Rattle.enip_adapter.specs.Rights.{is_refused}
use Rattle.enip_adapter.specs.Runs.{after_calls, events_of_calls}
use Rattle.enip_adapter.specs.SendRRData.{Route, Opens, Closes, Executes, route_of}
use Rattle.enip_adapter.specs.Turn.{State, Event, turn, session_of}
use Rattle.enip_adapter.specs.Turn.Event.{Begin, End, At, Framed, Long, Written}

-- ---- the requests

-- A request of a peer with these rights, unless it is refused.
abbrev pub requests_by_rights : Rights → ℕ → List ℕ → List Request
requests_by_rights rights max_size request =
    if is_refused rights request then [] else (max_size, request) ∷ []

-- An unconnected request that is not the Connection Manager's.
abbrev pub requests_by_route : Rights → List ℕ → Route → List Request
requests_by_route rights request (Opens layout bytes) = []
requests_by_route rights request (Closes bytes) = []
requests_by_route rights request Executes = requests_by_rights rights UNCONNECTED_LIMIT request

abbrev pub requests_in_rr : Rights → Result (List ℕ) CpfFault → List Request
requests_in_rr rights (Err fault) = []
requests_in_rr rights (Ok request) =
    if nat_lt (length request) 2 then [] else requests_by_route rights request (route_of request)

-- An item's request, if the target accepts the item and its count is not held.
abbrev pub requests_by_target : Rights → TargetState → List ℕ → List Request
requests_by_target rights target item =
    if has_accepted_size target item then
    (if is_held target.held (sequence_count_of item) then []
    else requests_by_rights rights (max_reply_size target) (message_of item))
    else []

abbrev pub requests_by_connection : Rights → List ℕ → Option Connection → List Request
requests_by_connection rights item None = []
requests_by_connection rights item (Some connection) = requests_by_target rights connection.target item

abbrev pub requests_in_unit : Shared → Session → Result (ℕ × List ℕ) CpfFault → List Request
requests_in_unit shared session (Err fault) = []
requests_in_unit shared session (Ok (id, item)) =
    requests_by_connection session.rights item (find (is_named session.handle id) shared.manager.connections)

abbrev pub requests_by_command : Shared → Session → Frame → Option Command → List Request
requests_by_command shared session f (Some SendRRData) =
    if not (is_registered_as session f.header.session) then [] else requests_in_rr session.rights (rr_body_of f.body)
requests_by_command shared session f (Some SendUnitData) =
    if not (is_registered_as session f.header.session) then []
    else requests_in_unit shared session (unit_body_of f.body)
requests_by_command shared session f other = []

abbrev pub requests_in_frame : Shared → Session → Frame → List Request
requests_in_frame shared session f =
    if not (f.header.options == 0) then []
    else if not (f.header.status == 0) then []
    else requests_by_command shared session f (command_of f.header.command)

-- A frame of a peer that is held and not closed.
abbrev pub requests_by_session : Shared → Frame → Option Session → List Request
requests_by_session shared f None = []
requests_by_session shared f (Some session) = if session.closed then [] else requests_in_frame shared session f

abbrev pub requests_by_event : State → Event → List Request
requests_by_event s (Begin rights group) = []
requests_by_event s (End peer) = []
requests_by_event s (At now) = []
requests_by_event s (Framed peer f) = requests_by_session s.shared f (session_of s peer)
requests_by_event s (Long peer header) = []
requests_by_event s (Written write) = []

-- The requests that reach the device, each with the limit on its reply: at most one of each frame, in order.
abbrev pub device_requests : State → List Event → List Request
device_requests s [] = []
device_requests s (event ∷ events) = requests_by_event s event ++ device_requests (turn s event).state events

abbrev pub requests_of_calls : AdapterState → List Call → List Request
requests_of_calls a calls = device_requests a.state (events_of_calls a calls)

-- ---- the objects, the prepared reply and the queue, without the ledger

abbrev pub objects_after : OwnedState → ℕ → List ℕ → OwnedState
objects_after owned max_size request = (exec_owned owned max_size request).after

abbrev pub objects_answer : OwnedState → ℕ → List ℕ → List ℕ
objects_answer owned max_size request = (exec_owned owned max_size request).answer

-- ---- the device's own writes among them

-- What changes the device: a request that reaches it, or a write of its own.
pub data DeviceStep : Type 0 where
  Requested : (request : Request) → DeviceStep
  WrittenBy : (write : OwnWrite) → DeviceStep

abbrev pub steps_by_event : State → Event → List DeviceStep
steps_by_event s (Written write) = WrittenBy write ∷ []
steps_by_event s event = map Requested (requests_by_event s event)

-- The requests that reach the device, and its own writes, in order.
abbrev pub device_steps : State → List Event → List DeviceStep
device_steps s [] = []
device_steps s (event ∷ events) = steps_by_event s event ++ device_steps (turn s event).state events

abbrev pub steps_of_calls : AdapterState → List Call → List DeviceStep
steps_of_calls a calls = device_steps a.state (events_of_calls a calls)

-- The call is no write of the device itself.
abbrev pub IsNoWrite : Call → Type 0
IsNoWrite (Writes write) = ⊥
IsNoWrite other = ⊤

-- The device after these steps, from left to right.
abbrev pub device_after_step : Device → DeviceStep → Device
device_after_step device (Requested request) = (exec_device device request.0 request.1).after
device_after_step device (WrittenBy write) = device_written write device

abbrev pub device_after : Device → List DeviceStep → Device
device_after device [] = device
device_after device (step ∷ steps) = device_after (device_after_step device step) steps

-- The objects, the prepared reply and the queue alone after these steps.
abbrev pub objects_after_step : OwnedState → DeviceStep → OwnedState
objects_after_step owned (Requested request) = objects_after owned request.0 request.1
objects_after_step owned (WrittenBy write) = objects_written write owned

abbrev pub objects_after_steps : OwnedState → List DeviceStep → OwnedState
objects_after_steps owned [] = owned
objects_after_steps owned (step ∷ steps) = objects_after_steps (objects_after_step owned step) steps

-- A command with a ticket that is withdrawn leaves the queue as if its owner had finished it with this result.
abbrev pub reached_by_withdrawal : Option ℕ → List DeviceStep
reached_by_withdrawal None = []
reached_by_withdrawal (Some ticket) = WrittenBy (Finishes ticket withdrawal_result) ∷ []

abbrev pub reached_by_write : OwnWrite → Device → List DeviceStep
reached_by_write (Withdraws request) device = reached_by_withdrawal (ticket_withdrawn request device)
reached_by_write other device = WrittenBy other ∷ []

-- What reaches the objects: of each request what the ledger lets through, and each write.
abbrev pub reached_by_step : Device → DeviceStep → List DeviceStep
reached_by_step device (Requested request) = map Requested (reached objects_after objects_answer owned_standing device (request ∷ []))
reached_by_step device (WrittenBy write) = reached_by_write write device

abbrev pub reached_by_steps : Device → List DeviceStep → List DeviceStep
reached_by_steps device [] = []
reached_by_steps device (step ∷ steps) =
    reached_by_step device step ++ reached_by_steps (device_after_step device step) steps

-- The commands that the ledger executes, and the slots that it frees. A write does neither.
abbrev pub journal_by_step : Device → DeviceStep → List LedgerEvent
journal_by_step device (Requested request) = journal objects_after objects_answer owned_standing device (request ∷ [])
journal_by_step device (WrittenBy write) = []

abbrev pub journal_by_steps : Device → List DeviceStep → List LedgerEvent
journal_by_steps device [] = []
journal_by_steps device (step ∷ steps) =
    journal_by_step device step ++ journal_by_steps (device_after_step device step) steps

-- ---- the laws

-- The commands that the ledger executes during calls, and the slots that it frees.
abbrev pub journal_of_calls : AdapterState → List Call → List LedgerEvent
journal_of_calls a calls = journal_by_steps a.state.shared.objects (steps_of_calls a calls)

-- After any calls, the objects and the ledger are those after these requests and the device's own writes, in order.
abbrev pub device_law : Type 0
device_law = (a : AdapterState) (calls : List Call) →
    (after_calls a calls).state.shared.objects ≡ device_after a.state.shared.objects (steps_of_calls a calls)

-- Without writes of the device, they are those after a run of the requests.
abbrev pub run_law : Type 0
run_law = (a : AdapterState) (calls : List Call) → AllByRecursion IsNoWrite calls →
    (after_calls a calls).state.shared.objects ≡ (run a.state.shared.objects (requests_of_calls a calls)).after

-- The objects, the prepared reply and the queue are as if they alone had executed what reached them: each request that is
-- not to the ledger, the embedded request of each command once, and each write of the device.
abbrev pub objects_law : Type 0
objects_law = (a : AdapterState) (calls : List Call) → (after_calls a calls).state.shared.objects.router
    ≡ objects_after_steps a.state.shared.objects.router
    (reached_by_steps a.state.shared.objects (steps_of_calls a calls))

-- No number of an originator is executed twice, and the numbers rise, unless the originator's slot is freed in between.
abbrev pub commands_once_law : Type 0
commands_once_law = (a : AdapterState) (calls : List Call) → HasNoDoubles (journal_of_calls a calls)

abbrev pub numbers_rise_law : Type 0
numbers_rise_law = (a : AdapterState) (calls : List Call) → Rises (journal_of_calls a calls)
