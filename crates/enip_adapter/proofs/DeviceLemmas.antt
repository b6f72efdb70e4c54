-- The device after a list of events is that after the requests that reach it and its own writes.
use Rattle.std.proofs.Common.{◌≡◌, ℕ, ◌<◌, List, [], ◌∷◌, ◌++◌, map, Bool, true, false, cond, not, ltb, eqb, length, Option, Some, None, Result, Ok, Err, refl, sym, ap, ◌∙◌}
use Rattle.std.specs.Prelude.{find, ⊤}
use Rattle.std.specs.List.{AllByRecursion}
use Rattle.std.proofs.lemmas.List.{map-append}
use Rattle.cip_bytes.specs.Protocol.{command_of}
use Rattle.cip_bytes.specs.declared.protocol.Command.{Command}
use Rattle.cip_bytes.specs.declared.protocol.Command.TheVariants.{SendRRData, SendUnitData}
use Rattle.cip_class3.specs.Item.{sequence_count_of, message_of}
use Rattle.cip_class3.specs.TargetRule.{TargetStep, has_accepted_size, is_held}
use Rattle.cip_ledger.specs.Device.{Device, Executed, owned_standing, exec_device, run}
use Rattle.cip_message.specs.LedgerCommand.{Command as LedgerCommand}
use Rattle.cip_ledger.specs.Runs.{Request, slot_in, events_by, journal, reached, router_after}
use Rattle.cip_ledger.specs.Runs.Event.{Executed as ExecutedCommand, Freed}
use Rattle.cip_ledger.specs.Runs.{Event as LedgerEvent}
use Rattle.cip_ledger.specs.Laws.{HasNoDoubles, Rises, UntilFreed, IsNotFreed}
use Rattle.cip_ledger.specs.Services.{Replies, Executes as ExecutesCommand, Queues, Frees, DONE, PENDING}
use Rattle.cip_ledger.specs.Turn.{Fate, Passed, Served as ServedByLedger, fate, embedded_reply}
use Rattle.cip_ledger.specs.Withdrawing.{withdrawal_result}
use Rattle.cip_ledger.proofs.Answered.{rises-apart}
use Rattle.cip_ledger.proofs.Fates.{Means, fate-means}
use Rattle.cip_ledger.proofs.Settled.{Settled, next_by, settled-run, settled-command, settled-queued, journal-above, router-reached}
use Rattle.cip_owner.specs.Owned.{OwnedState}
use Rattle.cip_manager.specs.declared.connection.Connection.{Connection}
use Rattle.cip_manager.specs.Connection.{is_named}
use Rattle.cip_manager.specs.Items.{turn_of_found}
use Rattle.enip_wire.specs.Bodies.{rr_body_of, unit_body_of}
use Rattle.enip_wire.specs.Frames.{Frame}
use Rattle.enip_wire.specs.Stream.{Parsed, held_and_taken, parsed}
use Rattle.enip_wire.specs.Stream.Parsed.{Incomplete, WholeFrame, TooLongHeader}
use Rattle.enip_wire.specs.declared.item_list.CpfFault.{CpfFault}
use Rattle.enip_adapter.specs.declared.peer.Rights.{Rights}
use Rattle.enip_adapter.specs.declared.peer.Session.{Session}
use Rattle.enip_adapter.specs.declared.shared.Shared.{Shared}
use Rattle.enip_adapter.specs.Calls.{AdapterState, Call, Held, Meaning, call_meaning, after_call, bytes_held, piece_to}
use Rattle.enip_adapter.specs.Calls.{events_of_parsed}
use Rattle.enip_adapter.specs.Calls.Call.{Begins_peer, Feeds, Ends_peer, Ticks, Writes}
use Rattle.enip_adapter.specs.Commands.{by_command, command_served, long_refused}
use Rattle.enip_adapter.specs.DeviceRuns.{requests_by_route, requests_in_rr, requests_by_connection, requests_in_unit, requests_by_command, requests_in_frame, requests_by_session, requests_by_event, journal_of_calls, objects_after, objects_answer}
use Rattle.enip_adapter.specs.DeviceRuns.{DeviceStep, Requested, WrittenBy, steps_by_event, device_steps, steps_of_calls}
use Rattle.enip_adapter.specs.DeviceRuns.{IsNoWrite, device_requests, requests_of_calls}
use Rattle.enip_adapter.specs.DeviceRuns.{device_after_step, device_after, objects_after_step, objects_after_steps}
use Rattle.enip_adapter.specs.DeviceRuns.{reached_by_withdrawal, reached_by_write, reached_by_step, reached_by_steps, journal_by_steps}
use Rattle.enip_adapter.specs.OwnWrites.{OwnWrite, WritesData, WritesAttribute, SetsStatus, SetsState, Prepares, Settles, Finishes, Marks, Withdraws, router_written, device_written}
use Rattle.enip_adapter.specs.Replies.{Served, leaving, is_registered_as}
use Rattle.enip_adapter.specs.Rights.{is_refused, after_for, answer_for}
use Rattle.enip_adapter.specs.Runs.{after_calls, events_of_calls}
use Rattle.enip_adapter.specs.SendRRData.{Route, Opens, Closes, Executes, route_of, routed_to, reply_to_body}
use Rattle.enip_adapter.specs.SendUnitData.{item_of_body}
use Rattle.enip_adapter.specs.Turn.{State, Event, TurnResult, turn, begun, end_found, after, session_of, serve_found}
use Rattle.enip_adapter.specs.Turn.Event.{Begin, End, At, Framed, Long, Written}
use Rattle.enip_adapter.proofs.EventLemmas.{state-events}
use Rattle.enip_adapter.proofs.ListLemmas.{both}
use Rattle.enip_adapter.proofs.BeginLemmas.{each-begun}
use Rattle.enip_adapter.proofs.SettleLemmas.{finished-router, written-settled}
use Rattle.enip_adapter.proofs.WithdrawalLemmas.{by-ticket}

-- The device after these requests.
abbrev Ends : Device → Device → List Request → Type 0
Ends old new requests = new ≡ (run old requests).after

-- What holds of both alternatives of two choices by the same test holds of the choices.
pub choose : {X Y : Type 0} → (P : X → Y → Type 0) (b : Bool) (x y : X) (u v : Y) → P x u → P y v → P (cond b x y) (cond b u v)
choose P true x y u v p q = p
choose P false x y u v p q = q

routed-ends : (shared : Shared) (session : Session) (request : List ℕ) (to : Route) →
    Ends shared.objects (routed_to shared session request to).shared.objects
    (requests_by_route session.rights request to)
routed-ends shared session request (Opens layout bytes) = refl
routed-ends shared session request (Closes bytes) = refl
routed-ends shared session request Executes =
    choose (λ (x : Executed) requests. Ends shared.objects x.after requests) (is_refused session.rights request) _ _ _ _
    refl refl

abbrev ServedEnds : Shared → Served → List Request → Type 0
ServedEnds shared served requests = Ends shared.objects served.shared.objects requests

rr-ends : (shared : Shared) (session : Session) (f : Frame) (body : Result (List ℕ) CpfFault) →
    ServedEnds shared (reply_to_body shared session f body) (requests_in_rr session.rights body)
rr-ends shared session f (Err fault) = refl
rr-ends shared session f (Ok request) =
    choose (ServedEnds shared) (ltb (length request) 2) _ _ _ _ refl
    (routed-ends shared session request (route_of request))

abbrev StepEnds : Shared → TargetStep Device → List Request → Type 0
StepEnds shared step requests = Ends shared.objects step.router requests

unit-ends : (shared : Shared) (session : Session) (f : Frame) (body : Result (ℕ × List ℕ) CpfFault) →
    ServedEnds shared (item_of_body shared session f body) (requests_in_unit shared session body)
unit-ends shared session f (Err fault) = refl
unit-ends shared session f (Ok (id, item)) = by-connection (find (is_named session.handle id) shared.manager.connections)
  where
    by-connection : (o : Option Connection) →
        Ends shared.objects
        (turn_of_found (after_for session.rights) (answer_for session.rights) shared.manager.connections shared.moment
        session.handle id item shared.objects o).router
        (requests_by_connection session.rights item o)
    by-connection None = refl
    by-connection (Some connection) =
        choose (StepEnds shared) (has_accepted_size connection.target item) _ _ _ _
        (choose (StepEnds shared) (is_held connection.target.held (sequence_count_of item)) _ _ _ _ refl
        (choose (λ (x : Executed) requests. Ends shared.objects x.after requests)
        (is_refused session.rights (message_of item)) _ _ _ _ refl refl)) refl

by-command-ends : (shared : Shared) (session : Session) (f : Frame) (command : Option Command) →
    ServedEnds shared (by_command shared session f command) (requests_by_command shared session f command)
by-command-ends shared session f (Some SendRRData) =
    choose (ServedEnds shared) (not (is_registered_as session f.header.session)) _ _ _ _ refl
    (rr-ends shared session f (rr_body_of f.body))
by-command-ends shared session f (Some SendUnitData) =
    choose (ServedEnds shared) (not (is_registered_as session f.header.session)) _ _ _ _ refl
    (unit-ends shared session f (unit_body_of f.body))
by-command-ends shared session f other = refl

frame-ends : (shared : Shared) (session : Session) (f : Frame) →
    ServedEnds shared (command_served shared session f) (requests_in_frame shared session f)
unfolding command_served
frame-ends shared session f =
    choose (ServedEnds shared) (not (eqb f.header.options 0)) _ _ _ _ refl
    (choose (ServedEnds shared) (not (eqb f.header.status 0)) _ _ _ _ refl
    (by-command-ends shared session f (command_of f.header.command)))

abbrev TurnEnds : State → TurnResult → List Request → Type 0
TurnEnds s result requests = Ends s.shared.objects result.state.shared.objects requests

framed-ends : (s : State) (peer : ℕ) (f : Frame) (o : Option Session) →
    TurnEnds s (serve_found s peer (λ session. command_served s.shared session f) o) (requests_by_session s.shared f o)
framed-ends s peer f None = refl
framed-ends s peer f (Some session) =
    let served = command_served s.shared session f in
    choose (TurnEnds s) session.closed _ _ _ _ refl
    (both (λ (t : Shared). Ends s.shared.objects t.objects (requests_in_frame s.shared session f)) served.reaction.close
    _ _ (frame-ends s.shared session f) (frame-ends s.shared session f))

-- A serving that leaves the objects as they are.
same-ends : (s : State) (peer : ℕ) (serve : Session → Served) (o : Option Session) →
    ((session : Session) → (serve session).shared.objects ≡ s.shared.objects) →
    (serve_found s peer serve o).state.shared.objects ≡ s.shared.objects
same-ends s peer serve None same = refl
same-ends s peer serve (Some session) same =
    both (λ (t : TurnResult). t.state.shared.objects ≡ s.shared.objects) session.closed _ _ refl
    (both (λ (t : Shared). t.objects ≡ s.shared.objects) (serve session).reaction.close _ _ (same session) (same session))

begun-ends : (s : State) (rights : Rights) (group : Option ℕ) → (begun s rights group).state.shared.objects ≡ s.shared.objects
begun-ends s rights group =
    each-begun (λ (t : TurnResult). t.state.shared.objects ≡ s.shared.objects) s rights group (λ full. refl) refl

ended-ends : (s : State) (peer : ℕ) (o : Option Session) → (end_found s peer o).shared.objects ≡ s.shared.objects
ended-ends s peer None = refl
ended-ends s peer (Some session) = refl

-- A request changes the device as a run of it does.
after-requests : (device : Device) (requests : List Request)
    → device_after device (map Requested requests) ≡ (run device requests).after
after-requests device [] = refl
after-requests device (request ∷ requests) =
    after-requests (exec_device device request.0 request.1).after requests

pub step-ends : (s : State) (event : Event)
    → (turn s event).state.shared.objects ≡ device_after s.shared.objects (steps_by_event s event)
step-ends s (Begin rights group) = begun-ends s rights group
step-ends s (End peer) = ended-ends s peer (session_of s peer)
step-ends s (At now) = refl
step-ends s (Framed peer f) =
    framed-ends s peer f (session_of s peer)
    ∙ sym (after-requests s.shared.objects (requests_by_event s (Framed peer f)))
step-ends s (Long peer header) =
    same-ends s peer (λ session. leaving s.shared (long_refused session header)) (session_of s peer) (λ session. refl)
step-ends s (Written write) = refl

pub after-two : (device : Device) (first second : List DeviceStep)
    → device_after device (first ++ second) ≡ device_after (device_after device first) second
after-two device [] second = refl
after-two device (step ∷ first) second = after-two (device_after_step device step) first second

pub events-end : (s : State) (events : List Event)
    → (after s events).shared.objects ≡ device_after s.shared.objects (device_steps s events)
events-end s [] = refl
events-end s (event ∷ events) =
    events-end (turn s event).state events
    ∙ ap (λ device. device_after device (device_steps (turn s event).state events)) (step-ends s event)
    ∙ sym (after-two s.shared.objects (steps_by_event s event) (device_steps (turn s event).state events))

pub calls-end : (a : AdapterState) (calls : List Call)
    → (after_calls a calls).state.shared.objects ≡ device_after a.state.shared.objects (steps_of_calls a calls)
calls-end a calls =
    ap (λ (s : State). s.shared.objects) (state-events a calls) ∙ events-end a.state (events_of_calls a calls)

-- ---- without writes

abbrev IsNotWritten : Event → Type 0
IsNotWritten (Written write) = ⊥
IsNotWritten other = ⊤

requested-step : (s : State) (event : Event) → IsNotWritten event
    → steps_by_event s event ≡ map Requested (requests_by_event s event)
requested-step s (Begin rights group) is = refl
requested-step s (End peer) is = refl
requested-step s (At now) is = refl
requested-step s (Framed peer f) is = refl
requested-step s (Long peer header) is = refl
requested-step s (Written write) is = absurd is

requested-steps : (s : State) (events : List Event) → AllByRecursion IsNotWritten events
    → device_steps s events ≡ map Requested (device_requests s events)
requested-steps s [] all = refl
requested-steps s (event ∷ events) all =
    ap (λ steps. steps ++ device_steps (turn s event).state events) (requested-step s event all.0)
    ∙ (ap (λ steps. map Requested (requests_by_event s event) ++ steps)
    (requested-steps (turn s event).state events all.1)
    ∙ sym (map-append Requested (requests_by_event s event) (device_requests (turn s event).state events)))

free-parsed : (peer : ℕ) (x : Parsed) → AllByRecursion IsNotWritten (events_of_parsed peer x)
free-parsed peer Incomplete = tt
free-parsed peer (WholeFrame f) = (tt, tt)
free-parsed peer (TooLongHeader h) = (tt, tt)

free-piece : (peer : ℕ) (piece : List ℕ) (held : List Held) (o : Option Session)
    → AllByRecursion IsNotWritten (piece_to held peer piece o).events
free-piece peer piece held None = tt
free-piece peer piece held (Some session) =
    both (λ (m : Meaning). AllByRecursion IsNotWritten m.events) session.closed _ _ tt
    (free-parsed peer (parsed (held_and_taken (bytes_held held peer) piece)))

free-call : (a : AdapterState) (call : Call) → IsNoWrite call
    → AllByRecursion IsNotWritten (call_meaning a call).events
free-call a (Begins_peer rights group) is = (tt, tt)
free-call a (Feeds now peer piece) is = (tt, free-piece peer piece a.held (session_of a.state peer))
free-call a (Ends_peer peer) is = (tt, tt)
free-call a (Ticks now) is = (tt, tt)
free-call a (Writes write) is = absurd is

free-append : (events later : List Event) → AllByRecursion IsNotWritten events → AllByRecursion IsNotWritten later
    → AllByRecursion IsNotWritten (events ++ later)
free-append [] later all more = more
free-append (event ∷ events) later all more = (all.0, free-append events later all.1 more)

free-calls : (a : AdapterState) (calls : List Call) → AllByRecursion IsNoWrite calls
    → AllByRecursion IsNotWritten (events_of_calls a calls)
free-calls a [] all = tt
free-calls a (call ∷ calls) all =
    free-append (call_meaning a call).events (events_of_calls (after_call a call) calls) (free-call a call all.0)
    (free-calls (after_call a call) calls all.1)

-- Without writes of the device, it is that after a run of the requests.
pub calls-run : (a : AdapterState) (calls : List Call) → AllByRecursion IsNoWrite calls
    → Ends a.state.shared.objects (after_calls a calls).state.shared.objects (requests_of_calls a calls)
calls-run a calls all =
    calls-end a calls
    ∙ (ap (device_after a.state.shared.objects)
    (requested-steps a.state (events_of_calls a calls) (free-calls a calls all))
    ∙ after-requests a.state.shared.objects (requests_of_calls a calls))

-- ---- the objects alone

objects-requests : (objects : OwnedState) (requests : List Request)
    → objects_after_steps objects (map Requested requests) ≡ router_after objects_after objects_answer objects requests
objects-requests objects [] = refl
objects-requests objects (request ∷ requests) =
    objects-requests (objects_after objects request.0 request.1) requests

objects-two : (objects : OwnedState) (first second : List DeviceStep)
    → objects_after_steps objects (first ++ second) ≡ objects_after_steps (objects_after_steps objects first) second
objects-two objects [] second = refl
objects-two objects (step ∷ first) second = objects-two (objects_after_step objects step) first second

written-reached : (write : OwnWrite) (device : Device)
    → router_written write device ≡ objects_after_steps device.router (reached_by_write write device)
written-reached (WritesData instance offset bytes) device = refl
written-reached (WritesAttribute class instance attribute offset bytes) device = refl
written-reached (SetsStatus status) device = refl
written-reached (SetsState state) device = refl
written-reached (Prepares reply) device = refl
written-reached (Settles originator number reply) device = refl
written-reached (Finishes ticket reply) device = refl
written-reached (Marks ticket) device = refl
written-reached (Withdraws request) device =
    by-ticket (λ d ticket. d.router ≡ objects_after_steps device.router (reached_by_withdrawal ticket)) device request
    refl (λ ledger w is facts. refl)
    (λ ledger w ticket is facts of not_handed some. finished-router ticket withdrawal_result device)

pub step-reached : (device : Device) (step : DeviceStep)
    → (device_after_step device step).router ≡ objects_after_steps device.router (reached_by_step device step)
step-reached device (Requested request) =
    router-reached objects_after objects_answer owned_standing (request ∷ []) device
    ∙ sym (objects-requests device.router (reached objects_after objects_answer owned_standing device (request ∷ [])))
step-reached device (WrittenBy write) = written-reached write device

steps-reached : (steps : List DeviceStep) (device : Device)
    → (device_after device steps).router ≡ objects_after_steps device.router (reached_by_steps device steps)
steps-reached [] device = refl
steps-reached (step ∷ steps) device =
    steps-reached steps (device_after_step device step)
    ∙ ap (λ objects. objects_after_steps objects (reached_by_steps (device_after_step device step) steps))
    (step-reached device step)
    ∙ sym (objects-two device.router (reached_by_step device step)
    (reached_by_steps (device_after_step device step) steps))

pub objects-end : (a : AdapterState) (calls : List Call) → (after_calls a calls).state.shared.objects.router
    ≡ objects_after_steps a.state.shared.objects.router
    (reached_by_steps a.state.shared.objects (steps_of_calls a calls))
objects-end a calls =
    ap (λ (d : Device). d.router) (calls-end a calls)
    ∙ steps-reached (steps_of_calls a calls) a.state.shared.objects

-- ---- the numbers of commands

-- What holds of a first part until a slot is freed, and of a second part if the first frees it not, holds of both.
pub above-append : (originator : ℕ) (IsSo : LedgerCommand → Type 0) (events later : List LedgerEvent)
    → UntilFreed originator IsSo events → (IsNotFreed originator events → UntilFreed originator IsSo later)
    → UntilFreed originator IsSo (events ++ later)
above-append originator IsSo [] later is more = more tt
above-append originator IsSo (ExecutedCommand command reply ∷ events) later is more =
    (is.0, above-append originator IsSo events later is.1 more)
above-append originator IsSo (Freed freed ∷ events) later is more = λ other.
    above-append originator IsSo events later (is other) (λ kept. more (other, kept))

pub above-steps : (steps : List DeviceStep) (device : Device) (originator number : ℕ) (content : List ℕ)
    → Settled number content (slot_in originator device.ledger)
    → UntilFreed originator (λ command. number < command.number) (journal_by_steps device steps)
above-steps [] device originator number content settled = tt
above-steps (Requested request ∷ steps) device originator number content settled =
    above-append originator (λ command. number < command.number)
    (journal objects_after objects_answer owned_standing device (request ∷ []))
    (journal_by_steps (device_after_step device (Requested request)) steps)
    (journal-above objects_after objects_answer owned_standing (request ∷ []) device originator number content settled)
    (λ kept. above-steps steps (device_after_step device (Requested request)) originator number content
    (settled-run objects_after objects_answer owned_standing (request ∷ []) device originator number content settled kept))
above-steps (WrittenBy write ∷ steps) device originator number content settled =
    let after = written-settled write device originator number content settled in
    above-steps steps (device_written write device) originator number after.0 after.1

rises-by : (f : Fate) (device : Device) (request : Request) (steps : List DeviceStep) → Means device.ledger request f
    → Rises (journal_by_steps (next_by objects_after objects_answer f device request) steps)
    → Rises ((events_by objects_after objects_answer f device.router ++ [])
    ++ journal_by_steps (next_by objects_after objects_answer f device request) steps)
rises-by Passed device request steps means later = later
rises-by (ServedByLedger service (Replies given)) device request steps means later = later
rises-by (ServedByLedger service (ExecutesCommand command)) device request steps means later = (
  above-steps steps (next_by objects_after objects_answer (ServedByLedger service (ExecutesCommand command)) device request)
      command.originator command.number
      (DONE ∷ embedded_reply objects_after objects_answer device.router command.request)
      (settled-command objects_after objects_answer device request service command means),
  later,
)
rises-by (ServedByLedger service (Queues command ticket)) device request steps means later = (
  above-steps steps (next_by objects_after objects_answer (ServedByLedger service (Queues command ticket)) device request)
      command.originator command.number (PENDING ∷ [])
      (settled-queued objects_after objects_answer device request service command ticket means),
  later,
)
rises-by (ServedByLedger service (Frees freed)) device request steps means later = later

steps-rise : (steps : List DeviceStep) (device : Device) → Rises (journal_by_steps device steps)
steps-rise [] device = tt
steps-rise (Requested request ∷ steps) device =
    rises-by (fate owned_standing device.ledger device.router request.0 request.1) device request steps
    (fate-means owned_standing device.ledger device.router request)
    (steps-rise steps (device_after_step device (Requested request)))
steps-rise (WrittenBy write ∷ steps) device = steps-rise steps (device_written write device)

pub numbers-rise : (a : AdapterState) (calls : List Call) → Rises (journal_of_calls a calls)
numbers-rise a calls = steps-rise (steps_of_calls a calls) a.state.shared.objects

pub commands-once : (a : AdapterState) (calls : List Call) → HasNoDoubles (journal_of_calls a calls)
commands-once a calls = rises-apart (journal_of_calls a calls) (numbers-rise a calls)
