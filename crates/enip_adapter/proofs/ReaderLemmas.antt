-- Readers change nothing: of the requests that reach the device, those in readers' frames are no changes.
use Rattle.std.proofs.Common.{◌≡◌, ℕ, List, [], ◌∷◌, ◌++◌, map, length, Bool, true, false, cond, not, ltb, eqb, Option, Some, None, Result, Ok, Err, refl, sym, ap, ◌∙◌}
use Rattle.std.specs.Prelude.{find}
use Rattle.std.specs.List.{AllByRecursion}
use Rattle.cip_bytes.specs.Protocol.{command_of}
use Rattle.cip_bytes.specs.declared.protocol.Command.{Command}
use Rattle.cip_bytes.specs.declared.protocol.Command.TheVariants.{SendRRData, SendUnitData}
use Rattle.cip_bytes.specs.declared.protocol.TheConstants.{UNCONNECTED_LIMIT}
use Rattle.cip_class3.specs.Item.{sequence_count_of, message_of}
use Rattle.cip_class3.specs.TargetRule.{has_accepted_size, is_held, max_reply_size}
use Rattle.cip_ledger.specs.Device.{Device}
use Rattle.cip_ledger.specs.Runs.{Request}
use Rattle.cip_manager.specs.declared.connection.Connection.{Connection}
use Rattle.cip_manager.specs.Connection.{is_named}
use Rattle.enip_wire.specs.Bodies.{rr_body_of, unit_body_of}
use Rattle.enip_wire.specs.Frames.{Frame}
use Rattle.enip_wire.specs.declared.item_list.CpfFault.{CpfFault}
use Rattle.enip_adapter.specs.declared.peer.Rights.{Rights}
use Rattle.enip_adapter.specs.declared.peer.Rights.TheVariants.{Read, Write}
use Rattle.enip_adapter.specs.declared.peer.Session.{Session}
use Rattle.enip_adapter.specs.declared.shared.Shared.{Shared}
use Rattle.enip_adapter.specs.Asks.{asks_by_steps, asks_of_calls}
use Rattle.enip_adapter.specs.Calls.{AdapterState, Call}
use Rattle.enip_adapter.specs.DeviceRuns.{requests_by_rights, requests_by_route, requests_in_rr, requests_by_connection, requests_in_unit, requests_by_command, requests_in_frame, requests_by_session}
use Rattle.enip_adapter.specs.DeviceRuns.{DeviceStep, Requested, steps_by_event, device_steps, device_after_step, device_after}
use Rattle.enip_adapter.specs.Replies.{is_registered_as}
use Rattle.enip_adapter.specs.Rights.{is_change}
use Rattle.enip_adapter.specs.RightsLaws.{steps_by_rights, writer_steps_by_session, writer_steps_by_event, writer_steps, writer_steps_of_calls}
use Rattle.enip_adapter.specs.Runs.{after_calls, events_of_calls}
use Rattle.enip_adapter.specs.SendRRData.{Route, Opens, Closes, Executes, route_of}
use Rattle.enip_adapter.specs.Turn.{State, Event, turn, session_of}
use Rattle.enip_adapter.specs.Turn.Event.{Begin, End, At, Framed, Long, Written}
use Rattle.enip_adapter.proofs.AskedLemmas.{asks-two}
use Rattle.enip_adapter.proofs.DeviceLemmas.{after-two, step-ends, events-end}
use Rattle.enip_adapter.proofs.EventLemmas.{state-events}
use Rattle.enip_adapter.proofs.ListLemmas.{both}
use Rattle.enip_adapter.proofs.ReadingLemmas.{unchanged, nothing-asked}

-- ---- the requests in a reader's frame

abbrev AreReads : List Request → Type 0
AreReads requests = AllByRecursion (λ (request : Request). is_change request.1 ≡ false) requests

reads-rights : (rights : Rights) (max_size : ℕ) (request : List ℕ) → rights ≡ Read
    → AreReads (requests_by_rights rights max_size request)
reads-rights Write max_size request e = absurd (cc)
reads-rights Read max_size request e = go (is_change request) refl
  where
    go : (b : Bool) → is_change request ≡ b → AreReads (cond b [] ((max_size, request) ∷ []))
    go true is = tt
    go false is = (is, tt)

reads-route : (rights : Rights) (request : List ℕ) (to : Route) → rights ≡ Read
    → AreReads (requests_by_route rights request to)
reads-route rights request (Opens layout bytes) e = tt
reads-route rights request (Closes bytes) e = tt
reads-route rights request Executes e = reads-rights rights UNCONNECTED_LIMIT request e

reads-rr : (rights : Rights) (body : Result (List ℕ) CpfFault) → rights ≡ Read → AreReads (requests_in_rr rights body)
reads-rr rights (Err fault) e = tt
reads-rr rights (Ok request) e =
    both AreReads (ltb (length request) 2) _ _ tt (reads-route rights request (route_of request) e)

reads-connection : (rights : Rights) (item : List ℕ) (o : Option Connection) → rights ≡ Read
    → AreReads (requests_by_connection rights item o)
reads-connection rights item None e = tt
reads-connection rights item (Some c) e =
    both AreReads (has_accepted_size c.target item) _ _
    (both AreReads (is_held c.target.held (sequence_count_of item)) _ _ tt
    (reads-rights rights (max_reply_size c.target) (message_of item) e)) tt

reads-unit : (shared : Shared) (session : Session) (body : Result (ℕ × List ℕ) CpfFault) → session.rights ≡ Read
    → AreReads (requests_in_unit shared session body)
reads-unit shared session (Err fault) e = tt
reads-unit shared session (Ok (id, item)) e =
    reads-connection session.rights item (find (is_named session.handle id) shared.manager.connections) e

reads-command : (shared : Shared) (session : Session) (f : Frame) (command : Option Command) → session.rights ≡ Read
    → AreReads (requests_by_command shared session f command)
reads-command shared session f (Some SendRRData) e =
    both AreReads (not (is_registered_as session f.header.session)) _ _ tt
    (reads-rr session.rights (rr_body_of f.body) e)
reads-command shared session f (Some SendUnitData) e =
    both AreReads (not (is_registered_as session f.header.session)) _ _ tt
    (reads-unit shared session (unit_body_of f.body) e)
reads-command shared session f other e = tt

reads-frame : (shared : Shared) (session : Session) (f : Frame) → session.rights ≡ Read
    → AreReads (requests_in_frame shared session f)
reads-frame shared session f e =
    both AreReads (not (eqb f.header.options 0)) _ _ tt
    (both AreReads (not (eqb f.header.status 0)) _ _ tt
    (reads-command shared session f (command_of f.header.command) e))

reads-session : (shared : Shared) (session : Session) (f : Frame) → session.rights ≡ Read
    → AreReads (requests_by_session shared f (Some session))
reads-session shared session f e = both AreReads session.closed _ _ tt (reads-frame shared session f e)

-- ---- they change nothing, and ask nothing

unchanged-all : (device : Device) (requests : List Request) → AreReads requests
    → device_after device (map Requested requests) ≡ device
unchanged-all device [] all = refl
unchanged-all device (request ∷ requests) all =
    ap (λ d. device_after d (map Requested requests)) (unchanged device request.0 request.1 all.0)
    ∙ unchanged-all device requests all.1

unasked-all : (device : Device) (requests : List Request) → AreReads requests
    → asks_by_steps device (map Requested requests) ≡ []
unasked-all device [] all = refl
unasked-all device (request ∷ requests) all =
    ap (λ xs. xs ++ asks_by_steps (device_after_step device (Requested request)) (map Requested requests))
    (nothing-asked device request.0 request.1 all.0)
    ∙ (ap (λ d. asks_by_steps d (map Requested requests)) (unchanged device request.0 request.1 all.0)
    ∙ unasked-all device requests all.1)

-- ---- the steps of one event, and those of writers among them

record AreAlike (device : Device) (steps writers : List DeviceStep) : Type 0 where
  after : device_after device steps ≡ device_after device writers
  asked : asks_by_steps device steps ≡ asks_by_steps device writers

alike-session : (device : Device) (shared : Shared) (f : Frame) (o : Option Session)
    → AreAlike device (map Requested (requests_by_session shared f o))
    (writer_steps_by_session o (map Requested (requests_by_session shared f o)))
alike-session device shared f None = record { after = refl; asked = refl }
alike-session device shared f (Some session) = by-rights session.rights refl
  where
    by-rights : (rights : Rights) → session.rights ≡ rights
        → AreAlike device (map Requested (requests_by_session shared f (Some session)))
        (steps_by_rights rights (map Requested (requests_by_session shared f (Some session))))
    by-rights Write e = record { after = refl; asked = refl }
    by-rights Read e = record {
      after = unchanged-all device (requests_by_session shared f (Some session)) (reads-session shared session f e);
      asked = unasked-all device (requests_by_session shared f (Some session)) (reads-session shared session f e);
    }

alike-event : (device : Device) (s : State) (event : Event)
    → AreAlike device (steps_by_event s event) (writer_steps_by_event s event)
alike-event device s (Begin rights group) = record { after = refl; asked = refl }
alike-event device s (End peer) = record { after = refl; asked = refl }
alike-event device s (At now) = record { after = refl; asked = refl }
alike-event device s (Framed peer f) = alike-session device s.shared f (session_of s peer)
alike-event device s (Long peer header) = record { after = refl; asked = refl }
alike-event device s (Written write) = record { after = refl; asked = refl }

-- ---- lists of events

alike-events : (s : State) (events : List Event)
    → AreAlike s.shared.objects (device_steps s events) (writer_steps s events)
alike-events s [] = record { after = refl; asked = refl }
alike-events s (event ∷ events) =
    let device : Device = s.shared.objects in
    let new : State = (turn s event).state in
    let one : AreAlike s.shared.objects (steps_by_event s event) (writer_steps_by_event s event)
    = alike-event s.shared.objects s event in
    let ends : (turn s event).state.shared.objects ≡ device_after s.shared.objects (steps_by_event s event)
    = step-ends s event in
    let rest : AreAlike (turn s event).state.shared.objects (device_steps (turn s event).state events)
    (writer_steps (turn s event).state events) = alike-events (turn s event).state events in
    record {
      after = after-two device (steps_by_event s event) (device_steps new events)
          ∙ (ap (λ d. device_after d (device_steps new events)) (sym ends)
          ∙ (rest.after
          ∙ (ap (λ d. device_after d (writer_steps new events)) (ends ∙ one.after)
          ∙ sym (after-two device (writer_steps_by_event s event) (writer_steps new events)))));
      asked = asks-two device (steps_by_event s event) (device_steps new events)
          ∙ (ap (λ d. asks_by_steps device (steps_by_event s event) ++ asks_by_steps d (device_steps new events)) (sym ends)
          ∙ (ap (λ asked. asks_by_steps device (steps_by_event s event) ++ asked) rest.asked
          ∙ (ap (λ asked. asked ++ asks_by_steps new.shared.objects (writer_steps new events)) one.asked
          ∙ (ap (λ d. asks_by_steps device (writer_steps_by_event s event) ++ asks_by_steps d (writer_steps new events))
          (ends ∙ one.after)
          ∙ sym (asks-two device (writer_steps_by_event s event) (writer_steps new events))))));
    }

pub readers-change-nothing : (a : AdapterState) (calls : List Call)
    → (after_calls a calls).state.shared.objects ≡ device_after a.state.shared.objects (writer_steps_of_calls a calls)
readers-change-nothing a calls =
    ap (λ (s : State). s.shared.objects) (state-events a calls)
    ∙ (events-end a.state (events_of_calls a calls)
    ∙ (alike-events a.state (events_of_calls a calls)).after)

pub readers-ask-nothing : (a : AdapterState) (calls : List Call)
    → asks_of_calls a calls ≡ asks_by_steps a.state.shared.objects (writer_steps_of_calls a calls)
readers-ask-nothing a calls = (alike-events a.state (events_of_calls a calls)).asked
