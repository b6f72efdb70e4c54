-- Laws of what the owner is asked: each follows from the at most one request of a feed that reaches the objects.
use Rattle.std.proofs.Common.{◌≡◌, ◌≢◌, ◌≤◌, ℕ, List, [], ◌∷◌, ◌++◌, map, Bool, true, false, cond, not, ltb, eqb, length, Option, Some, None, Result, Ok, Err, append-nil, arith, refl, sym, ap, subst, ◌∙◌}
use Rattle.std.proofs.lemmas.List.{append_assoc}
use Rattle.std.specs.Prelude.{find, slice_index, option_map}
use Rattle.std.specs.List.{flat_map}
use Rattle.cip_bytes.specs.Protocol.{command_of}
use Rattle.cip_bytes.specs.declared.protocol.Command.{Command}
use Rattle.cip_bytes.specs.declared.protocol.Command.TheVariants.{SendRRData, SendUnitData}
use Rattle.cip_bytes.specs.declared.protocol.TheConstants.{UNCONNECTED_LIMIT}
use Rattle.cip_class3.specs.Item.{sequence_count_of, message_of}
use Rattle.cip_class3.specs.TargetRule.{TargetState, has_accepted_size, is_held, max_reply_size}
use Rattle.cip_ledger.specs.declared.target.Standing.{Standing}
use Rattle.cip_ledger.specs.declared.target.Standing.TheVariants as standings
use Rattle.cip_ledger.specs.Device.{Device, owned_standing, exec_device}
use Rattle.cip_ledger.specs.Laws.{HasNoDoubles, UntilFreed}
use Rattle.cip_ledger.specs.Ledger.{LedgerState}
use Rattle.cip_ledger.specs.Reaching.{listed}
use Rattle.cip_ledger.specs.Requests.{LedgerRequest, ledger_request, is_barred}
use Rattle.cip_message.specs.LedgerCommand.{Command as LedgerCommand}
use Rattle.cip_ledger.specs.Runs.{Request, reached, reached_by, embedded_in, Executed, Freed}
use Rattle.cip_ledger.specs.Runs.{Event as LedgerEvent}
use Rattle.cip_ledger.specs.Services.{Action, Replies, Executes as ExecutesCommand, Queues, Frees, KEPT_LIMIT, reply_to, success, DONE, action_of}
use Rattle.cip_ledger.specs.Standings.{by_standing, at_router}
use Rattle.cip_ledger.specs.Turn.{Fate, Passed, Served as ServedByLedger, fate, fate_of, turn_by}
use Rattle.cip_ledger.proofs.Devices.{asked-final}
use Rattle.cip_ledger.proofs.ReachingLemmas.{kept_within}
use Rattle.cip_manager.specs.declared.connection.Connection.{Connection}
use Rattle.cip_manager.specs.Connection.{is_named}
use Rattle.cip_objects.specs.Contents.{Contents}
use Rattle.cip_objects.specs.OwnRequests.{Asked}
use Rattle.cip_owner.specs.declared.owner.NoOwner.{NoOwner}
use Rattle.cip_owner.specs.Owned.{OwnedState, exec_owned, asks, asked_within, is_fit, after_reply, answer_with}
use Rattle.cip_owner.specs.Replies.{Reply}
use Rattle.cip_owner.proofs.OwnerLemmas.{given, unasked, unprepared}
use Rattle.enip_wire.specs.Bodies.{rr_body_of, unit_body_of}
use Rattle.enip_wire.specs.Frames.{Frame}
use Rattle.enip_wire.specs.Stream.{Parsed, held_and_taken, parsed}
use Rattle.enip_wire.specs.Stream.Parsed.{Incomplete, WholeFrame, TooLongHeader}
use Rattle.enip_wire.specs.declared.item_list.CpfFault.{CpfFault}
use Rattle.enip_adapter.specs.declared.peer.Rights.{Rights}
use Rattle.enip_adapter.specs.declared.peer.Session.{Session}
use Rattle.enip_adapter.specs.declared.shared.Shared.{Shared}
use Rattle.enip_adapter.specs.Asks.{asks_by_reached, asks_by_step, asks_by_steps, asks_of_call, asks_of_calls, asks_by_requests, with_reply, after_asking, asking_adapter, calls_asking, asked_adapter}
use Rattle.enip_adapter.specs.Calls.{AdapterState, Call, after_call, call_answer, call_meaning, bytes_held, piece_to, piece_meaning, dropped_piece, events_of_parsed}
use Rattle.enip_adapter.specs.Calls.Call.{Feeds, Writes}
use Rattle.enip_adapter.specs.DeviceRuns.{DeviceStep, Requested, WrittenBy, reached_by_withdrawal, device_steps, steps_of_calls, objects_after, objects_answer, objects_after_steps, reached_by_steps, reached_by_step, steps_by_event, device_after, device_after_step, journal_by_step, journal_by_steps}
use Rattle.enip_adapter.specs.DeviceRuns.{requests_by_rights, requests_by_route, requests_in_rr, requests_by_connection, requests_by_target, requests_in_unit, requests_by_command, requests_in_frame, requests_by_session}
use Rattle.enip_adapter.specs.OwnerLaws.{owned_in, answer_by, HadValue, EndsNone, IsRepeat, no_answer, no_change, asks_call_by_call, asking_events, asking_journal_by_steps}
use Rattle.enip_adapter.specs.OwnWrites.{OwnWrite, objects_written, device_written, Prepares, Withdraws}
use Rattle.enip_adapter.specs.Replies.{is_registered_as}
use Rattle.enip_adapter.specs.Rights.{is_refused}
use Rattle.enip_adapter.specs.Runs.{after_calls, events_of_calls}
use Rattle.enip_adapter.specs.SendRRData.{Route, Opens, Closes, Executes, route_of}
use Rattle.enip_adapter.specs.Turn.{State, Event, turn, after, session_of, at_moment}
use Rattle.enip_adapter.specs.Turn.Event.{At}
use Rattle.enip_adapter.proofs.DeviceLemmas.{objects-end, events-end, commands-once}
use Rattle.enip_adapter.proofs.ListLemmas.{both}
use Rattle.enip_adapter.proofs.PeerLemmas.{at_state}
use Rattle.enip_adapter.proofs.WrittenLemmas.{own-alike}
use Rattle.enip_adapter.proofs.SettleLemmas.{through_by_action, through_by, through, router-alike, written-through}
use Rattle.enip_adapter.proofs.StandingLemmas.{Stands, fate-stands, fate-alike}
use Rattle.enip_adapter.proofs.WithdrawalLemmas.{by-ticket}

-- ---- at most one

pub data AtMostOne {X : Type 0} : List X → Type 0 where
  Zero : AtMostOne []
  One : (x : X) → AtMostOne (x ∷ [])

few-rights : (rights : Rights) (max_size : ℕ) (request : List ℕ)
    → AtMostOne (requests_by_rights rights max_size request)
few-rights rights max_size request = both AtMostOne (is_refused rights request) _ _ Zero (One _)

few-route : (rights : Rights) (request : List ℕ) (to : Route) → AtMostOne (requests_by_route rights request to)
few-route rights request (Opens layout bytes) = Zero
few-route rights request (Closes bytes) = Zero
few-route rights request Executes = few-rights rights UNCONNECTED_LIMIT request

few-rr : (rights : Rights) (body : Result (List ℕ) CpfFault) → AtMostOne (requests_in_rr rights body)
few-rr rights (Err fault) = Zero
few-rr rights (Ok request) =
    both AtMostOne (ltb (length request) 2) _ _ Zero (few-route rights request (route_of request))

few-connection : (rights : Rights) (item : List ℕ) (o : Option Connection)
    → AtMostOne (requests_by_connection rights item o)
few-connection rights item None = Zero
few-connection rights item (Some c) =
    both AtMostOne (has_accepted_size c.target item) _ _
    (both AtMostOne (is_held c.target.held (sequence_count_of item)) _ _ Zero
    (few-rights rights (max_reply_size c.target) (message_of item))) Zero

few-unit : (shared : Shared) (session : Session) (body : Result (ℕ × List ℕ) CpfFault)
    → AtMostOne (requests_in_unit shared session body)
few-unit shared session (Err fault) = Zero
few-unit shared session (Ok (id, item)) =
    few-connection session.rights item (find (is_named session.handle id) shared.manager.connections)

few-command : (shared : Shared) (session : Session) (f : Frame) (command : Option Command)
    → AtMostOne (requests_by_command shared session f command)
few-command shared session f (Some SendRRData) =
    both AtMostOne (not (is_registered_as session f.header.session)) _ _ Zero
    (few-rr session.rights (rr_body_of f.body))
few-command shared session f (Some SendUnitData) =
    both AtMostOne (not (is_registered_as session f.header.session)) _ _ Zero
    (few-unit shared session (unit_body_of f.body))
few-command shared session f other = Zero

few-frame : (shared : Shared) (session : Session) (f : Frame) → AtMostOne (requests_in_frame shared session f)
few-frame shared session f =
    both AtMostOne (not (eqb f.header.options 0)) _ _ Zero
    (both AtMostOne (not (eqb f.header.status 0)) _ _ Zero
    (few-command shared session f (command_of f.header.command)))

-- ---- the request of a feed

abbrev parsed_requests : Shared → Session → Parsed → List Request
parsed_requests shared session Incomplete = []
parsed_requests shared session (WholeFrame f) = requests_in_frame shared session f
parsed_requests shared session (TooLongHeader h) = []

abbrev piece_requests : Shared → List ℕ → List ℕ → Option Session → List Request
piece_requests shared held piece None = []
piece_requests shared held piece (Some session) =
    cond session.closed [] (parsed_requests shared session (parsed (held_and_taken held piece)))

abbrev feed_requests : AdapterState → ℕ → ℕ → List ℕ → List Request
feed_requests a now peer piece =
    piece_requests (at_moment a.state.shared now) (bytes_held a.held peer) piece (session_of a.state peer)

few-parsed : (shared : Shared) (session : Session) (x : Parsed) → AtMostOne (parsed_requests shared session x)
few-parsed shared session Incomplete = Zero
few-parsed shared session (WholeFrame f) = few-frame shared session f
few-parsed shared session (TooLongHeader h) = Zero

few-piece : (shared : Shared) (held piece : List ℕ) (o : Option Session) → AtMostOne (piece_requests shared held piece o)
few-piece shared held piece None = Zero
few-piece shared held piece (Some session) =
    both AtMostOne session.closed _ _ Zero (few-parsed shared session (parsed (held_and_taken held piece)))

parsed-steps : (s : State) (peer : ℕ) (session : Session) (x : Parsed) → session_of s peer ≡ Some session
    → session.closed ≡ false
    → device_steps s (events_of_parsed peer x) ≡ map Requested (parsed_requests s.shared session x)
parsed-steps s peer session Incomplete found alive = refl
parsed-steps s peer session (WholeFrame f) found alive =
    append-nil (map Requested (requests_by_session s.shared f (session_of s peer)))
    ∙ (ap (λ o. map Requested (requests_by_session s.shared f o)) found
    ∙ ap (λ b. map Requested (cond b [] (requests_in_frame s.shared session f))) alive)
parsed-steps s peer session (TooLongHeader h) found alive = refl

abbrev steps_by : State → ℕ → List ℕ → AdapterState → Bool → List DeviceStep
steps_by s peer piece a closed =
    device_steps s (cond closed (dropped_piece a.held) (piece_meaning a.held peer (bytes_held a.held peer) piece)).events

abbrev requests_if : State → ℕ → List ℕ → AdapterState → Session → Bool → List DeviceStep
requests_if s peer piece a session closed =
    map Requested (cond closed [] (parsed_requests s.shared session
    (parsed (held_and_taken (bytes_held a.held peer) piece))))

session-steps : (s : State) (peer : ℕ) (piece : List ℕ) (a : AdapterState) (session : Session) (closed : Bool)
    → session_of s peer ≡ Some session → session.closed ≡ closed
    → steps_by s peer piece a session.closed ≡ requests_if s peer piece a session session.closed
session-steps s peer piece a session true found e =
    ap (steps_by s peer piece a) e ∙ sym (ap (requests_if s peer piece a session) e)
session-steps s peer piece a session false found e =
    ap (steps_by s peer piece a) e
    ∙ (parsed-steps s peer session (parsed (held_and_taken (bytes_held a.held peer) piece)) found e
    ∙ sym (ap (requests_if s peer piece a session) e))

found-steps : (s : State) (peer : ℕ) (piece : List ℕ) (a : AdapterState) (o : Option Session) → session_of s peer ≡ o
    → device_steps s (piece_to a.held peer piece o).events
    ≡ map Requested (piece_requests s.shared (bytes_held a.held peer) piece o)
found-steps s peer piece a None found = refl
found-steps s peer piece a (Some session) found = session-steps s peer piece a session session.closed found refl

feed-steps : (a : AdapterState) (now peer : ℕ) (piece : List ℕ)
    → steps_of_calls a (Feeds now peer piece ∷ []) ≡ map Requested (feed_requests a now peer piece)
feed-steps a now peer piece =
    ap (λ events. device_steps a.state (At now ∷ events))
    (append-nil (piece_to a.held peer piece (session_of a.state peer)).events)
    ∙ found-steps (at_state a.state now) peer piece a (session_of a.state peer) refl

-- ---- what of it reaches the objects

few-embedded : (command : LedgerCommand) → AtMostOne (embedded_in objects_after objects_answer command)
few-embedded command = both AtMostOne (is_barred command.request) _ _ Zero (One _)

pub few-fate : (f : Fate) (request : Request) → AtMostOne (reached_by objects_after objects_answer f request ++ [])
few-fate Passed request = One request
few-fate (ServedByLedger service (Replies reply)) request = Zero
few-fate (ServedByLedger service (ExecutesCommand command)) request =
    subst AtMostOne (sym (append-nil (embedded_in objects_after objects_answer command))) (few-embedded command)
few-fate (ServedByLedger service (Queues command ticket)) request =
    subst AtMostOne (sym (append-nil (embedded_in objects_after objects_answer command))) (few-embedded command)
few-fate (ServedByLedger service (Frees originator)) request = Zero

-- Of at most one request.
abbrev pub reached_of : Device → List Request → List Request
reached_of device [] = []
reached_of device (request ∷ requests) =
    reached objects_after objects_answer owned_standing device (request ∷ [])

few-reached : (device : Device) (requests : List Request) → AtMostOne (reached_of device requests)
few-reached device [] = Zero
few-reached device (request ∷ requests) =
    few-fate (fate owned_standing device.ledger device.router request.0 request.1) request

abbrev pub feed_reached : AdapterState → ℕ → ℕ → List ℕ → List Request
feed_reached a now peer piece = reached_of a.state.shared.objects (feed_requests a now peer piece)

abbrev pub asks_of : Contents → List Request → List Asked
asks_of m requests = flat_map (λ r. listed (asks m r.0 r.1)) requests

same-asks : (m : Contents) (requests : List Request)
    → flat_map (asks_by_reached m) (map Requested requests) ≡ asks_of m requests
same-asks m [] = refl
same-asks m (request ∷ requests) = ap (λ xs. listed (asks m request.0 request.1) ++ xs) (same-asks m requests)

asks-requests : (device : Device) (requests : List Request) → AtMostOne requests
    → asks_by_requests device requests ≡ asks_of device.router.objects (reached_of device requests)
asks-requests device [] Zero = refl
asks-requests device (request ∷ []) (One _) =
    append-nil (asks_by_step device (Requested request))
    ∙ same-asks device.router.objects (reached objects_after objects_answer owned_standing device (request ∷ []))
asks-requests device (request ∷ (other ∷ requests)) few = elim few [ ]

-- A feed asks what its request asks that reaches the objects.
pub feed-asks : (a : AdapterState) (now peer : ℕ) (piece : List ℕ)
    → asks_of_call a (Feeds now peer piece)
    ≡ asks_of a.state.shared.objects.router.objects (feed_reached a now peer piece)
feed-asks a now peer piece =
    ap (asks_by_steps a.state.shared.objects) (feed-steps a now peer piece)
    ∙ asks-requests a.state.shared.objects (feed_requests a now peer piece)
    (few-piece (at_moment a.state.shared now) (bytes_held a.held peer) piece (session_of a.state peer))

objects-requests : (device : Device) (requests : List Request) → AtMostOne requests
    → objects_after_steps device.router (reached_by_steps device (map Requested requests))
    ≡ objects_after_steps device.router (map Requested (reached_of device requests))
objects-requests device [] Zero = refl
objects-requests device (request ∷ []) (One _) =
    ap (objects_after_steps device.router) (append-nil (reached_by_step device (Requested request)))
objects-requests device (request ∷ (other ∷ requests)) few = elim few [ ]

-- After a feed, the objects and what is prepared are those after this request.
pub feed-objects : (a : AdapterState) (now peer : ℕ) (piece : List ℕ)
    → owned_in (after_call a (Feeds now peer piece))
    ≡ objects_after_steps (owned_in a) (map Requested (feed_reached a now peer piece))
feed-objects a now peer piece =
    objects-end a (Feeds now peer piece ∷ [])
    ∙ (ap (λ steps. objects_after_steps (owned_in a) (reached_by_steps a.state.shared.objects steps))
    (feed-steps a now peer piece)
    ∙ objects-requests a.state.shared.objects (feed_requests a now peer piece)
    (few-piece (at_moment a.state.shared now) (bytes_held a.held peer) piece (session_of a.state peer)))

few-feed : (a : AdapterState) (now peer : ℕ) (piece : List ℕ) → AtMostOne (feed_reached a now peer piece)
few-feed a now peer piece = few-reached a.state.shared.objects (feed_requests a now peer piece)

-- ---- one is asked

few-listed : (o : Option Asked) → length (listed o ++ []) ≤ 1
few-listed None = omega arith
few-listed (Some asked) = omega arith

few-asked : (m : Contents) (requests : List Request) → AtMostOne requests → length (asks_of m requests) ≤ 1
few-asked m [] Zero = omega arith
few-asked m (request ∷ []) (One _) = few-listed (asks m request.0 request.1)
few-asked m (request ∷ (other ∷ requests)) few = elim few [ ]

pub one-asked : (a : AdapterState) (now peer : ℕ) (piece : List ℕ) → length (asks_of_call a (Feeds now peer piece)) ≤ 1
one-asked a now peer piece =
    subst (λ asked. length asked ≤ 1) (sym (feed-asks a now peer piece))
    (few-asked a.state.shared.objects.router.objects (feed_reached a now peer piece) (few-feed a now peer piece))

-- ---- what is asked does not depend on what is prepared or written

-- A command that the queue refuses asks nothing. So what is asked follows from what the ledger alone lets through.
module _ (w : OwnedState) where
  abbrev asks_by : Fate → Request → List Asked
  asks_by f request = asks_of w.objects (reached_by objects_after objects_answer f request ++ [])

  embedded-asks : (barred : Bool) (text : List ℕ) → asks_of w.objects (cond barred [] ((KEPT_LIMIT, text) ∷ []) ++ [])
      ≡ asks_of w.objects (listed (option_map kept_within (cond barred None (Some text))))
  embedded-asks true text = refl
  embedded-asks false text = refl

  refused-asks : (text : List ℕ) (o : Option Asked) → asks w.objects KEPT_LIMIT text ≡ o
      → owned_standing w text ≡ standings.Refused → listed o ≡ []
  refused-asks text None e is = refl
  refused-asks text (Some asked) e is =
      let both : standings.Final ≡ standings.Refused = sym (asked-final w KEPT_LIMIT text asked e) ∙ is in absurd (cc)

  standing-asks : (service : ℕ) (command : LedgerCommand) (request : Request) (s : Standing)
      → is_barred command.request ≡ false → owned_standing w command.request ≡ s
      → asks_by (ServedByLedger service (by_standing s command)) request
      ≡ asks_of w.objects (through_by_action (ExecutesCommand command))
  standing-asks service command request standings.Final free is =
      embedded-asks (is_barred command.request) command.request
  standing-asks service command request (standings.Pending ticket) free is =
      embedded-asks (is_barred command.request) command.request
  standing-asks service command request standings.Refused free is =
      sym (ap (λ b. asks_of w.objects (listed (option_map kept_within (cond b None (Some command.request))))) free
      ∙ (append-nil (listed (asks w.objects KEPT_LIMIT command.request))
      ∙ refused-asks command.request (asks w.objects KEPT_LIMIT command.request) refl is))

  command-asks : (service : ℕ) (command : LedgerCommand) (request : Request) (barred : Bool)
      → is_barred command.request ≡ barred
      → asks_by (ServedByLedger service
      (by_standing (cond barred standings.Final (owned_standing w command.request)) command)) request
      ≡ asks_of w.objects (through_by_action (ExecutesCommand command))
  command-asks service command request true e = embedded-asks (is_barred command.request) command.request
  command-asks service command request false e =
      standing-asks service command request (owned_standing w command.request) e refl

  action-asks : (service : ℕ) (request : Request) (action : Action)
      → asks_by (ServedByLedger service (at_router owned_standing w action)) request
      ≡ asks_of w.objects (through_by_action action)
  action-asks service request (Replies reply) = refl
  action-asks service request (ExecutesCommand command) =
      command-asks service command request (is_barred command.request) refl
  action-asks service request (Queues command ticket) =
      command-asks service command request (is_barred command.request) refl
  action-asks service request (Frees originator) = refl

  fate-asks : (ledger : Option LedgerState) (request : Request)
      → asks_by (fate owned_standing ledger w request.0 request.1) request ≡ asks_of w.objects (through ledger request)
  fate-asks None request = refl
  fate-asks (Some ledger) request = by_asked (ledger_request request.1)
    where
      by_asked : (asked : Option LedgerRequest)
          → asks_by (fate_of owned_standing ledger w request.0 asked) request
          ≡ asks_of w.objects (through_by ledger request asked)
      by_asked None = refl
      by_asked (Some asked) = action-asks asked.service request (action_of ledger request.0 asked)

abbrev through_of : Option LedgerState → List Request → List Request
through_of ledger [] = []
through_of ledger (request ∷ requests) = through ledger request

reached-asks : (device : Device) (requests : List Request)
    → asks_of device.router.objects (reached_of device requests)
    ≡ asks_of device.router.objects (through_of device.ledger requests)
reached-asks device [] = refl
reached-asks device (request ∷ requests) = fate-asks device.router device.ledger request

through-alike : (write : OwnWrite) (device : Device) (requests : List Request)
    → EndsNone device.ledger write
    → through_of (device_written write device).ledger requests ≡ through_of device.ledger requests
through-alike write device [] none = refl
through-alike write device (request ∷ requests) none = written-through write device request none

reached-alike : (device other : Device) (requests : List Request)
    → ((request : Request) → fate owned_standing other.ledger other.router request.0 request.1
    ≡ fate owned_standing device.ledger device.router request.0 request.1)
    → reached_of other requests ≡ reached_of device requests
reached-alike device other [] e = refl
reached-alike device other (request ∷ requests) e =
    ap (λ f. reached_by objects_after objects_answer f request ++ []) (e request)

asks-within : (write : OwnWrite) (owned : OwnedState) (limit : ℕ) (text : List ℕ) → HadValue owned.objects write
    → asks (objects_written write owned).objects limit text ≡ asks owned.objects limit text
unfolding asks
asks-within write owned limit text had = ap (asked_within limit) (own-alike write owned text had)

asks-alike : (write : OwnWrite) (owned : OwnedState) (requests : List Request) → HadValue owned.objects write
    → asks_of (objects_written write owned).objects requests ≡ asks_of owned.objects requests
asks-alike write owned [] had = refl
asks-alike write owned (request ∷ requests) had =
    ap (λ o. listed o ++ asks_of (objects_written write owned).objects requests)
    (asks-within write owned request.0 request.1 had)
    ∙ ap (λ xs. listed (asks owned.objects request.0 request.1) ++ xs) (asks-alike write owned requests had)

pub asked-alike : (a : AdapterState) (write : OwnWrite) (now peer : ℕ) (piece : List ℕ)
    → HadValue (owned_in a).objects write → EndsNone a.state.shared.objects.ledger write
    → asks_of_call (after_call a (Writes write)) (Feeds now peer piece) ≡ asks_of_call a (Feeds now peer piece)
asked-alike a write now peer piece had none =
    let device : Device = a.state.shared.objects in
    let requests : List Request = feed_requests a now peer piece in
    feed-asks (after_call a (Writes write)) now peer piece
    ∙ (reached-asks (device_written write device) requests
    ∙ (ap (λ (o : OwnedState). asks_of o.objects (through_of (device_written write device).ledger requests))
    (router-alike write device none)
    ∙ (ap (asks_of (objects_written write (owned_in a)).objects) (through-alike write device requests none)
    ∙ (asks-alike write (owned_in a) (through_of device.ledger requests) had
    ∙ (sym (reached-asks device requests) ∙ sym (feed-asks a now peer piece))))))

-- what a request withdraws asks nothing
pub withdraw-asks : (device : Device) (text : List ℕ) → asks_by_step device (WrittenBy (Withdraws text)) ≡ []
withdraw-asks device text =
    by-ticket (λ d ticket. flat_map (asks_by_reached device.router.objects) (reached_by_withdrawal ticket) ≡ []) device text
    refl (λ ledger w is facts. refl) (λ ledger w ticket is facts of not_handed some. refl)

-- ---- a repeat

cond-nil : (b : Bool) (requests : List Request) → requests ≡ [] → cond b [] requests ≡ []
cond-nil true requests e = refl
cond-nil false requests e = e

held-nil : (accepted held : Bool) (requests : List Request) → held ≡ true → cond accepted (cond held [] requests) [] ≡ []
held-nil true held requests e = ap (λ b. cond b [] requests) e
held-nil false held requests e = refl

repeat-requests : (a : AdapterState) (now peer : ℕ) (piece : List ℕ) → IsRepeat a now peer piece
    → feed_requests a now peer piece ≡ []
repeat-requests a now peer piece r =
    let shared : Shared = at_moment a.state.shared now in
    let target : TargetState = r.connection.target in
    let by_target : requests_by_target r.session.rights target r.item ≡ []
    = held-nil (has_accepted_size target r.item) (is_held target.held (sequence_count_of r.item))
    (requests_by_rights r.session.rights (max_reply_size target) (message_of r.item)) r.held in
    let in_unit : requests_in_unit shared r.session (unit_body_of r.frame.body) ≡ []
    = ap (requests_in_unit shared r.session) r.body ∙ (ap (requests_by_connection r.session.rights r.item) r.found ∙ by_target) in
    let by_command : requests_by_command shared r.session r.frame (command_of r.frame.header.command) ≡ []
    = ap (requests_by_command shared r.session r.frame) r.command
    ∙ cond-nil (not (is_registered_as r.session r.frame.header.session)) _ in_unit in
    let in_frame : requests_in_frame shared r.session r.frame ≡ []
    = cond-nil (not (eqb r.frame.header.options 0)) _ (cond-nil (not (eqb r.frame.header.status 0)) _ by_command) in
    ap (piece_requests shared (bytes_held a.held peer) piece) r.of_peer
    ∙ cond-nil r.session.closed _ (ap (parsed_requests shared r.session) r.completed ∙ in_frame)

pub repeat-asks : (a : AdapterState) (now peer : ℕ) (piece : List ℕ) → IsRepeat a now peer piece
    → asks_of_call a (Feeds now peer piece) ≡ []
repeat-asks a now peer piece r =
    feed-asks a now peer piece
    ∙ ap (λ requests. asks_of (owned_in a).objects (reached_of a.state.shared.objects requests))
    (repeat-requests a now peer piece r)

-- ---- a reply at the objects

abbrev with_given : OwnedState → Reply → OwnedState
with_given w reply = record w { prepared = Some reply }

given-exec : (w : OwnedState) (limit : ℕ) (text : List ℕ) (asked : Asked) (reply : Reply)
    → asks w.objects limit text ≡ Some asked → is_fit asked reply ≡ true
    → (exec_owned (with_given w reply) limit text).after
    ≡ record w { objects = after_reply w.objects asked reply.status; prepared = None }
given-exec w limit text asked reply e fit =
    ap (λ done. done.after) (given w limit text asked reply e fit)

none-exec : (w : OwnedState) (limit : ℕ) (text : List ℕ) (o : Option Asked) → asks w.objects limit text ≡ o
    → w.prepared ≡ None → (exec_owned w limit text).after.prepared ≡ None
none-exec w limit text None nothing e = unasked w limit text nothing ∙ e
none-exec w limit text (Some asked) something e =
    ap (λ done. done.after.prepared) (unprepared w limit text asked something e) ∙ e

-- ---- the reply of the device

second-of : {X : Type 0} → (b : Bool) (x y : X) → b ≡ false → cond b x y ≡ y
second-of true x y e = absurd (cc)
second-of false x y e = refl

embedded-asked : (m : Contents) (text : List ℕ) (barred : Bool) (asked : Asked)
    → asks_of m (cond barred [] ((KEPT_LIMIT, text) ∷ []) ++ []) ≡ asked ∷ []
    → (barred ≡ false) × (listed (asks m KEPT_LIMIT text) ++ [] ≡ asked ∷ [])
embedded-asked m text true asked e = absurd (cc)
embedded-asked m text false asked e = (refl, e)

something : (o : Option Asked) (asked : Asked) → listed o ++ [] ≡ asked ∷ [] → o ≡ Some asked
something None asked e = absurd (cc)
something (Some x) asked e = let same : x ≡ asked = cc in ap (λ y. Some y) same

given-answer : (w : OwnedState) (limit : ℕ) (text : List ℕ) (asked : Asked) (reply : Reply)
    → listed (asks w.objects limit text) ++ [] ≡ asked ∷ [] → is_fit asked reply ≡ true
    → objects_answer (with_given w reply) limit text ≡ answer_with (slice_index text 0) reply.status reply.content
given-answer w limit text asked reply e fit =
    ap (λ done. done.answer)
    (given w limit text asked reply (something (asks w.objects limit text) asked e) fit)

fate-answer : (device : Device) (f : Fate) (limit : ℕ) (text : List ℕ) (asked : Asked) (reply : Reply)
    → Stands device.router f
    → asks_of device.router.objects (reached_by objects_after objects_answer f (limit, text) ++ []) ≡ asked ∷ []
    → is_fit asked reply ≡ true
    → (turn_by objects_after objects_answer f device.ledger (with_given device.router reply) limit text).answer
    ≡ answer_by f text reply
fate-answer device Passed limit text asked reply stands e fit =
    given-answer device.router limit text asked reply e fit
fate-answer device (ServedByLedger service (Replies kept)) limit text asked reply stands e fit = absurd (cc)
fate-answer device (ServedByLedger service (ExecutesCommand command)) limit text asked reply stands e fit =
    let both : (is_barred command.request ≡ false)
    × (listed (asks device.router.objects KEPT_LIMIT command.request) ++ [] ≡ asked ∷ [])
    = embedded-asked device.router.objects command.request (is_barred command.request) asked e in
    ap (λ answer. reply_to service (success (DONE ∷ answer)))
    (second-of (is_barred command.request) _ _ both.0
    ∙ given-answer device.router KEPT_LIMIT command.request asked reply both.1 fit)
fate-answer device (ServedByLedger service (Queues command ticket)) limit text asked reply stands e fit =
    let both : (is_barred command.request ≡ false)
    × (listed (asks device.router.objects KEPT_LIMIT command.request) ++ [] ≡ asked ∷ [])
    = embedded-asked device.router.objects command.request (is_barred command.request) asked e in
    let final : owned_standing device.router command.request ≡ standings.Final
    = asked-final device.router KEPT_LIMIT command.request asked
    (something (asks device.router.objects KEPT_LIMIT command.request) asked both.1) in
    let two : standings.Final ≡ standings.Pending ticket = sym final ∙ stands in absurd (cc)
fate-answer device (ServedByLedger service (Frees originator)) limit text asked reply stands e fit = absurd (cc)

pub answered : (device : Device) (request : Request) (asked : Asked) (reply : Reply)
    → asks_by_step device (Requested request) ≡ asked ∷ [] → is_fit asked reply ≡ true
    → (exec_device (device_written (Prepares (Some reply)) device) request.0 request.1).answer
    ≡ answer_by (fate owned_standing device.ledger device.router request.0 request.1) request.1 reply
answered device request asked reply e fit =
    ap (λ f. (turn_by objects_after objects_answer f device.ledger (with_given device.router reply) request.0 request.1).answer)
    (fate-alike device.router (with_given device.router reply) (λ text. refl) device.ledger request)
    ∙ fate-answer device (fate owned_standing device.ledger device.router request.0 request.1) request.0 request.1 asked reply
    (fate-stands device.router device.ledger request)
    (sym (same-asks device.router.objects (reached objects_after objects_answer owned_standing device (request ∷ [])))
    ∙ e) fit

-- ---- a reply in a feed

nothing : (o : Option Asked) → listed o ++ [] ≡ [] → o ≡ None
nothing None e = refl
nothing (Some x) e = absurd (cc)

given-few : (w : OwnedState) (requests : List Request) (asked : Asked) (reply : Reply) → AtMostOne requests
    → asks_of w.objects requests ≡ asked ∷ [] → is_fit asked reply ≡ true
    → objects_after_steps (with_given w reply) (map Requested requests)
    ≡ record w { objects = after_reply w.objects asked reply.status; prepared = None }
given-few w [] asked reply Zero e fit = absurd (cc)
given-few w (request ∷ []) asked reply (One _) e fit =
    given-exec w request.0 request.1 asked reply (something (asks w.objects request.0 request.1) asked e) fit
given-few w (request ∷ (other ∷ requests)) asked reply few e fit = elim few [ ]

pub given-feed : (a : AdapterState) (now peer : ℕ) (piece : List ℕ) (asked : Asked) (reply : Reply)
    → asks_of_call a (Feeds now peer piece) ≡ asked ∷ [] → is_fit asked reply ≡ true
    → owned_in (after_call (with_reply a (Some reply)) (Feeds now peer piece))
    ≡ record (owned_in a) { objects = after_reply (owned_in a).objects asked reply.status; prepared = None }
given-feed a now peer piece asked reply e fit =
    feed-objects (with_reply a (Some reply)) now peer piece
    ∙ (ap (λ requests. objects_after_steps (with_given (owned_in a) reply) (map Requested requests))
    (reached-alike a.state.shared.objects (with_reply a (Some reply)).state.shared.objects
    (feed_requests a now peer piece)
    (λ request. fate-alike (owned_in a) (with_given (owned_in a) reply) (λ text. refl) a.state.shared.objects.ledger request))
    ∙ given-few (owned_in a) (feed_reached a now peer piece) asked reply (few-feed a now peer piece)
    (sym (feed-asks a now peer piece) ∙ e) fit)

unasked-few : (w : OwnedState) (requests : List Request) → AtMostOne requests → asks_of w.objects requests ≡ []
    → (objects_after_steps w (map Requested requests)).prepared ≡ w.prepared
unasked-few w [] Zero e = refl
unasked-few w (request ∷ []) (One _) e =
    unasked w request.0 request.1 (nothing (asks w.objects request.0 request.1) e)
unasked-few w (request ∷ (other ∷ requests)) few e = elim few [ ]

pub unasked-feed : (a : AdapterState) (now peer : ℕ) (piece : List ℕ) → asks_of_call a (Feeds now peer piece) ≡ []
    → (owned_in (after_call a (Feeds now peer piece))).prepared ≡ (owned_in a).prepared
unasked-feed a now peer piece e =
    ap (λ (o : OwnedState). o.prepared) (feed-objects a now peer piece)
    ∙ unasked-few (owned_in a) (feed_reached a now peer piece) (few-feed a now peer piece)
    (sym (feed-asks a now peer piece) ∙ e)

-- ---- with nobody to ask

none-requests : (w : OwnedState) (requests : List Request) → w.prepared ≡ None
    → (objects_after_steps w (map Requested requests)).prepared ≡ None
none-requests w [] e = e
none-requests w (request ∷ requests) e =
    none-requests (objects_after w request.0 request.1) requests
    (none-exec w request.0 request.1 (asks w.objects request.0 request.1) refl e)

same-adapter : (a : AdapterState) → (owned_in a).prepared ≡ None → with_reply a None ≡ a
same-adapter a e = ap (with_reply a) (sym e)

pub nobody-feed : (a : AdapterState) (owner : NoOwner) (now peer : ℕ) (piece : List ℕ) → (owned_in a).prepared ≡ None
    → (after_asking no_answer no_change a owner now peer piece ≡ after_call a (Feeds now peer piece))
    × (call_answer (asking_adapter no_answer no_change a owner now peer piece) (Feeds now peer piece)
    ≡ call_answer a (Feeds now peer piece))
nobody-feed a owner now peer piece e = go (asks_of_call a (Feeds now peer piece))
  where
    fed-none : (owned_in (after_call a (Feeds now peer piece))).prepared ≡ None
    fed-none =
        ap (λ (o : OwnedState). o.prepared) (feed-objects a now peer piece)
        ∙ none-requests (owned_in a) (feed_reached a now peer piece) e

    go : (asked : List Asked)
        → (after_calls a (calls_asking no_answer no_change owner now peer piece asked) ≡ after_call a (Feeds now peer piece))
        × (call_answer (asked_adapter no_answer no_change a owner asked) (Feeds now peer piece)
        ≡ call_answer a (Feeds now peer piece))
    go [] = (refl, refl)
    go (asked ∷ more) = (
      ap (λ x. with_reply (after_call x (Feeds now peer piece)) None) (same-adapter a e)
          ∙ same-adapter (after_call a (Feeds now peer piece)) fed-none,
      ap (λ x. call_answer x (Feeds now peer piece)) (same-adapter a e),
    )

-- ---- lists of calls

steps-two : (s : State) (first second : List Event)
    → device_steps s (first ++ second) ≡ device_steps s first ++ device_steps (after s first) second
steps-two s [] second = refl
steps-two s (event ∷ first) second =
    ap (λ steps. steps_by_event s event ++ steps) (steps-two (turn s event).state first second)
    ∙ sym (append_assoc (steps_by_event s event) (device_steps (turn s event).state first)
    (device_steps (after (turn s event).state first) second))

pub asks-two : (device : Device) (first second : List DeviceStep)
    → asks_by_steps device (first ++ second) ≡ asks_by_steps device first ++ asks_by_steps (device_after device first) second
asks-two device [] second = refl
asks-two device (step ∷ first) second =
    ap (λ asked. asks_by_step device step ++ asked) (asks-two (device_after_step device step) first second)
    ∙ sym (append_assoc (asks_by_step device step) (asks_by_steps (device_after_step device step) first)
    (asks_by_steps (device_after (device_after_step device step) first) second))

call-asks : (a : AdapterState) (call : Call) (calls : List Call)
    → asks_of_calls a (call ∷ calls) ≡ asks_of_call a call ++ asks_of_calls (after_call a call) calls
call-asks a call calls =
    let device : Device = a.state.shared.objects in
    let events : List Event = (call_meaning a call).events in
    let later : List DeviceStep = steps_of_calls (after_call a call) calls in
    ap (asks_by_steps device) (steps-two a.state events (events_of_calls (after_call a call) calls))
    ∙ (asks-two device (device_steps a.state events) later
    ∙ (ap (λ d. asks_by_steps device (device_steps a.state events) ++ asks_by_steps d later)
    (sym (events-end a.state events))
    ∙ ap (λ es. asks_by_steps device (device_steps a.state es) ++ asks_of_calls (after_call a call) calls)
    (sym (append-nil events))))

pub calls-ask : (a : AdapterState) (calls : List Call) → asks_of_calls a calls ≡ asks_call_by_call a calls
calls-ask a [] = refl
calls-ask a (call ∷ calls) =
    call-asks a call calls ∙ ap (λ asked. asks_of_call a call ++ asked) (calls-ask (after_call a call) calls)

-- ---- commands that ask

-- The first list is the second one without some of its commands.
data Thins : List LedgerEvent → List LedgerEvent → Type 0 where
  Ended : Thins [] []
  Kept : {xs ys : List LedgerEvent} → (command : LedgerCommand) (reply : List ℕ) → Thins xs ys
      → Thins (Executed command reply ∷ xs) (Executed command reply ∷ ys)
  Left_out : {xs ys : List LedgerEvent} → (command : LedgerCommand) (reply : List ℕ) → Thins xs ys
      → Thins xs (Executed command reply ∷ ys)
  Freed_too : {xs ys : List LedgerEvent} → (originator : ℕ) → Thins xs ys
      → Thins (Freed originator ∷ xs) (Freed originator ∷ ys)

thins-two : {xs ys vs ws : List LedgerEvent} → Thins xs ys → Thins vs ws → Thins (xs ++ vs) (ys ++ ws)
thins-two Ended later = later
thins-two (Kept command reply thins) later = Kept command reply (thins-two thins later)
thins-two (Left_out command reply thins) later = Left_out command reply (thins-two thins later)
thins-two (Freed_too originator thins) later = Freed_too originator (thins-two thins later)

thins-until : {xs ys : List LedgerEvent} (originator : ℕ) (IsSo : LedgerCommand → Type 0) → Thins xs ys
    → UntilFreed originator IsSo ys → UntilFreed originator IsSo xs
thins-until originator IsSo Ended is = tt
thins-until originator IsSo (Kept command reply thins) is = (is.0, thins-until originator IsSo thins is.1)
thins-until originator IsSo (Left_out command reply thins) is = thins-until originator IsSo thins is.1
thins-until originator IsSo (Freed_too freed thins) is = λ other. thins-until originator IsSo thins (is other)

thins-apart : {xs ys : List LedgerEvent} → Thins xs ys → HasNoDoubles ys → HasNoDoubles xs
thins-apart Ended is = tt
thins-apart (Kept command reply thins) is =
    (thins-until command.originator (λ other. command.number ≢ other.number) thins is.0, thins-apart thins is.1)
thins-apart (Left_out command reply thins) is = thins-apart thins is.1
thins-apart (Freed_too originator thins) is = thins-apart thins is

asking-thins : (asked : List Asked) (events : List LedgerEvent) → Thins (asking_events asked events) events
asking-thins asked [] = Ended
asking-thins [] (Executed command reply ∷ events) = Left_out command reply (asking-thins [] events)
asking-thins (x ∷ more) (Executed command reply ∷ events) = Kept command reply (asking-thins (x ∷ more) events)
asking-thins asked (Freed originator ∷ events) = Freed_too originator (asking-thins asked events)

steps-thin : (device : Device) (steps : List DeviceStep)
    → Thins (asking_journal_by_steps device steps) (journal_by_steps device steps)
steps-thin device [] = Ended
steps-thin device (step ∷ steps) =
    thins-two (asking-thins (asks_by_step device step) (journal_by_step device step))
    (steps-thin (device_after_step device step) steps)

pub asked-once : (a : AdapterState) (calls : List Call)
    → HasNoDoubles (asking_journal_by_steps a.state.shared.objects (steps_of_calls a calls))
asked-once a calls =
    thins-apart (steps-thin a.state.shared.objects (steps_of_calls a calls)) (commands-once a calls)
