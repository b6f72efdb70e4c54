-- What the adapter does with the bytes of one peer, with a new peer, and with calls for others.
use Rattle.std.proofs.Common.{◌≡◌, ℕ, ◌+◌, ◌<◌, ◌≤◌, ◌^◌, inl, inr, Bool, true, false, not, cond, eqb, ltb}
use Rattle.std.proofs.Common.{Some, None, List, [], ◌∷◌, ◌++◌, length, take, map, fold, Ok}
use Rattle.std.proofs.Common.{refl, ap, sym, ◌∙◌, subst, arith, append_assoc, append-nil, length-append, ltb-false}
use Rattle.std.proofs.lemmas.Bool.{eq-eqb, le-ltb, cases_lt}
use Rattle.std.proofs.lemmas.List.{take_all}
use Rattle.cip_bytes.specs.Numbers.{le, number_at}
use Rattle.cip_bytes.specs.declared.protocol.Command.TheVariants.{RegisterSession}
use Rattle.cip_bytes.specs.declared.protocol.TheConstants.{UNCONNECTED_LIMIT}
use Rattle.cip_message.specs.PathReading.{path_of, class_of, instance_of, attribute_of, member_of, whole_of, segment_of}
use Rattle.cip_message.specs.Request.{Request, request_of}
use Rattle.cip_message.specs.declared.ledger_services.TheConstants as services
use Rattle.cip_ledger.specs.Device.{exec_device, run, owned_standing}
use Rattle.cip_ledger.specs.Runs.{Request as LedgerRequest, next, node_after}
use Rattle.cip_ledger.proofs.Devices.{run-ends}
use Rattle.cip_owner.specs.Owned.{OwnedState}
use Rattle.cip_message.specs.LedgerCommand.{Command}
use Rattle.cip_commander.specs.CommanderRule.{do_once}
use Rattle.enip_reconnect.specs.Worlds.{Event, Other, BothEnds, ends_step}
use Rattle.enip_wire.specs.Bodies.{rr_body_bytes, rr_body_of}
use Rattle.enip_wire.specs.Frames.{Frame, frame, IsFrame, end_after}
use Rattle.enip_wire.specs.Stream.{parsed, held_and_taken, bytes_taken, cleared}
use Rattle.enip_wire.specs.Stream.Parsed.{Incomplete}
use Rattle.enip_wire.proofs.FrameLemmas.{length-frame, number_at-append, number_at-frame, end_after-within}
use Rattle.enip_wire.proofs.PieceLemmas.{parsed-written}
use Rattle.enip_wire.proofs.WriteLemmas.{rr_again}
use Rattle.enip_wire.proofs.RunningLemmas.{IsRunning, bytes_taken-short, bytes_taken-long, bytes_taken-within}
use Rattle.enip_wire.proofs.RunningLemmas.{parsed-running}
use Rattle.enip_adapter.specs.declared.peer.Rights.TheVariants.{Write}
use Rattle.enip_adapter.specs.declared.peer.Session.{Session}
use Rattle.enip_adapter.specs.declared.shared.Shared.{Shared}
use Rattle.enip_adapter.specs.declared.no_reply_reason.NoReplyReason.TheVariants.{NoFrame, NotServed}
use Rattle.enip_adapter.specs.Calls.{AdapterState, Held, Call, Meaning, call_meaning, after_call, call_answer}
use Rattle.enip_adapter.specs.declared.adapter.Full.TheVariants.{Places, Handles}
use Rattle.enip_adapter.specs.Calls.{after_meaning, answer_of, bytes_held, bytes_found, events_of_parsed}
use Rattle.enip_adapter.specs.Calls.Call.{Feeds, Ends_peer}
use Rattle.enip_adapter.specs.Commands.{command_served}
use Rattle.enip_adapter.specs.DeviceRuns.{device_requests, requests_of_calls, requests_by_session, requests_in_frame}
use Rattle.enip_adapter.specs.DeviceRuns.{requests_in_rr, requests_by_route, objects_after, objects_answer, IsNoWrite}
use Rattle.enip_adapter.specs.Lookup.{with_first}
use Rattle.enip_adapter.specs.RegisterSession.{version_one}
use Rattle.enip_adapter.specs.Replies.{Served, Reply as replies, leaving, answered, replied}
use Rattle.enip_adapter.specs.Runs.{IsForOther}
use Rattle.enip_adapter.specs.SendRRData.{Executes, route_of, route_by_request, route_by_path, routed_to, reply_to_body}
use Rattle.enip_adapter.specs.Turn.{State, Answer, TurnResult, turned, turn, session_of, serve_found, at_moment}
use Rattle.enip_adapter.specs.Turn.{session_after, shared_after, sent, new_session, begun, with_peer}
use Rattle.enip_adapter.specs.Turn.Event.{At, Framed}
use Rattle.enip_adapter.specs.Turn.Output.{NoReply, Sends, Begins, Refuses}
use Rattle.enip_adapter.proofs.CutLemmas.{feed-open, shown}
use Rattle.enip_adapter.proofs.ListLemmas.{first_with-number, first_with-set, first_with-behind, next-none}
use Rattle.enip_adapter.proofs.ListLemmas.{numbers-none}
use Rattle.enip_adapter.proofs.DeviceLemmas.{calls-run}
use Rattle.enip_adapter.proofs.PeerLemmas.{at_state, held-call, session-call}
use Rattle.enip_adapter.proofs.SoundLemmas.{IsSound, entry-of, no-entry}
use Rattle.enip_client.specs.Frames.{register_frame, request_frame, sent as sent_frame}
use Rattle.enip_reconnect.specs.World.{begins_peer}

-- The adapter serves this peer: it has this session, which is not closed, and holds these bytes of its next frame.
pub record Holds (a : AdapterState) (peer : ℕ) (session : Session) (bytes : List ℕ) : Type 0 where
  pub found : session_of a.state peer ≡ Some session
  pub alive : session.closed ≡ false
  pub held : bytes_held a.held peer ≡ bytes

-- Calls for others leave it.
pub holds-other : (a : AdapterState) (call : Call) (peer : ℕ) (session : Session) (bytes : List ℕ) →
    IsForOther peer call → Holds a peer session bytes → Holds (after_call a call) peer session bytes
holds-other a call peer session bytes other holds = record {
  found = session-call peer session a call other holds.found;
  alive = holds.alive;
  held = held-call peer a call other ∙ holds.held;
}

-- ---- bytes of a frame

-- The length of a frame is known from its first four bytes.
length-known : (bytes rest : List ℕ) (f : Frame) → bytes ++ rest ≡ frame f → IsFrame f → 24 ≤ length bytes →
    end_after (number_at 2 2 bytes) ≡ length bytes + length rest
length-known bytes rest f is ok long =
    let says : number_at 2 2 bytes ≡ f.header.length =
    sym (number_at-append bytes rest (omega (arith, long)))
    ∙ (ap (number_at 2 2) (is ∙ sym (append-nil (frame f))) ∙ number_at-frame f [] ok) in
    let size : length bytes + length rest ≡ 24 + f.header.length =
    sym (length-append bytes rest) ∙ (ap length is ∙ length-frame f ok) in
    ap end_after says ∙ (end_after-within f.header.length ok.within ∙ sym size)

-- All bytes up to the end of a frame are taken.
taken-within : (held piece rest : List ℕ) (f : Frame) → held ++ (piece ++ rest) ≡ frame f → IsFrame f →
    bytes_taken held piece ≡ length piece
taken-within held piece rest f is ok =
    elim (cases_lt (length held + length piece) 24) [
      | inl short ↦ bytes_taken-short held piece short
      | inr long ↦
          let size : length (held ++ piece) ≡ length held + length piece = length-append held piece in
          let end : end_after (number_at 2 2 (held ++ piece)) ≡ length (held ++ piece) + length rest =
          length-known (held ++ piece) rest f (append_assoc held piece rest ∙ is) ok (omega (arith, size, long)) in
          bytes_taken-long held piece long ∙ omega (arith, size, end)
    ]

-- Before the end of a frame more bytes are needed.
part-running : (bytes rest : List ℕ) (f : Frame) → bytes ++ rest ≡ frame f → IsFrame f → 0 < length rest →
    IsRunning bytes
part-running bytes rest f is ok some = record {
  before = λ long. omega (arith, some, length-known bytes rest f is ok long);
}

-- An adapter that only waits: the moment has passed, and these bytes of the peer are held.
abbrev waiting : AdapterState → ℕ → ℕ → List ℕ → AdapterState
waiting a now peer bytes = record {
  state = at_state a.state now;
  held = with_first (λ (h : Held). h.peer) peer (record { peer = peer; bytes = bytes }) a.held;
}

-- A piece is taken up to the end of a frame.
meaning-taken : (a : AdapterState) (now peer : ℕ) (session : Session) (held piece : List ℕ) →
    Holds a peer session held → bytes_taken held piece ≡ length piece →
    call_meaning a (Feeds now peer piece) ≡ shown a.held peer now (held ++ piece) (length piece)
meaning-taken a now peer session held piece holds all =
    feed-open a now peer piece (record { session = session; found = holds.found; alive = holds.alive })
    ∙ (ap (λ h. shown a.held peer now (held_and_taken h piece) (bytes_taken h piece)) holds.held
    ∙ (ap (λ n. shown a.held peer now (held ++ take n piece) n) all
    ∙ ap (λ bytes. shown a.held peer now (held ++ bytes) (length piece)) (take_all (length piece) piece (omega arith))))

-- What is held of a peer after its bytes are replaced.
held-set : (a : AdapterState) (peer : ℕ) (session : Session) (bytes : List ℕ) → IsSound a →
    session_of a.state peer ≡ Some session →
    bytes_held (with_first (λ (h : Held). h.peer) peer (record { peer = peer; bytes = bytes }) a.held) peer ≡ bytes
held-set a peer session bytes sound found =
    let entry = entry-of a peer session sound found in
    ap bytes_found (first_with-set (λ (h : Held). h.peer) peer entry.0 (record { peer = peer; bytes = bytes }) a.held
    entry.1 refl)

-- A part of a frame arrives: it is taken and kept, and nothing else happens.
pub record TakesPart (a : AdapterState) (now peer : ℕ) (session : Session) (held piece : List ℕ) : Type 0 where
  pub taken : (call_meaning a (Feeds now peer piece)).taken ≡ length piece
  pub answer : ◌≡◌ {A = Answer} (call_answer a (Feeds now peer piece))
      (record { output = NoReply NoFrame; close = false })
  pub device : (after_call a (Feeds now peer piece)).state.shared.objects ≡ a.state.shared.objects
  pub requests : requests_of_calls a (Feeds now peer piece ∷ []) ≡ []
  pub holds : Holds (after_call a (Feeds now peer piece)) peer session (held ++ piece)

part-by : (a : AdapterState) (now peer : ℕ) (session : Session) (held piece : List ℕ) → IsSound a →
    Holds a peer session held → bytes_taken held piece ≡ length piece → parsed (held ++ piece) ≡ Incomplete →
    TakesPart a now peer session held piece
part-by a now peer session held piece sound holds all none =
    let left : Meaning = record {
      events = At now ∷ [];
      taken = length piece;
      held = with_first (λ (h : Held). h.peer) peer (record { peer = peer; bytes = held ++ piece }) a.held;
      dropped = false;
    } in
    let meant : call_meaning a (Feeds now peer piece) ≡ left =
    meaning-taken a now peer session held piece holds all
    ∙ ap (λ x. (let m : Meaning = record left {
      events = At now ∷ events_of_parsed peer x;
      held = with_first (λ (h : Held). h.peer) peer (record { peer = peer; bytes = cleared x (held ++ piece) }) a.held;
    } in m)) none in
    let after : after_call a (Feeds now peer piece) ≡ waiting a now peer (held ++ piece) =
    ap (after_meaning a.state) meant in
    record {
      taken = ap (λ (m : Meaning). m.taken) meant;
      answer = ap (answer_of a.state) meant;
      device = ap (λ (x : AdapterState). x.state.shared.objects) after;
      requests = ap (λ (m : Meaning). device_requests a.state (m.events ++ [])) meant;
      holds = record {
        found = ap (λ (x : AdapterState). session_of x.state peer) after ∙ holds.found;
        alive = holds.alive;
        held = ap (λ (x : AdapterState). bytes_held x.held peer) after
            ∙ held-set a peer session (held ++ piece) sound holds.found;
      };
    }

pub takes-part : (a : AdapterState) (now peer : ℕ) (session : Session) (held piece rest : List ℕ) (f : Frame) →
    IsSound a → Holds a peer session held → IsFrame f → held ++ (piece ++ rest) ≡ frame f → 0 < length rest →
    TakesPart a now peer session held piece
takes-part a now peer session held piece rest f sound holds ok is some =
    part-by a now peer session held piece sound holds (taken-within held piece rest f is ok)
    (parsed-running (held ++ piece) (part-running (held ++ piece) rest f (append_assoc held piece rest ∙ is) ok some))

-- No bytes arrive.
pub takes-nothing : (a : AdapterState) (now peer : ℕ) (session : Session) (held : List ℕ) → IsSound a →
    Holds a peer session held → TakesPart a now peer session held []
takes-nothing a now peer session held sound holds =
    let running : IsRunning held = subst IsRunning holds.held (sound.ready peer session holds.found holds.alive) in
    part-by a now peer session held [] sound holds (omega (arith, bytes_taken-within held []))
    (ap parsed (append-nil held) ∙ parsed-running held running)

-- The rest of a frame arrives: it is taken, and the frame is served at this moment.
pub record TakesFrame (a : AdapterState) (now peer : ℕ) (session : Session) (piece : List ℕ) (f : Frame)
    (served : Served) : Type 0 where
  pub taken : (call_meaning a (Feeds now peer piece)).taken ≡ length piece
  pub state : (after_call a (Feeds now peer piece)).state
      ≡ (turn (turn a.state (At now)).state (Framed peer f)).state
  pub answer : ◌≡◌ {A = Answer} (call_answer a (Feeds now peer piece))
      (record { output = sent served.reaction.answer; close = served.reaction.close })
  pub shared : (after_call a (Feeds now peer piece)).state.shared ≡ shared_after session served
  pub found : session_of (after_call a (Feeds now peer piece)).state peer ≡ Some (session_after session served)
  pub held : bytes_held (after_call a (Feeds now peer piece)).held peer ≡ []
  pub requests : requests_of_calls a (Feeds now peer piece ∷ [])
      ≡ requests_in_frame (at_moment a.state.shared now) session f

abbrev served_turn : State → ℕ → (Session → Served) → Session → TurnResult
served_turn s peer serve session =
    turned (record s {
      shared = shared_after session (serve session);
      peers = with_first (λ (p : Session). p.handle) peer (session_after session (serve session)) s.peers;
    }) (sent (serve session).reaction.answer) (serve session).reaction.close

pub takes-frame : (a : AdapterState) (now peer : ℕ) (session : Session) (held piece : List ℕ) (f : Frame) →
    IsSound a → Holds a peer session held → IsFrame f → held ++ piece ≡ frame f →
    TakesFrame a now peer session piece f (command_served (at_moment a.state.shared now) session f)
takes-frame a now peer session held piece f sound holds ok is =
    let s : State = at_state a.state now in
    let serve : Session → Served = λ p. command_served s.shared p f in
    let all : bytes_taken held piece ≡ length piece =
    taken-within held piece [] f (ap (λ p. held ++ p) (append-nil piece) ∙ is) ok in
    let left : Meaning = record {
      events = At now ∷ Framed peer f ∷ [];
      taken = length piece;
      held = with_first (λ (h : Held). h.peer) peer (record { peer = peer; bytes = [] }) a.held;
      dropped = false;
    } in
    let meant : call_meaning a (Feeds now peer piece) ≡ left =
    meaning-taken a now peer session held piece holds all
    ∙ (ap (λ bytes. shown a.held peer now bytes (length piece)) is
    ∙ ap (λ x. (let m : Meaning = record left {
      events = At now ∷ events_of_parsed peer x;
      held = with_first (λ (h : Held). h.peer) peer (record { peer = peer; bytes = cleared x (frame f) }) a.held;
    } in m)) (parsed-written f ok)) in
    let turns : turn s (Framed peer f) ≡ served_turn s peer serve session =
    ap (serve_found s peer serve) holds.found
    ∙ ap (λ b. cond b (turned s (NoReply NotServed) true) (served_turn s peer serve session)) holds.alive in
    let after : after_call a (Feeds now peer piece) ≡ after_meaning a.state left = ap (after_meaning a.state) meant in
    let state : (after_call a (Feeds now peer piece)).state ≡ (served_turn s peer serve session).state =
    ap (λ (x : AdapterState). x.state) after ∙ ap (λ (t : TurnResult). t.state) turns in
    record {
      taken = ap (λ (m : Meaning). m.taken) meant;
      state = ap (λ (x : AdapterState). x.state) after;
      answer = ap (answer_of a.state) meant ∙ ap (λ (t : TurnResult). t.answer) turns;
      shared = ap (λ (x : State). x.shared) state;
      found = ap (λ (x : State). session_of x peer) state
          ∙ first_with-set (λ (p : Session). p.handle) peer session (session_after session (serve session)) s.peers
          holds.found (first_with-number (λ (p : Session). p.handle) peer session s.peers holds.found);
      held = ap (λ (x : AdapterState). bytes_held x.held peer) after ∙ held-set a peer session [] sound holds.found;
      requests = ap (λ (m : Meaning). device_requests a.state (m.events ++ [])) meant
          ∙ (append-nil _ ∙ (ap (requests_by_session s.shared f) holds.found
          ∙ ap (λ b. cond b [] (requests_in_frame s.shared session f)) holds.alive));
    }

-- ---- the two frames that a client of ours sends

abbrev pub registered_session : ℕ → Session
registered_session peer =
    record { handle = peer; registered = true; closed = false; rights = Write; group = None }

-- The frame that answers a RegisterSession: the same command and context, and the session that is registered.
abbrev pub register_reply : ℕ → ℕ → Frame
register_reply peer number = sent_frame RegisterSession peer number version_one

-- RegisterSession on a session that is not registered.
pub record Registers (a : AdapterState) (now peer : ℕ) (piece : List ℕ) (number : ℕ) : Type 0 where
  pub taken : (call_meaning a (Feeds now peer piece)).taken ≡ length piece
  pub answer : ◌≡◌ {A = Answer} (call_answer a (Feeds now peer piece))
      (record { output = Sends (frame (register_reply peer number)); close = false })
  pub device : (after_call a (Feeds now peer piece)).state.shared.objects ≡ a.state.shared.objects
  pub requests : requests_of_calls a (Feeds now peer piece ∷ []) ≡ []
  pub holds : Holds (after_call a (Feeds now peer piece)) peer (registered_session peer) []

register-served : (shared : Shared) (peer number : ℕ) →
    command_served shared (new_session peer Write None) (register_frame number)
    ≡ leaving shared (record {
      registered = true;
      answer = replies.Sends (frame (register_reply peer number));
      close = false;
    })
unfolding command_served
register-served shared peer number = refl

pub is-register : (number : ℕ) → IsFrame (register_frame number)
is-register number = record {
  fields = record {
    command = omega arith;
    data_length = omega arith;
    session = omega arith;
    status = omega arith;
    context = refl;
    options = omega arith;
  };
  counted = refl;
  within = omega arith;
}

pub registers-peer : (a : AdapterState) (now peer : ℕ) (held piece : List ℕ) (number : ℕ) → IsSound a →
    Holds a peer (new_session peer Write None) held → held ++ piece ≡ frame (register_frame number) →
    Registers a now peer piece number
registers-peer a now peer held piece number sound holds is =
    let f : Frame = register_frame number in
    let shared : Shared = at_moment a.state.shared now in
    let served : Served = leaving shared (record {
      registered = true;
      answer = replies.Sends (frame (register_reply peer number));
      close = false;
    }) in
    let takes : TakesFrame a now peer (new_session peer Write None) piece f served =
    subst (TakesFrame a now peer (new_session peer Write None) piece f) (register-served shared peer number)
    (takes-frame a now peer (new_session peer Write None) held piece f sound holds (is-register number) is) in
    record {
      taken = takes.taken;
      answer = takes.answer;
      device = ap (λ (x : Shared). x.objects) takes.shared;
      requests = takes.requests;
      holds = record { found = takes.found; alive = refl; held = takes.held };
    }

-- Do_Once goes to the device, by its path.
path_of-ledger : path_of (0x20 ∷ 0x65 ∷ 0x24 ∷ 1 ∷ [])
    ≡ Ok (record { class = 0x65; instance = 1; attribute = None; member = None })
unfolding path_of class_of instance_of attribute_of member_of whole_of segment_of
path_of-ledger = refl

request_of-content : (service : ℕ) (content : List ℕ) →
    request_of (service ∷ 2 ∷ 0x20 ∷ 0x65 ∷ 0x24 ∷ 1 ∷ content)
    ≡ Ok (record { service = service; path = 0x20 ∷ 0x65 ∷ 0x24 ∷ 1 ∷ []; «data» = content })
unfolding request_of
request_of-content service content =
    let long : ltb (length (0x20 ∷ 0x65 ∷ 0x24 ∷ 1 ∷ content)) 4 ≡ false = le-ltb _ _ (omega arith) in
    rw long refl

pub route_of-do_once : (command : Command) → route_of (do_once command) ≡ Executes
route_of-do_once command =
    let content : List ℕ =
    le 8 command.life ++ (le 8 command.originator ++ (le 4 command.number ++ command.request)) in
    let whole : Request =
    record { service = services.DO_ONCE; path = 0x20 ∷ 0x65 ∷ 0x24 ∷ 1 ∷ []; «data» = content } in
    ap route_by_request (request_of-content services.DO_ONCE content) ∙ ap (route_by_path whole) path_of-ledger

-- A request of a registered session that goes to the device.
pub request-served : (shared : Shared) (peer number : ℕ) (request : List ℕ) → 2 ≤ length request →
    length request ≤ UNCONNECTED_LIMIT → route_of request ≡ Executes →
    command_served shared (registered_session peer) (request_frame peer number request)
    ≡ leaving (record shared { objects = (exec_device shared.objects UNCONNECTED_LIMIT request).after })
    (answered (registered_session peer)
    (frame (request_frame peer number (exec_device shared.objects UNCONNECTED_LIMIT request).answer)))
unfolding command_served
request-served shared peer number request least small routes =
    let session : Session = registered_session peer in
    let f : Frame = request_frame peer number request in
    otherwise (not (eqb peer peer)) _ _ (ap not (eq-eqb peer peer refl))
    ∙ (ap (reply_to_body shared session f) (rr_again request (omega (arith, small)))
    ∙ (otherwise (ltb (length request) 2) _ _ (le-ltb (length request) 2 least)
    ∙ ap (λ route. leaving (routed_to shared session request route).shared
    (replied session f.header (rr_body_bytes (routed_to shared session request route).reply))) routes))
  where
    otherwise : {A : Type 0} (b : Bool) (x y : A) → b ≡ false → cond b x y ≡ y
    otherwise true x y e = absurd (cc)
    otherwise false x y e = refl

-- Its one request is this one.
request-reached : (shared : Shared) (peer number : ℕ) (request : List ℕ) → 2 ≤ length request →
    length request ≤ UNCONNECTED_LIMIT → route_of request ≡ Executes →
    requests_in_frame shared (registered_session peer) (request_frame peer number request)
    ≡ (UNCONNECTED_LIMIT, request) ∷ []
request-reached shared peer number request least small routes =
    ap (λ b. cond (not b) [] (requests_in_rr Write (rr_body_of (rr_body_bytes request)))) (eq-eqb peer peer refl)
    ∙ (ap (requests_in_rr Write) (rr_again request (omega (arith, small)))
    ∙ (ap (λ b. cond b [] (requests_by_route Write request (route_of request))) (le-ltb (length request) 2 least)
    ∙ ap (requests_by_route Write request) routes))

-- A request's frame is one.
pub is-request : (peer number : ℕ) (request : List ℕ) → peer < 2 ^ 32 → length request ≤ UNCONNECTED_LIMIT →
    IsFrame (request_frame peer number request)
is-request peer number request below small =
    let size : length (rr_body_bytes request) ≡ 16 + length request = omega (arith, ap length (append-nil request)) in
    record {
      fields = record {
        command = omega arith;
        data_length = omega (arith, size, small);
        session = below;
        status = omega arith;
        context = refl;
        options = omega arith;
      };
      counted = refl;
      within = omega (arith, size, small);
    }

-- A request to the device on a registered session.
pub record Reaches (a : AdapterState) (now peer : ℕ) (piece : List ℕ) (number : ℕ) (request : List ℕ) : Type 0 where
  pub taken : (call_meaning a (Feeds now peer piece)).taken ≡ length piece
  pub answer : ◌≡◌ {A = Answer} (call_answer a (Feeds now peer piece)) (record {
    output = Sends (frame (request_frame peer number
        (exec_device a.state.shared.objects UNCONNECTED_LIMIT request).answer));
    close = false;
  })
  pub device : (after_call a (Feeds now peer piece)).state.shared.objects
      ≡ (exec_device a.state.shared.objects UNCONNECTED_LIMIT request).after
  pub requests : requests_of_calls a (Feeds now peer piece ∷ []) ≡ (UNCONNECTED_LIMIT, request) ∷ []
  pub holds : Holds (after_call a (Feeds now peer piece)) peer (registered_session peer) []

pub reaches-device : (a : AdapterState) (now peer : ℕ) (held piece : List ℕ) (number : ℕ) (request : List ℕ) →
    IsSound a → peer < 2 ^ 32 → Holds a peer (registered_session peer) held →
    2 ≤ length request → length request ≤ UNCONNECTED_LIMIT → route_of request ≡ Executes →
    held ++ piece ≡ frame (request_frame peer number request) → Reaches a now peer piece number request
reaches-device a now peer held piece number request sound below holds least small routes is =
    let f : Frame = request_frame peer number request in
    let shared : Shared = at_moment a.state.shared now in
    let served : Served =
    leaving (record shared { objects = (exec_device shared.objects UNCONNECTED_LIMIT request).after })
    (answered (registered_session peer)
    (frame (request_frame peer number (exec_device shared.objects UNCONNECTED_LIMIT request).answer))) in
    let takes : TakesFrame a now peer (registered_session peer) piece f served =
    subst (TakesFrame a now peer (registered_session peer) piece f)
    (request-served shared peer number request least small routes)
    (takes-frame a now peer (registered_session peer) held piece f sound holds
    (is-request peer number request below small) is) in
    record {
      taken = takes.taken;
      answer = takes.answer;
      device = ap (λ (x : Shared). x.objects) takes.shared;
      requests = takes.requests ∙ request-reached shared peer number request least small routes;
      holds = record { found = takes.found; alive = refl; held = takes.held };
    }

-- ---- peers that begin and end

-- A peer begins: no peer had its handle.
pub record BeginsAs (a : AdapterState) (peer : ℕ) : Type 0 where
  pub below : peer < 2 ^ 32
  pub fresh : session_of a.state peer ≡ None
  pub device : (after_call a begins_peer).state.shared.objects ≡ a.state.shared.objects
  pub holds : Holds (after_call a begins_peer) peer (new_session peer Write None) []

-- The device after a call without a request.
pub device-same : (a : AdapterState) (call : Call) → IsNoWrite call → requests_of_calls a (call ∷ []) ≡ [] →
    (after_call a call).state.shared.objects ≡ a.state.shared.objects
device-same a call free none =
    calls-run a (call ∷ []) (free, tt) ∙ ap (λ requests. (run a.state.shared.objects requests).after) none

-- By whether all slots are taken, and whether all handles were assigned.
abbrev begun_by : State → Bool → Bool → TurnResult
begun_by s full late = cond full (turned s (Refuses Places) false)
    (cond late (turned s (Refuses Handles) false) (turned (with_peer s Write None) (Begins s.next_handle) false))

-- The handle that was assigned, and the session of the peer.
record IsAssigned (s : State) (peer : ℕ) (t : TurnResult) : Type 0 where
  next : s.next_handle ≡ peer
  below : peer < 2 ^ 32
  found : session_of s peer ≡ None → session_of t.state peer ≡ Some (new_session peer Write None)

assigned-by : (s : State) (peer : ℕ) (full late : Bool) → ltb 0xffffffff s.next_handle ≡ late →
    (begun_by s full late).answer.output ≡ Begins peer → IsAssigned s peer (begun_by s full late)
assigned-by s peer true late e begins = absurd (cc)
assigned-by s peer false true e begins = absurd (cc)
assigned-by s peer false false e begins =
    let same : s.next_handle ≡ peer = (let f : Begins s.next_handle ≡ Begins peer = begins in cc) in
    record {
      next = same;
      below = omega (arith, same, ltb-false 0xffffffff s.next_handle e);
      found = λ none. first_with-behind (λ (p : Session). p.handle) peer s.peers _ none
          ∙ (ap (λ b. cond b (Some (new_session s.next_handle Write None)) None) (eq-eqb s.next_handle peer same)
          ∙ ap (λ n. Some (new_session n Write None)) same);
    }

pub begins-as : (a : AdapterState) (peer : ℕ) → IsSound a → (call_answer a begins_peer).output ≡ Begins peer →
    BeginsAs a peer
begins-as a peer sound output =
    let is : IsAssigned a.state peer (begun a.state Write None) =
    assigned-by a.state peer (not (ltb (length a.state.peers) a.state.places)) (ltb 0xffffffff a.state.next_handle) refl
    output in
    let fresh : session_of a.state peer ≡ None =
    subst (λ n. session_of a.state n ≡ None) is.next
    (numbers-none (λ (p : Session). p.handle) a.state.next_handle a.state.peers
    (next-none a.state.next_handle _ sound.drawn)) in
    record {
      below = is.below;
      fresh = fresh;
      device = device-same a begins_peer tt refl;
      holds = record {
        found = is.found fresh;
        alive = refl;
        held = held-call peer a begins_peer tt ∙ ap bytes_found (no-entry a peer sound.same fresh);
      };
    }

-- A peer ends, and another keeps what it has (`holds-other`). The device is as it was.
pub device-ended : (a : AdapterState) (peer : ℕ) →
    (after_call a (Ends_peer peer)).state.shared.objects ≡ a.state.shared.objects
device-ended a peer = device-same a (Ends_peer peer) tt refl

-- ---- calls for others

-- The device after a call that is no write of its own: a run of the requests in its frames.
pub device-run : (a : AdapterState) (call : Call) → IsNoWrite call → (after_call a call).state.shared.objects
    ≡ node_after objects_after objects_answer owned_standing a.state.shared.objects (requests_of_calls a (call ∷ []))
device-run a call free =
    calls-run a (call ∷ []) (free, tt) ∙ run-ends a.state.shared.objects (requests_of_calls a (call ∷ []))

-- Such a run, as events of another at both ends: the device alone changes.
abbrev pub others_requests : List LedgerRequest → List Event
others_requests requests = map (λ request. Other request.0 request.1) requests

pub others-run : (ends : BothEnds OwnedState) (requests : List LedgerRequest) →
    fold (ends_step objects_after objects_answer owned_standing) ends (others_requests requests)
    ≡ record ends { device = node_after objects_after objects_answer owned_standing ends.device requests }
others-run ends [] = refl
others-run ends (request ∷ requests) =
    others-run (record ends { device = next objects_after objects_answer owned_standing ends.device request }) requests
