-- A whole frame, fed at once to an end that holds no bytes.
use Rattle.std.proofs.Common.{◌≡◌, ℕ, ◌+◌, ◌<◌, ◌≤◌, ◌^◌, Bool, true, false, cond, eqb, Some, None, List, [], ◌∷◌, length, refl, ap, sym, ◌∙◌, append-nil, arith}
use Rattle.std.proofs.lemmas.Bool.{eq-eqb}
use Rattle.std.proofs.lemmas.List.{take_all}
use Rattle.cip_bytes.specs.declared.protocol.TheConstants.{LARGEST_CONNECTION_SIZE}
use Rattle.cip_bytes.specs.Protocol.{command_number}
use Rattle.cip_bytes.specs.declared.protocol.Command.{Command}
use Rattle.cip_bytes.specs.declared.protocol.Command.TheVariants as commands
use Rattle.enip_wire.specs.Bodies.{rr_body_bytes, unit_body_bytes}
use Rattle.enip_wire.specs.Frames.{Frame, frame, IsFrame}
use Rattle.enip_wire.specs.Stream.{parsed, held_and_taken, bytes_taken, cleared}
use Rattle.enip_wire.specs.Stream.{Parsed}
use Rattle.enip_wire.proofs.PieceLemmas.{bytes_taken-frame, parsed-written}
use Rattle.enip_adapter.specs.declared.peer.Session.{Session}
use Rattle.enip_adapter.specs.declared.no_reply_reason.NoReplyReason.TheVariants.{NotServed}
use Rattle.enip_adapter.specs.Calls.{AdapterState, Held, Meaning, call_meaning, after_call, call_answer, after_meaning, answer_of, bytes_held, bytes_found, piece_to, piece_meaning, dropped_piece, at_a_moment, events_of_parsed}
use Rattle.enip_adapter.specs.Calls.Call.{Feeds}
use Rattle.enip_adapter.specs.Commands.{command_served}
use Rattle.enip_adapter.specs.Lookup.{first_with, with_first}
use Rattle.enip_adapter.specs.Replies.{Served}
use Rattle.enip_adapter.specs.Turn.{State, TurnResult, turned, session_of, session_after, shared_after, serve_found, sent, at_moment}
use Rattle.enip_adapter.specs.Turn.Event.{At, Framed}
use Rattle.enip_adapter.specs.Turn.Output.{NoReply}
use Rattle.enip_adapter.proofs.ListLemmas.{first_with-number, first_with-set}
use Rattle.enip_adapter.proofs.PeerLemmas.{at_state}
use Rattle.enip_client.specs.Client.{ClientState, Fed, fed, fed_unless}
use Rattle.enip_client.specs.Frames.{sent as framed}
use Rattle.enip_client.specs.Hears.{hears, hears_parsed}

length-unit_body_bytes : (id : ℕ) (bytes : List ℕ) → length (unit_body_bytes id bytes) ≡ 20 + length bytes
length-unit_body_bytes id bytes = omega (arith, ap length (append-nil bytes))

length-rr_body_bytes : (bytes : List ℕ) → length (rr_body_bytes bytes) ≡ 16 + length bytes
length-rr_body_bytes bytes = omega (arith, ap length (append-nil bytes))

-- the number of a command has 16 bits
command-fits : (command : Command) → command_number command < 2 ^ 16
command-fits commands.Nop = omega arith
command-fits commands.ListServices = omega arith
command-fits commands.ListIdentity = omega arith
command-fits commands.ListInterfaces = omega arith
command-fits commands.RegisterSession = omega arith
command-fits commands.UnRegisterSession = omega arith
command-fits commands.SendRRData = omega arith
command-fits commands.SendUnitData = omega arith

-- a frame that the client's calls lend is valid
pub is_framed : (command : Command) (session number : ℕ) (body : List ℕ) → session < 2 ^ 32 →
    length body ≤ 65511 → IsFrame (framed command session number body)
is_framed command session number body s l = record {
  fields = record {
    command = command-fits command;
    data_length = omega arith;
    session = s;
    status = omega arith;
    context = refl;
    options = omega arith;
  };
  counted = refl;
  within = l;
}

pub is_unit : (session id : ℕ) (bytes : List ℕ) → session < 2 ^ 32 → length bytes ≤ LARGEST_CONNECTION_SIZE →
    IsFrame (framed commands.SendUnitData session 0 (unit_body_bytes id bytes))
is_unit session id bytes s l =
    is_framed commands.SendUnitData session 0 (unit_body_bytes id bytes) s (omega (arith, length-unit_body_bytes id bytes))

pub is_rr : (session number : ℕ) (bytes : List ℕ) → session < 2 ^ 32 → length bytes ≤ LARGEST_CONNECTION_SIZE →
    IsFrame (framed commands.SendRRData session number (rr_body_bytes bytes))
is_rr session number bytes s l =
    is_framed commands.SendRRData session number (rr_body_bytes bytes) s (omega (arith, length-rr_body_bytes bytes))

pub joined-frame : (f : Frame) → IsFrame f → held_and_taken [] (frame f) ≡ frame f
joined-frame f ok =
    let all : bytes_taken [] (frame f) ≡ length (frame f)
    = ap (bytes_taken []) (sym (append-nil (frame f))) ∙ bytes_taken-frame f [] ok in
    take_all (bytes_taken [] (frame f)) (frame f) (omega (arith, all))

-- the client after a whole frame, and what it heard
pub record IsHeardWhole (c : ClientState) (f : Frame) (fed : Fed) : Type 0 where
  pub client : fed.client ≡ record { state = (hears c.state f).state; held = [] }
  pub heard_event : fed.heard_event ≡ (hears c.state f).heard_event

pub client-fed : (c : ClientState) (f : Frame) → c.held ≡ [] → c.state.fault ≡ None → IsFrame f →
    IsHeardWhole c f (fed c (frame f))
client-fed c f blank fine ok =
    let unless : fed c (frame f) ≡ fed_unless c (frame f) None = ap (fed_unless c (frame f)) fine in
    let joined : held_and_taken c.held (frame f) ≡ frame f = ap (λ h. held_and_taken h (frame f)) blank ∙ joined-frame f ok in
    record {
      client = ap (λ (x : Fed). x.client) unless
          ∙ (ap (λ j. (let x : ClientState = record { state = (hears_parsed c.state (parsed j)).state; held = cleared (parsed j) j } in x)) joined
          ∙ ap (λ s. (let x : ClientState = record { state = (hears_parsed c.state s).state; held = cleared s (frame f) } in x)) (parsed-written f ok));
      heard_event = ap (λ (x : Fed). x.heard_event) unless
          ∙ (ap (λ j. (hears_parsed c.state (parsed j)).heard_event) joined
          ∙ ap (λ s. (hears_parsed c.state s).heard_event) (parsed-written f ok));
    }

-- the adapter has this peer, and holds no bytes of it
pub record IsReady (a : AdapterState) (peer : ℕ) (session : Session) : Type 0 where
  pub found : session_of a.state peer ≡ Some session
  pub alive : session.closed ≡ false
  pub blank : bytes_held a.held peer ≡ []

abbrev pub no_bytes : ℕ → Held
no_bytes peer = record { peer = peer; bytes = [] }

-- the result of a session's frame at moment 0
abbrev pub served_at : AdapterState → Session → Frame → Served
served_at a session f = command_served (at_moment a.state.shared 0) session f

-- the adapter after a whole frame, and its answer
pub record IsServed (a : AdapterState) (peer : ℕ) (session : Session) (f : Frame) (served : Served) : Type 0 where
  pub adapter : after_call a (Feeds 0 peer (frame f)) ≡ record {
    state = record a.state {
      shared = shared_after session served;
      peers = with_first (λ p. p.handle) peer (session_after session served) a.state.peers;
    };
    held = with_first (λ h. h.peer) peer (no_bytes peer) a.held;
  }
  pub output : (call_answer a (Feeds 0 peer (frame f))).output ≡ sent served.reaction.answer

abbrev whole_meaning : AdapterState → ℕ → Frame → ℕ → Meaning
whole_meaning a peer f taken = record {
  events = At 0 ∷ Framed peer f ∷ [];
  taken = taken;
  held = with_first (λ h. h.peer) peer (no_bytes peer) a.held;
  dropped = false;
}

abbrev seen_meaning : AdapterState → ℕ → ℕ → Parsed → List ℕ → Meaning
seen_meaning a peer taken s j = record {
  events = At 0 ∷ events_of_parsed peer s;
  taken = taken;
  held = with_first (λ h. h.peer) peer (record { peer = peer; bytes = cleared s j }) a.held;
  dropped = false;
}

pub whole : (a : AdapterState) (peer : ℕ) (session : Session) (f : Frame) → IsReady a peer session → IsFrame f →
    call_meaning a (Feeds 0 peer (frame f)) ≡ whole_meaning a peer f (bytes_taken [] (frame f))
whole a peer session f ready ok =
    ap (λ o. at_a_moment 0 (piece_to a.held peer (frame f) o)) ready.found
    ∙ (ap (λ b. at_a_moment 0 (cond b (dropped_piece a.held) (piece_meaning a.held peer (bytes_held a.held peer) (frame f)))) ready.alive
    ∙ (ap (λ bytes. at_a_moment 0 (piece_meaning a.held peer bytes (frame f))) ready.blank
    ∙ (ap (λ j. seen_meaning a peer (bytes_taken [] (frame f)) (parsed j) j) (joined-frame f ok)
    ∙ ap (λ s. seen_meaning a peer (bytes_taken [] (frame f)) s (frame f)) (parsed-written f ok))))

abbrev served_turn : State → ℕ → (Session → Served) → Session → TurnResult
served_turn s peer serve session =
    turned (record s {
      shared = shared_after session (serve session);
      peers = with_first (λ (p : Session). p.handle) peer (session_after session (serve session)) s.peers;
    }) (sent (serve session).reaction.answer) (serve session).reaction.close

pub adapter-fed : (a : AdapterState) (peer : ℕ) (session : Session) (f : Frame) → IsReady a peer session → IsFrame f →
    IsServed a peer session f (served_at a session f)
adapter-fed a peer session f ready ok =
    let s : State = at_state a.state 0 in
    let meant = whole a peer session f ready ok in
    let turn : serve_found s peer (λ p. command_served s.shared p f) (session_of s peer)
    ≡ served_turn s peer (λ p. command_served s.shared p f) session
    = ap (serve_found s peer (λ p. command_served s.shared p f)) ready.found
    ∙ ap (λ b. cond b (turned s (NoReply NotServed) true) (served_turn s peer (λ p. command_served s.shared p f) session)) ready.alive in
    record {
      adapter = ap (after_meaning a.state) meant
          ∙ ap (λ (t : TurnResult). (let x : AdapterState = record {
            state = t.state;
            held = with_first (λ h. h.peer) peer (no_bytes peer) a.held;
          } in x)) turn;
      output = ap (λ m. (answer_of a.state m).output) meant ∙ ap (λ (t : TurnResult). t.answer.output) turn;
    }

-- no bytes of the peer are held after it
pub blank-again : (peer : ℕ) (held : List Held) →
    bytes_held (with_first (λ h. h.peer) peer (no_bytes peer) held) peer ≡ []
blank-again peer [] = refl
blank-again peer (x ∷ held) = go (eqb x.peer peer) refl (blank-again peer held)
  where
    go : (b : Bool) → eqb x.peer peer ≡ b →
        bytes_held (with_first (λ h. h.peer) peer (no_bytes peer) held) peer ≡ [] →
        bytes_held (cond b (no_bytes peer ∷ held) (x ∷ with_first (λ h. h.peer) peer (no_bytes peer) held)) peer ≡ []
    go true e rest = ap (λ b. bytes_found (cond b (Some (no_bytes peer)) (first_with (λ h. h.peer) peer held)))
        (eq-eqb peer peer refl)
    go false e rest = ap (λ b. bytes_found (cond b (Some x)
        (first_with (λ h. h.peer) peer (with_first (λ h. h.peer) peer (no_bytes peer) held)))) e
        ∙ rest

-- after a frame the adapter still has the peer, and holds no bytes of it
pub ready-again : (a : AdapterState) (peer : ℕ) (session : Session) (f : Frame) (served : Served) →
    IsReady a peer session → IsServed a peer session f served → served.reaction.close ≡ false →
    IsReady (after_call a (Feeds 0 peer (frame f))) peer (session_after session served)
ready-again a peer session f served ready is stays = record {
  found = ap (λ (x : AdapterState). session_of x.state peer) is.adapter
      ∙ first_with-set (λ (p : Session). p.handle) peer session (session_after session served) a.state.peers ready.found
      (first_with-number (λ (p : Session). p.handle) peer session a.state.peers ready.found);
  alive = stays;
  blank = ap (λ (x : AdapterState). bytes_held x.held peer) is.adapter ∙ blank-again peer a.held;
}
