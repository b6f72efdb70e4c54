-- The answer to a datagram, and to the same bytes over TCP.
use Rattle.std.proofs.Common.{◌≡◌, ℕ, ◌+◌, ◌-◌, List, [], ◌∷◌, length, take, drop, min, not, ◌&&◌, eqb, ltb, cond, Bool, true, false, Option, Some, None, refl, ap, sym, ◌∙◌, arith}
use Rattle.std.proofs.lemmas.Bool.{eqb-true}
use Rattle.std.proofs.lemmas.List.{take_all}
use Rattle.cip_bytes.specs.Numbers.{number_at}
use Rattle.cip_bytes.specs.Protocol.{command_of}
use Rattle.cip_bytes.specs.declared.protocol.Command.{Command}
use Rattle.cip_bytes.specs.declared.protocol.Command.TheVariants.{ListServices, ListIdentity, ListInterfaces}
use Rattle.enip_wire.specs.Frames.{Frame, end_after}
use Rattle.enip_wire.specs.Headers.{header_at}
use Rattle.enip_wire.specs.Stream.{Parsed, parsed, bytes_taken, held_and_taken, cleared}
use Rattle.enip_wire.specs.Stream.Parsed.{Incomplete, WholeFrame, TooLongHeader}
use Rattle.enip_adapter.specs.declared.peer.Rights.TheVariants.{Read}
use Rattle.enip_adapter.specs.declared.peer.Session.{Session}
use Rattle.enip_adapter.specs.declared.shared.Shared.{Shared}
use Rattle.enip_adapter.specs.declared.no_reply_reason.NoReplyReason.TheVariants as no_reply_reason
use Rattle.enip_adapter.specs.Calls.{AdapterState, Held, Meaning, piece_to, piece_meaning, dropped_piece, at_a_moment, answer_of, after_meaning, events_of_parsed, bytes_found, bytes_held, call_answer, after_call}
use Rattle.enip_adapter.specs.Calls.Call.{Feeds, Ticks}
use Rattle.enip_adapter.specs.Commands.{by_command, command_served}
use Rattle.enip_adapter.specs.Discovery.{is_discovery, bytes_of, frame_discovered, parsed_discovered, discovered}
use Rattle.enip_adapter.specs.Lookup.{first_with, with_first}
use Rattle.enip_adapter.specs.Replies.{Served, leaving, no_reply, answered}
use Rattle.enip_adapter.specs.Serving.{is_open, is_peer_served}
use Rattle.enip_adapter.specs.Turn.{State, Answer, TurnResult, turn, turned, new_session, session_of, session_after, sent, at_moment, shared_after}
use Rattle.enip_adapter.specs.Turn.Event.{At, Framed}
use Rattle.enip_adapter.specs.Turn.Output.{Sends}
use Rattle.enip_adapter.proofs.FeedLemmas.{served_turn}
use Rattle.enip_adapter.proofs.ListLemmas.{with_first-none, with_first-same, first_with-number}

same_bytes : (a b : List ℕ) → ◌≡◌ {A = Option (List ℕ)} (Some a) (Some b) → a ≡ b
same_bytes a b e = cc

no_answer : (b : Bool) (bytes : List ℕ) → ◌≡◌ {A = Option (List ℕ)} (cond b None None) (Some bytes) → ⊥
no_answer true bytes e = cc
no_answer false bytes e = cc

-- What the frame in a datagram would do over TCP at a time.
module _ (shared : Shared) (now : ℕ) (session : Session) (f : Frame) (bytes : List ℕ) where
  -- what a frame does, by whether it has options, whether it has a status, and its command
  abbrev held_after_next : Shared → Session → Bool → Bool → Option Command → Served
  held_after_next before asking options status command =
      cond options (leaving before (no_reply asking no_reply_reason.Options))
      (cond status (leaving before (no_reply asking no_reply_reason.Status)) (by_command before asking f command))

  abbrev told : Bool → Bool → Bool → Option Command → Option (List ℕ)
  told options status without_data command =
      cond (is_discovery command && without_data)
      (bytes_of (held_after_next shared (new_session 0 Read None) options status command).reaction.answer) None

  answering : (text : List ℕ) → ◌≡◌ {A = Option (List ℕ)} (Some text) (Some bytes)
      → leaving (at_moment shared now) (answered session text) ≡ leaving (at_moment shared now) (answered session bytes)
  answering text e = ap (λ b. leaving (at_moment shared now) (answered session b)) (same_bytes text bytes e)

  served_as_told : (options status without_data : Bool) (command : Option Command)
      → told options status without_data command ≡ Some bytes
      → held_after_next (at_moment shared now) session options status command ≡ leaving (at_moment shared now) (answered session bytes)
  served_as_told true status without_data command e = absurd (no_answer (is_discovery command && without_data) bytes e)
  served_as_told false true without_data command e = absurd (no_answer (is_discovery command && without_data) bytes e)
  served_as_told false false true (Some ListServices) e = answering _ e
  served_as_told false false true (Some ListIdentity) e = answering _ e
  served_as_told false false true (Some ListInterfaces) e = answering _ e
  served_as_told false false false (Some ListServices) e = absurd (no_answer false bytes e)
  served_as_told false false false (Some ListIdentity) e = absurd (no_answer false bytes e)
  served_as_told false false false (Some ListInterfaces) e = absurd (no_answer false bytes e)
  served_as_told false false without_data command e = absurd (no_answer false bytes e)

  served_as_discovered : frame_discovered shared f ≡ Some bytes
      → command_served (at_moment shared now) session f ≡ leaving (at_moment shared now) (answered session bytes)
  unfolding command_served
  served_as_discovered =
      served_as_told (not (eqb f.header.options 0)) (not (eqb f.header.status 0)) (eqb f.header.length 0)
      (command_of f.header.command)

-- Only a frame is answered.
record Brings (shared : Shared) (bytes : List ℕ) (seen : Parsed) : Type 0 where
  brought : Frame
  is : seen ≡ WholeFrame brought
  told : frame_discovered shared brought ≡ Some bytes

brings : (shared : Shared) (bytes : List ℕ) (seen : Parsed) → parsed_discovered shared seen ≡ Some bytes → Brings shared bytes seen
brings shared bytes Incomplete e = absurd (no_answer false bytes e)
brings shared bytes (TooLongHeader h) e = absurd (no_answer false bytes e)
brings shared bytes (WholeFrame f) e = record { brought = f; is = refl; told = e }

-- A whole frame is taken whole.
no_frame : (f : Frame) → Incomplete ≡ WholeFrame f → ⊥
no_frame f e = cc

none_before : (n : ℕ) → 0 + n ≡ n
none_before n = omega arith

taken_whole : (bytes : List ℕ) (f : Frame) → parsed bytes ≡ WholeFrame f → bytes_taken [] bytes ≡ length bytes
taken_whole bytes f e =
    ap (λ n. cond (ltb n 24) (length bytes) (min (end_after (number_at 2 2 bytes) - 0) (length bytes))) (none_before (length bytes))
    ∙ go (ltb (length bytes) 24) (ltb 65511 (number_at 2 2 bytes)) (eqb (length bytes) (24 + number_at 2 2 bytes)) refl e
  where
    go : (short long whole : Bool) → eqb (length bytes) (24 + number_at 2 2 bytes) ≡ whole
        → cond short Incomplete (cond long (TooLongHeader (header_at bytes)) (cond whole (WholeFrame (record { header = header_at bytes; body = drop 24 bytes })) Incomplete)) ≡ WholeFrame f
        → cond short (length bytes) (min (cond long 24 (24 + number_at 2 2 bytes) - 0) (length bytes)) ≡ length bytes
    go true long whole t e = refl
    go false true whole t e = cc
    go false false true t e =
        let counted = eqb-true (length bytes) (24 + number_at 2 2 bytes) t in
        omega (arith, counted)
    go false false false t e = absurd (no_frame f e)

joined_whole : (bytes : List ℕ) (f : Frame) → parsed bytes ≡ WholeFrame f → held_and_taken [] bytes ≡ bytes
joined_whole bytes f e = ap (λ n. take n bytes) (taken_whole bytes f e) ∙ take_all (length bytes) bytes (omega arith)

-- If nothing is left of a frame, the held bytes stay the same.
abbrev none_left : ℕ → Held
none_left peer = record { peer = peer; bytes = [] }

held_same : (held : List Held) (peer : ℕ) → bytes_held held peer ≡ [] → with_first (λ (h : Held). h.peer) peer (none_left peer) held ≡ held
held_same held peer empty = go (first_with (λ (h : Held). h.peer) peer held) refl empty
  where
    go : (o : Option Held) → first_with (λ (h : Held). h.peer) peer held ≡ o → bytes_found o ≡ []
        → with_first (λ (h : Held). h.peer) peer (none_left peer) held ≡ held
    go None found e = with_first-none (λ (h : Held). h.peer) peer (none_left peer) held found
    go (Some h) found e =
        let number : h.peer ≡ peer = first_with-number (λ (x : Held). x.peer) peer h held found in
        let same : none_left peer ≡ h = λ j. record { peer = sym number j; bytes = sym e j } in
        ap (λ x. with_first (λ (y : Held). y.peer) peer x held) same
        ∙ with_first-same (λ (x : Held). x.peer) peer h held found

-- What a peer that is served gets at a time for the bytes of a datagram that is answered, and what that changes.
module _ (a : AdapterState) (now peer : ℕ) (datagram bytes : List ℕ) where
  -- the state at that time
  abbrev at_now : State
  at_now = record a.state { shared = at_moment a.state.shared now }

  abbrev fed : Option Session → Meaning
  fed o = at_a_moment now (piece_to a.held peer datagram o)

  -- the frame is taken whole
  abbrev framed : Frame → Meaning
  framed f = record {
    events = At now ∷ Framed peer f ∷ [];
    taken = bytes_taken [] datagram;
    held = with_first (λ (h : Held). h.peer) peer (none_left peer) a.held;
    dropped = false;
  }

  abbrev seen_meaning : List ℕ → Parsed → Meaning
  seen_meaning joined x = record {
    events = At now ∷ events_of_parsed peer x;
    taken = bytes_taken [] datagram;
    held = with_first (λ (h : Held). h.peer) peer (record { peer = peer; bytes = cleared x joined }) a.held;
    dropped = false;
  }

  fed_framed : (session : Session) (f : Frame) → session.closed ≡ false → bytes_held a.held peer ≡ [] → parsed datagram ≡ WholeFrame f
      → fed (Some session) ≡ framed f
  fed_framed session f alive empty is =
      ap (λ b. at_a_moment now (cond b (dropped_piece a.held) (piece_meaning a.held peer (bytes_held a.held peer) datagram))) alive
      ∙ ap (λ h. at_a_moment now (piece_meaning a.held peer h datagram)) empty
      ∙ ap (seen_meaning (held_and_taken [] datagram)) (ap parsed (joined_whole datagram f is) ∙ is)

  -- the turn of that frame
  abbrev replied : Session → TurnResult
  replied session = turned (record at_now { peers = with_first (λ (p : Session). p.handle) peer (record session { closed = false }) a.state.peers }) (Sends bytes) false

  framed_turn : (session : Session) (f : Frame) → session_of a.state peer ≡ Some session → session.closed ≡ false → frame_discovered a.state.shared f ≡ Some bytes
      → turn at_now (Framed peer f) ≡ replied session
  framed_turn session f found alive told =
      served_turn at_now peer (λ s. command_served at_now.shared s f) session found alive
      ∙ ap (λ served. turned (record at_now {
        shared = shared_after session served;
        peers = with_first (λ (p : Session). p.handle) peer (session_after session served) a.state.peers;
      }) (sent served.reaction.answer) served.reaction.close)
      (served_as_discovered a.state.shared now session f bytes told)

  -- the peer stays as it is
  still : (session : Session) → session_of a.state peer ≡ Some session → session.closed ≡ false
      → with_first (λ (p : Session). p.handle) peer (record session { closed = false }) a.state.peers ≡ a.state.peers
  still session found alive =
      ap (λ b. let s : Session = record session { closed = b } in with_first (λ (p : Session). p.handle) peer s a.state.peers) (sym alive)
      ∙ with_first-same (λ (p : Session). p.handle) peer session a.state.peers found

  -- the session of a peer that is served
  record IsThere : Type 0 where
    session : Session
    found : session_of a.state peer ≡ Some session
    alive : session.closed ≡ false

  there : is_peer_served a peer ≡ true → IsThere
  there = go (session_of a.state peer) refl
    where
      go : (o : Option Session) → session_of a.state peer ≡ o → is_open o ≡ true → IsThere
      go None found served = cc
      go (Some session) found served = record { session = session; found = found; alive = opened session.closed served }
        where
          opened : (b : Bool) → not b ≡ true → b ≡ false
          opened true e = cc
          opened false e = refl

  pub answered_to_call : is_peer_served a peer ≡ true → bytes_held a.held peer ≡ [] → discovered a.state.shared datagram ≡ Some bytes
      → ◌≡◌ {A = Answer} (call_answer a (Feeds now peer datagram)) (record { output = Sends bytes; close = false })
  answered_to_call served empty told =
      let here = there served in
      let one = brings a.state.shared bytes (parsed datagram) told in
      ap (λ o. answer_of a.state (fed o)) here.found
      ∙ ap (answer_of a.state) (fed_framed here.session one.brought here.alive empty one.is)
      ∙ ap (λ t. t.answer) (framed_turn here.session one.brought here.found here.alive one.told)

  pub left_by_call : is_peer_served a peer ≡ true → bytes_held a.held peer ≡ [] → discovered a.state.shared datagram ≡ Some bytes
      → after_call a (Feeds now peer datagram) ≡ after_call a (Ticks now)
  left_by_call served empty told =
      let here = there served in
      let one = brings a.state.shared bytes (parsed datagram) told in
      ap (λ o. after_meaning a.state (fed o)) here.found
      ∙ ap (after_meaning a.state) (fed_framed here.session one.brought here.alive empty one.is)
      ∙ ap (λ (t : TurnResult). let left : AdapterState = record { state = t.state; held = (framed one.brought).held } in left)
      (framed_turn here.session one.brought here.found here.alive one.told)
      ∙ ap (λ ps. let left : AdapterState = record { state = record at_now { peers = ps }; held = (framed one.brought).held } in left)
      (still here.session here.found here.alive)
      ∙ ap (λ h. let left : AdapterState = record { state = at_now; held = h } in left) (held_same a.held peer empty)
