-- What holds of every adapter to which calls lead from a new one.
use Rattle.std.proofs.Common.{◌≡◌, ℕ, ◌+◌, ◌≤◌, List, [], ◌∷◌, ◌++◌, Bool, true, false, cond, eqb}
use Rattle.std.proofs.Common.{Option, Some, None, refl, sym, ap, subst, ◌∙◌}
use Rattle.std.proofs.lemmas.Bool.{eqb-true, eqb-false}
use Rattle.std.proofs.lemmas.List.{map-append}
use Rattle.cip_ledger.specs.Device.{Device}
use Rattle.enip_wire.specs.Stream.{Parsed, held_and_taken, parsed, cleared}
use Rattle.enip_wire.specs.Stream.Parsed.{Incomplete, WholeFrame, TooLongHeader}
use Rattle.enip_adapter.specs.declared.adapter.Limits.{Limits}
use Rattle.enip_adapter.specs.declared.adapter.Shares.{Shares}
use Rattle.enip_adapter.specs.declared.peer.Rights.{Rights}
use Rattle.enip_adapter.specs.declared.peer.Session.{Session}
use Rattle.enip_adapter.specs.declared.shared.Listen.{Listen}
use Rattle.enip_adapter.specs.declared.no_reply_reason.NoReplyReason.TheVariants.{NotServed}
use Rattle.enip_adapter.specs.Adapter.{shared_adapter}
use Rattle.enip_adapter.specs.Commands.{command_served, long_refused}
use Rattle.enip_adapter.specs.Lookup.{first_with, with_first, without_first}
use Rattle.enip_adapter.specs.Replies.{Served, leaving}
use Rattle.enip_adapter.specs.Turn.{State, TurnResult, begun, after, session_of, serve_found, end_found, session_after}
use Rattle.enip_adapter.specs.Turn.Output.{NoReply}
use Rattle.enip_adapter.specs.Calls.{AdapterState, Held, Call, Meaning, call_meaning, after_call, bytes_found}
use Rattle.enip_adapter.specs.Calls.{bytes_held, held_at_beginning, piece_to, piece_meaning, dropped_piece}
use Rattle.enip_adapter.specs.Calls.{at_a_moment, events_of_parsed, answer_of, call_answer}
use Rattle.enip_adapter.specs.Calls.Call.{Begins_peer, Feeds, Ends_peer, Ticks, Writes}
use Rattle.enip_adapter.specs.Runs.{after_calls, IsForOther}
use Rattle.enip_adapter.proofs.ListLemmas.{both, first_with-number, first_with-set, without_first-none, numbers}
use Rattle.enip_adapter.proofs.ListLemmas.{numbers-with_first, numbers-without_first, none-numbers, numbers-none}
use Rattle.enip_adapter.proofs.ListLemmas.{AreDrawn, drawn-more, drawn-without, gone}
use Rattle.enip_adapter.proofs.NumberLemmas.{next-parsed_frame, next-ended}
use Rattle.enip_adapter.proofs.PeerLemmas.{at_state, held-call, session-call}
use Rattle.enip_wire.proofs.RunningLemmas.{IsRunning, running-empty, running-taken, bytes_taken-some}
use Rattle.enip_adapter.proofs.BeginLemmas.{each-begun}

-- The handles of the peers, and the numbers of the held bytes.
abbrev pub handles : State → List ℕ
handles s = numbers (λ (p : Session). p.handle) s.peers

abbrev pub entries : List Held → List ℕ
entries held = numbers (λ (h : Held). h.peer) held

-- Each peer has one entry, handles differ and were assigned, and an open peer waits for more bytes.
pub record IsSound (a : AdapterState) : Type 0 where
  pub same : entries a.held ≡ handles a.state
  pub drawn : AreDrawn a.state.next_handle (handles a.state)
  pub ready : (peer : ℕ) (session : Session) → session_of a.state peer ≡ Some session → session.closed ≡ false
      → IsRunning (bytes_held a.held peer)

handles-served : (s : State) (peer : ℕ) (serve : Session → Served) (o : Option Session) → session_of s peer ≡ o
    → handles (serve_found s peer serve o).state ≡ handles s
handles-served s peer serve None e = refl
handles-served s peer serve (Some session) e =
    both (λ (t : TurnResult). handles t.state ≡ handles s) session.closed _ _ refl
    (numbers-with_first (λ (p : Session). p.handle) peer (session_after session (serve session)) s.peers
    (first_with-number (λ (p : Session). p.handle) peer session s.peers e))

handles-parsed_frame : (s : State) (peer : ℕ) (x : Parsed) → handles (after s (events_of_parsed peer x)) ≡ handles s
handles-parsed_frame s peer Incomplete = refl
handles-parsed_frame s peer (WholeFrame f) = handles-served s peer (λ session. command_served s.shared session f)
    (session_of s peer) refl
handles-parsed_frame s peer (TooLongHeader h) = handles-served s peer (λ session. leaving s.shared (long_refused session h))
    (session_of s peer) refl

-- What a piece does to the numbers.
pub record IsFed (s : State) (held : List Held) (m : Meaning) : Type 0 where
  pub handles_same : handles (after s m.events) ≡ handles s
  pub next_same : (after s m.events).next_handle ≡ s.next_handle
  pub entries_same : entries m.held ≡ entries held

pub fed-piece : (s : State) (peer : ℕ) (piece : List ℕ) (held : List Held) (o : Option Session)
    → IsFed s held (piece_to held peer piece o)
fed-piece s peer piece held None = record { handles_same = refl; next_same = refl; entries_same = refl }
fed-piece s peer piece held (Some session) =
    both (λ (m : Meaning). IsFed s held m) session.closed _ _
    (record { handles_same = refl; next_same = refl; entries_same = refl })
    (record {
      handles_same = handles-parsed_frame s peer (parsed (held_and_taken (bytes_held held peer) piece));
      next_same = next-parsed_frame s peer (parsed (held_and_taken (bytes_held held peer) piece));
      entries_same = numbers-with_first (λ (h : Held). h.peer) peer _ held refl;
    })

pub handles-ended : (s : State) (peer : ℕ) (o : Option Session) → session_of s peer ≡ o
    → handles (end_found s peer o) ≡ without_first (λ m. m) peer (handles s)
handles-ended s peer None e =
    sym (without_first-none (λ m. m) peer (handles s) (none-numbers (λ (p : Session). p.handle) peer s.peers e))
handles-ended s peer (Some session) e = numbers-without_first (λ (p : Session). p.handle) peer s.peers

-- The numbers after a call.
record AreSound (a : AdapterState) : Type 0 where
  same : entries a.held ≡ handles a.state
  drawn : AreDrawn a.state.next_handle (handles a.state)

numbers-begun : (s : State) (rights : Rights) (group : Option ℕ) (held : List Held) → entries held ≡ handles s
    → AreDrawn s.next_handle (handles s)
    → AreSound (record {
      state = (begun s rights group).state;
      held = held_at_beginning held (begun s rights group).answer.output;
    })
numbers-begun s rights group held same drawn =
    let P : TurnResult → Type 0 = λ t. AreSound (record { state = t.state; held = held_at_beginning held t.answer.output }) in
    each-begun P s rights group (λ full. record { same = same; drawn = drawn })
    (record {
      same = map-append (λ (h : Held). h.peer) held _
          ∙ (ap (λ ns. ns ++ s.next_handle ∷ []) same ∙ sym (map-append (λ (p : Session). p.handle) s.peers _));
      drawn = subst (AreDrawn (s.next_handle + 1)) (sym (map-append (λ (p : Session). p.handle) s.peers _))
          (drawn-more s.next_handle (handles s) drawn);
    })

numbers-call : (a : AdapterState) (c : Call) → IsSound a → AreSound (after_call a c)
numbers-call a (Begins_peer rights group) sound = numbers-begun a.state rights group a.held sound.same sound.drawn
numbers-call a (Feeds now peer piece) sound =
    let fed : IsFed (at_state a.state now) a.held (piece_to a.held peer piece (session_of a.state peer))
    = fed-piece (at_state a.state now) peer piece a.held (session_of a.state peer) in
    record {
      same = fed.entries_same ∙ (sound.same ∙ sym fed.handles_same);
      drawn = subst (λ n. AreDrawn n (handles (after_call a (Feeds now peer piece)).state)) (sym fed.next_same)
          (subst (AreDrawn a.state.next_handle) (sym fed.handles_same) sound.drawn);
    }
numbers-call a (Ends_peer peer) sound =
    let ended : handles (end_found a.state peer (session_of a.state peer))
    ≡ without_first (λ m. m) peer (handles a.state)
    = handles-ended a.state peer (session_of a.state peer) refl in
    record {
      same = numbers-without_first (λ (h : Held). h.peer) peer a.held
          ∙ (ap (without_first (λ m. m) peer) sound.same ∙ sym ended);
      drawn = subst (λ n. AreDrawn n (handles (end_found a.state peer (session_of a.state peer))))
          (sym (next-ended a.state peer (session_of a.state peer)))
          (subst (AreDrawn a.state.next_handle) (sym ended)
          (drawn-without a.state.next_handle peer (handles a.state) sound.drawn));
    }
numbers-call a (Ticks now) sound = record { same = sound.same; drawn = sound.drawn }
numbers-call a (Writes write) sound = record { same = sound.same; drawn = sound.drawn }

-- A peer with no session has no entry, and one with a session has one.
pub no-entry : (a : AdapterState) (peer : ℕ) → entries a.held ≡ handles a.state → session_of a.state peer ≡ None
    → first_with (λ (h : Held). h.peer) peer a.held ≡ None
no-entry a peer same e =
    numbers-none (λ (h : Held). h.peer) peer a.held
    (ap (first_with (λ m. m) peer) same ∙ none-numbers (λ (p : Session). p.handle) peer a.state.peers e)

no-session : (a : AdapterState) (peer : ℕ) → entries a.held ≡ handles a.state
    → first_with (λ (h : Held). h.peer) peer a.held ≡ None
    → session_of a.state peer ≡ None
no-session a peer same e =
    numbers-none (λ (p : Session). p.handle) peer a.state.peers
    (ap (first_with (λ m. m) peer) (sym same) ∙ none-numbers (λ (h : Held). h.peer) peer a.held e)

pub entry-of : (a : AdapterState) (peer : ℕ) (session : Session) → IsSound a → session_of a.state peer ≡ Some session
    → (old : Held) × (first_with (λ (h : Held). h.peer) peer a.held ≡ Some old)
entry-of a peer session sound e = go (first_with (λ (h : Held). h.peer) peer a.held) refl
  where
    go : (o : Option Held) → first_with (λ (h : Held). h.peer) peer a.held ≡ o → (old : Held)
        × (first_with (λ (h : Held). h.peer) peer a.held ≡ Some old)
    go None f = let bad : None ≡ Some session = sym (no-session a peer sound.same f) ∙ e in cc
    go (Some old) f = (old, f)

-- An open peer waits for more bytes.
abbrev IsReady : ℕ → AdapterState → Type 0
IsReady peer a = (session : Session) → session_of a.state peer ≡ Some session → session.closed ≡ false
    → IsRunning (bytes_held a.held peer)

ready-other : (a : AdapterState) (c : Call) (peer : ℕ) → IsSound a → IsForOther peer c → IsReady peer (after_call a c)
ready-other a c peer sound other session e alive = go (session_of a.state peer) refl
  where
    go : (o : Option Session) → session_of a.state peer ≡ o → IsRunning (bytes_held (after_call a c).held peer)
    go None f =
        subst IsRunning (sym (held-call peer a c other ∙ ap bytes_found (no-entry a peer sound.same f))) running-empty
    go (Some before) f =
        let same : before ≡ session =
        (let g : Some before ≡ Some session = sym (session-call peer before a c other f) ∙ e in cc) in
        subst IsRunning (sym (held-call peer a c other)) (sound.ready peer before f (ap (λ s. s.closed) same ∙ alive))

-- After a piece of its own.
ready-parsed_frame : (s : State) (peer : ℕ) (piece bytes : List ℕ) (held : List Held) (old : Held) (before : Session)
    (x : Parsed)
    → parsed (held_and_taken bytes piece) ≡ x → first_with (λ (h : Held). h.peer) peer held ≡ Some old
    → session_of s peer ≡ Some before → before.closed ≡ false
    → IsRunning bytes
    → IsReady peer (record {
      state = after s (events_of_parsed peer x);
      held = with_first (λ (h : Held). h.peer) peer
          (record { peer = peer; bytes = cleared x (held_and_taken bytes piece) }) held;
    })
ready-parsed_frame s peer piece bytes held old before x seen entry found alive running session e alive_after =
    subst IsRunning (sym (ap bytes_found (first_with-set (λ (h : Held). h.peer) peer old _ held entry refl)))
    (go x seen e)
  where
    closes : (h : _) → session_of (after s (events_of_parsed peer (TooLongHeader h))) peer ≡ Some session
        → IsRunning (held_and_taken bytes piece)
    closes h f =
        let served : serve_found s peer (λ p. leaving s.shared (long_refused p h)) (session_of s peer)
        ≡ serve_found s peer (λ p. leaving s.shared (long_refused p h)) (Some before)
        = ap (serve_found s peer (λ p. leaving s.shared (long_refused p h))) found in
        let shut : (session_of
        (serve_found s peer (λ p. leaving s.shared (long_refused p h)) (Some before)).state peer)
        ≡ Some (session_after before (leaving s.shared (long_refused before h)))
        = ap (λ b. session_of
        (cond b (let t : TurnResult = record { state = s; answer = record { output = NoReply NotServed; close = true } } in t)
        (serve_found s peer (λ p. leaving s.shared (long_refused p h))
        (Some (record before { closed = false })))).state peer) alive
        ∙ first_with-set (λ (p : Session). p.handle) peer before
        (session_after before (leaving s.shared (long_refused before h))) s.peers found
        (first_with-number (λ (p : Session). p.handle) peer before s.peers found) in
        let same : Some session ≡ Some (session_after before (leaving s.shared (long_refused before h)))
        = sym f ∙ (ap (λ (t : TurnResult). session_of t.state peer) served ∙ shut) in
        let it : session ≡ session_after before (leaving s.shared (long_refused before h)) = cc in
        let closed : session.closed ≡ true = ap (λ (p : Session). p.closed) it in
        cc

    go : (y : Parsed) → parsed (held_and_taken bytes piece) ≡ y → session_of (after s (events_of_parsed peer y)) peer
        ≡ Some session
        → IsRunning (cleared y (held_and_taken bytes piece))
    go Incomplete k f = running-taken bytes piece running k
    go (WholeFrame g) k f = running-empty
    go (TooLongHeader h) k f = closes h f

ready-own : (a : AdapterState) (now peer : ℕ) (piece : List ℕ) → IsSound a
    → IsReady peer (after_call a (Feeds now peer piece))
ready-own a now peer piece sound = go (session_of a.state peer) refl
  where
    with_entry : (before : Session) → session_of a.state peer ≡ Some before → before.closed ≡ false
        → (o : Option Held) → first_with (λ (h : Held). h.peer) peer a.held ≡ o
        → IsReady peer (record {
          state = after (at_state a.state now) (piece_meaning a.held peer (bytes_held a.held peer) piece).events;
          held = (piece_meaning a.held peer (bytes_held a.held peer) piece).held;
        })
    with_entry before f alive None g =
        let bad : None ≡ Some before = sym (no-session a peer sound.same g) ∙ f in cc
    with_entry before f alive (Some old) g =
        ready-parsed_frame (at_state a.state now) peer piece (bytes_held a.held peer) a.held old before
        (parsed (held_and_taken (bytes_held a.held peer) piece)) refl
        g f alive (sound.ready peer before f alive)

    by_close : (before : Session) → session_of a.state peer ≡ Some before → (b : Bool) → before.closed ≡ b
        → IsReady peer (record {
          state = after (at_state a.state now)
              (cond b (piece_to a.held peer piece None)
              (piece_meaning a.held peer (bytes_held a.held peer) piece)).events;
          held = (cond b (piece_to a.held peer piece None)
              (piece_meaning a.held peer (bytes_held a.held peer) piece)).held;
        })
    by_close before f true shut = sound.ready peer
    by_close before f false alive = with_entry before f alive (first_with (λ (h : Held). h.peer) peer a.held) refl

    go : (o : Option Session) → session_of a.state peer ≡ o
        → IsReady peer (record {
          state = after (at_state a.state now) (piece_to a.held peer piece o).events;
          held = (piece_to a.held peer piece o).held;
        })
    go None f = sound.ready peer
    go (Some before) f = by_close before f before.closed refl

ready-ended : (a : AdapterState) (peer : ℕ) → IsSound a → IsReady peer (after_call a (Ends_peer peer))
ready-ended a peer sound session e alive =
    let n : AreSound (after_call a (Ends_peer peer)) = numbers-call a (Ends_peer peer) sound in
    let none : first_with (λ m. m) peer (handles (after_call a (Ends_peer peer)).state) ≡ None
    = ap (first_with (λ m. m) peer) (handles-ended a.state peer (session_of a.state peer) refl)
    ∙ gone peer (handles a.state) sound.drawn.once in
    let bad : None ≡ Some session = sym
    (numbers-none (λ (p : Session). p.handle) peer (after_call a (Ends_peer peer)).state.peers none) ∙ e in
    cc

ready-call : (a : AdapterState) (c : Call) (peer : ℕ) → IsSound a → IsReady peer (after_call a c)
ready-call a (Begins_peer rights group) peer sound = ready-other a (Begins_peer rights group) peer sound tt
ready-call a (Feeds now other piece) peer sound = go (eqb other peer) refl
  where
    go : (b : Bool) → eqb other peer ≡ b → IsReady peer (after_call a (Feeds now other piece))
    go true t = subst (λ q. IsReady q (after_call a (Feeds now other piece))) (eqb-true other peer t)
        (ready-own a now other piece sound)
    go false t = ready-other a (Feeds now other piece) peer sound (eqb-false other peer t)
ready-call a (Ends_peer other) peer sound = go (eqb other peer) refl
  where
    go : (b : Bool) → eqb other peer ≡ b → IsReady peer (after_call a (Ends_peer other))
    go true t = subst (λ q. IsReady q (after_call a (Ends_peer other))) (eqb-true other peer t)
        (ready-ended a other sound)
    go false t = ready-other a (Ends_peer other) peer sound (eqb-false other peer t)
ready-call a (Ticks now) peer sound = ready-other a (Ticks now) peer sound tt
ready-call a (Writes write) peer sound = ready-other a (Writes write) peer sound tt

pub sound-call : (a : AdapterState) (c : Call) → IsSound a → IsSound (after_call a c)
sound-call a c sound =
    let n : AreSound (after_call a c) = numbers-call a c sound in
    record { same = n.same; drawn = n.drawn; ready = λ peer. ready-call a c peer sound }

pub sound-calls : (a : AdapterState) (calls : List Call) → IsSound a → IsSound (after_calls a calls)
sound-calls a [] sound = sound
sound-calls a (c ∷ cs) sound = sound-calls (after_call a c) cs (sound-call a c sound)

pub sound-shared : (device : Device) (listen : Listen) (limits : Limits) (shares : Shares)
    → IsSound (shared_adapter device listen limits shares)
sound-shared device listen limits shares = record {
  same = refl;
  drawn = record { once = tt; below = tt };
  ready = λ peer session e alive. cc;
}

-- A piece is taken in part at least, or dropped.
pub taken-piece : (a : AdapterState) (now peer b : ℕ) (bs : List ℕ) → IsSound a → (o : Option Session)
    → session_of a.state peer ≡ o
    → (answer_of a.state (at_a_moment now (piece_to a.held peer (b ∷ bs) o))).close ≡ false
    → 1 ≤ (piece_to a.held peer (b ∷ bs) o).taken
taken-piece a now peer b bs sound None e alive = cc
taken-piece a now peer b bs sound (Some session) e alive = go session.closed refl alive
  where
    go : (c : Bool) → session.closed ≡ c
        → (answer_of a.state (at_a_moment now
        (cond c (dropped_piece a.held) (piece_meaning a.held peer (bytes_held a.held peer) (b ∷ bs))))).close
        ≡ false
        → 1 ≤ (cond c (dropped_piece a.held) (piece_meaning a.held peer (bytes_held a.held peer) (b ∷ bs))).taken
    go true shut k = cc
    go false lives k = bytes_taken-some (bytes_held a.held peer) b bs (sound.ready peer session e lives)

pub some-taken : (device : Device) (listen : Listen) (limits : Limits) (shares : Shares) (calls : List Call)
    (now peer b : ℕ) (bs : List ℕ)
    → (call_answer (after_calls (shared_adapter device listen limits shares) calls) (Feeds now peer (b ∷ bs))).close
    ≡ false
    → 1 ≤ (call_meaning (after_calls (shared_adapter device listen limits shares) calls) (Feeds now peer (b ∷ bs))).taken
some-taken device listen limits shares calls now peer b bs alive =
    taken-piece (after_calls (shared_adapter device listen limits shares) calls) now peer b bs
    (sound-calls (shared_adapter device listen limits shares) calls (sound-shared device listen limits shares))
    (session_of (after_calls (shared_adapter device listen limits shares) calls).state peer) refl alive
