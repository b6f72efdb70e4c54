-- Calls do not change the peers and connections that they are not for.
use Rattle.std.proofs.Common.{◌≡◌, ◌≢◌, ℕ, List, [], ◌∷◌, ◌++◌, Bool, true, false, cond, eqb}
use Rattle.std.proofs.Common.{Option, Some, None, refl, sym, ap, ◌∙◌}
use Rattle.std.specs.Prelude.{filter, max}
use Rattle.std.specs.List.{AllByRecursion}
use Rattle.cip_manager.specs.declared.connection.Connection.{Connection}
use Rattle.cip_manager.specs.Connection.{is_of_session, is_open_at}
use Rattle.cip_manager.specs.Runs.{ManagerCall, Opens, Closes, Receives, Ends, IsOfOther, of_session}
use Rattle.cip_manager.specs.Runs.{state_after, is_open_after_all}
use Rattle.cip_manager.proofs.SessionLemmas.{calls-of_other}
use Rattle.cip_manager.proofs.ListLemmas.{filter-true, filter-filter, filter-swap}
use Rattle.enip_wire.specs.Frames.{Frame}
use Rattle.enip_wire.specs.Stream.{Parsed, held_and_taken, parsed}
use Rattle.enip_wire.specs.Stream.Parsed.{Incomplete, WholeFrame, TooLongHeader}
use Rattle.enip_adapter.specs.declared.peer.Rights.{Rights}
use Rattle.enip_adapter.specs.declared.peer.Rights.TheVariants.{Write}
use Rattle.enip_adapter.specs.declared.peer.Session.{Session}
use Rattle.enip_adapter.specs.declared.shared.Shared.{Shared}
use Rattle.enip_adapter.specs.Commands.{command_served, long_refused}
use Rattle.enip_adapter.specs.Lookup.{first_with}
use Rattle.enip_adapter.specs.Replies.{Served, leaving}
use Rattle.enip_adapter.specs.SendRRData.{opener_of}
use Rattle.enip_adapter.specs.Turn.{State, TurnResult, begun, after, session_of, serve_found, end_found, session_after}
use Rattle.enip_adapter.specs.Turn.{shared_after, without_connections, at_moment}
use Rattle.enip_adapter.specs.Calls.{AdapterState, Held, Call, Meaning, after_call, bytes_found, bytes_held}
use Rattle.enip_adapter.specs.Calls.{held_at_beginning, piece_to, events_of_parsed}
use Rattle.enip_adapter.specs.Calls.Call.{Begins_peer, Feeds, Ends_peer, Ticks, Writes}
use Rattle.enip_adapter.specs.Runs.{after_calls, IsForOther, moments_of_calls, is_open_at_all}
use Rattle.enip_adapter.proofs.CommandLemmas.{after_command}
use Rattle.enip_adapter.proofs.ListLemmas.{both, first_with-number, first_with-changed, first_with-removed}
use Rattle.enip_adapter.proofs.ListLemmas.{first_with-append, first_with-behind}
use Rattle.enip_adapter.specs.Rights.{after_for, answer_for}
use Rattle.enip_adapter.proofs.BeginLemmas.{each-begun}

abbrev connections_of : ℕ → Shared → List Connection
connections_of peer shared = of_session peer shared.manager.connections

-- What a change for another session keeps: this session's connections, and the current time.
pub record Leaves (peer : ℕ) (old new : Shared) : Type 0 where
  pub connections : connections_of peer new ≡ connections_of peer old
  pub moment : new.moment ≡ old.moment

leaves-same : (peer : ℕ) (shared : Shared) → Leaves peer shared shared
leaves-same peer shared = record { connections = refl; moment = refl }

-- One call of the manager for another session.
leaves-manager : (peer : ℕ) (shared : Shared) (rights : Rights) (call : ManagerCall) → IsOfOther peer call
    → of_session peer (state_after (after_for rights) (answer_for rights)
    (record { manager = shared.manager; router = shared.objects }) (call ∷ [])).manager.connections
    ≡ filter (is_open_after_all (call ∷ [])) (connections_of peer shared)
leaves-manager peer shared rights call other =
    calls-of_other (after_for rights) (answer_for rights) peer (record { manager = shared.manager; router = shared.objects })
    (call ∷ []) (other, tt)

leaves-command : (peer : ℕ) (shared : Shared) (session : Session) (f : Frame) → session.handle ≢ peer
    → Leaves peer shared (command_served shared session f).shared
leaves-command peer shared session f differ =
    after_command (Leaves peer shared) shared session
    (record {
      same = leaves-same peer shared;
      opens = λ layout bytes. record {
        connections = leaves-manager peer shared session.rights (Opens layout shared.moment (opener_of session) bytes) differ
            ∙ filter-true (connections_of peer shared);
        moment = refl;
      };
      closes = λ bytes. record {
        connections = leaves-manager peer shared session.rights (Closes session.handle bytes) differ
            ∙ filter-true (connections_of peer shared);
        moment = refl;
      };
      executes = λ request. record { connections = refl; moment = refl };
      receives = λ id item. record {
        connections = leaves-manager peer shared session.rights (Receives shared.moment session.handle id item) differ
            ∙ filter-true (connections_of peer shared);
        moment = refl;
      };
    }) f

leaves-ended : (peer : ℕ) (shared : Shared) (session : ℕ) → session ≢ peer
    → Leaves peer shared (without_connections shared session)
leaves-ended peer shared session differ = record {
  connections = leaves-manager peer shared Write (Ends session) differ ∙ filter-true (connections_of peer shared);
  moment = refl;
}

leaves-then : (peer : ℕ) (a b c : Shared) → Leaves peer a b → Leaves peer b c → Leaves peer a c
leaves-then peer a b c x y = record { connections = y.connections ∙ x.connections; moment = y.moment ∙ x.moment }

leaves-after : (peer : ℕ) (shared : Shared) (session : Session) (served : Served) → session.handle ≢ peer
    → Leaves peer shared served.shared → Leaves peer shared (shared_after session served)
leaves-after peer shared session served differ serves =
    both (Leaves peer shared) served.reaction.close _ _
    (leaves-then peer shared served.shared _ serves (leaves-ended peer served.shared session.handle differ)) serves

-- What an event for another peer keeps of a peer.
pub record Spares (peer : ℕ) (old new : State) : Type 0 where
  pub connections : connections_of peer new.shared ≡ connections_of peer old.shared
  pub moment : new.shared.moment ≡ old.shared.moment
  pub session : (session : Session) → session_of old peer ≡ Some session → session_of new peer ≡ Some session

spares-same : (peer : ℕ) (s : State) → Spares peer s s
spares-same peer s = record { connections = refl; moment = refl; session = λ session e. e }

spares-served : (s : State) (peer other : ℕ) (serve : Session → Served) (o : Option Session) → other ≢ peer
    → session_of s other ≡ o
    → ((session : Session) → session.handle ≢ peer → Leaves peer s.shared (serve session).shared)
    → Spares peer s (serve_found s other serve o).state
spares-served s peer other serve None differ found serves = spares-same peer s
spares-served s peer other serve (Some session) differ found serves =
    let number : session.handle ≡ other = first_with-number (λ p. p.handle) other session s.peers found in
    let differs : session.handle ≢ peer = λ e. differ (sym number ∙ e) in
    let left : Leaves peer s.shared (shared_after session (serve session))
    = leaves-after peer s.shared session (serve session) differs (serves session differs) in
    both (λ (t : TurnResult). Spares peer s t.state) session.closed _ _ (spares-same peer s)
    (record {
      connections = left.connections;
      moment = left.moment;
      session = λ mine e. first_with-changed (λ p. p.handle) peer other
          (session_after session (serve session)) s.peers number differ ∙ e;
    })

pub spares-ended : (s : State) (peer other : ℕ) (o : Option Session) → other ≢ peer → Spares peer s (end_found s other o)
spares-ended s peer other None differ = spares-same peer s
spares-ended s peer other (Some session) differ = record {
  connections = (leaves-ended peer s.shared other differ).connections;
  moment = refl;
  session = λ mine e. first_with-removed (λ p. p.handle) peer other s.peers differ ∙ e;
}

spares-begun : (s : State) (rights : Rights) (group : Option ℕ) (peer : ℕ) → Spares peer s (begun s rights group).state
spares-begun s rights group peer =
    each-begun (λ (t : TurnResult). Spares peer s t.state) s rights group (λ full. spares-same peer s)
    (record { connections = refl; moment = refl; session = λ mine e. first_with-append (λ p. p.handle) peer mine s.peers _ e })

spares-parsed_frame : (s : State) (peer other : ℕ) (x : Parsed) → other ≢ peer
    → Spares peer s (after s (events_of_parsed other x))
spares-parsed_frame s peer other Incomplete differ = spares-same peer s
spares-parsed_frame s peer other (WholeFrame f) differ =
    spares-served s peer other (λ session. command_served s.shared session f) (session_of s other) differ refl
    (λ session d. leaves-command peer s.shared session f d)
spares-parsed_frame s peer other (TooLongHeader h) differ =
    spares-served s peer other (λ session. leaving s.shared (long_refused session h)) (session_of s other) differ refl
    (λ session d. leaves-same peer s.shared)

pub spares-piece : (s : State) (peer other : ℕ) (piece : List ℕ) (held : List Held) (o : Option Session) → other ≢ peer
    → Spares peer s (after s (piece_to held other piece o).events)
spares-piece s peer other piece held None differ = spares-same peer s
spares-piece s peer other piece held (Some session) differ =
    both (λ (m : Meaning). Spares peer s (after s m.events)) session.closed _ _ (spares-same peer s)
    (spares-parsed_frame s peer other (parsed (held_and_taken (bytes_held held other) piece)) differ)

-- The bytes held of a peer, after a piece for another peer and after a begin.
held-piece : (peer other : ℕ) (piece : List ℕ) (held : List Held) (o : Option Session) → other ≢ peer
    → bytes_held (piece_to held other piece o).held peer ≡ bytes_held held peer
held-piece peer other piece held None differ = refl
held-piece peer other piece held (Some session) differ =
    both (λ (m : Meaning). bytes_held m.held peer ≡ bytes_held held peer) session.closed _ _ refl
    (ap bytes_found (first_with-changed (λ h. h.peer) peer other _ held refl differ))

pub held-behind : (peer handle : ℕ) (held : List Held)
    → bytes_held (held ++ record { peer = handle; bytes = [] } ∷ []) peer ≡ bytes_held held peer
held-behind peer handle held = go (first_with (λ h. h.peer) peer held) refl
  where
    nothing : (b : Bool) → bytes_found (cond b (Some (record { peer = handle; bytes = [] })) None) ≡ []
    nothing true = refl
    nothing false = refl

    go : (o : Option Held) → first_with (λ h. h.peer) peer held ≡ o
        → bytes_held (held ++ record { peer = handle; bytes = [] } ∷ []) peer ≡ bytes_held held peer
    go None e =
        ap bytes_found (first_with-behind (λ h. h.peer) peer held _ e) ∙ nothing (eqb handle peer)
        ∙ sym (ap bytes_found e)
    go (Some h) e = ap bytes_found (first_with-append (λ h. h.peer) peer h held _ e) ∙ sym (ap bytes_found e)

pub held-begun : (s : State) (rights : Rights) (group : Option ℕ) (peer : ℕ) (held : List Held)
    → bytes_held (held_at_beginning held (begun s rights group).answer.output) peer ≡ bytes_held held peer
held-begun s rights group peer held =
    each-begun (λ (t : TurnResult). bytes_held (held_at_beginning held t.answer.output) peer ≡ bytes_held held peer)
    s rights group (λ full. refl) (held-behind peer s.next_handle held)

-- The state after a time was given.
abbrev pub at_state : State → ℕ → State
at_state s now = record s { shared = at_moment s.shared now }

at-connections : (s : State) (peer now : ℕ)
    → connections_of peer (at_state s now).shared
    ≡ filter (is_open_at (max s.shared.moment now)) (connections_of peer s.shared)
at-connections s peer now = filter-swap (is_of_session peer)
    (is_open_at (max s.shared.moment now)) s.shared.manager.connections

-- One call for another peer, or a tick.
pub held-call : (peer : ℕ) (a : AdapterState) (c : Call) → IsForOther peer c → bytes_held (after_call a c).held peer
    ≡ bytes_held a.held peer
held-call peer a (Begins_peer rights group) other = held-begun a.state rights group peer a.held
held-call peer a (Feeds now q piece) other = held-piece peer q piece a.held (session_of a.state q) other
held-call peer a (Ends_peer q) other = ap bytes_found (first_with-removed (λ h. h.peer) peer q a.held other)
held-call peer a (Ticks now) other = refl
held-call peer a (Writes write) other = refl

pub session-call : (peer : ℕ) (session : Session) (a : AdapterState) (c : Call) → IsForOther peer c
    → session_of a.state peer ≡ Some session
    → session_of (after_call a c).state peer ≡ Some session
session-call peer session a (Begins_peer rights group) other e = (spares-begun a.state rights group peer).session session e
session-call peer session a (Feeds now q piece) other e =
    (spares-piece (at_state a.state now) peer q piece a.held (session_of a.state q) other).session session e
session-call peer session a (Ends_peer q) other e =
    (spares-ended a.state peer q (session_of a.state q) other).session session e
session-call peer session a (Ticks now) other e = e
session-call peer session a (Writes write) other e = e

pub session-calls : (peer : ℕ) (session : Session) (a : AdapterState) (calls : List Call)
    → AllByRecursion (IsForOther peer) calls
    → session_of a.state peer ≡ Some session → session_of (after_calls a calls).state peer ≡ Some session
session-calls peer session a [] others e = e
session-calls peer session a (c ∷ cs) others e =
    session-calls peer session (after_call a c) cs others.1 (session-call peer session a c others.0 e)

pub held-calls : (peer : ℕ) (a : AdapterState) (calls : List Call) → AllByRecursion (IsForOther peer) calls
    → bytes_held (after_calls a calls).held peer ≡ bytes_held a.held peer
held-calls peer a [] others = refl
held-calls peer a (c ∷ cs) others = held-calls peer (after_call a c) cs others.1 ∙ held-call peer a c others.0

-- The connections after a call that keeps them, and after one that gives a time.
still : (peer : ℕ) (s t : State) (calls : List Call) (last : List Connection) → Spares peer s t
    → last ≡ filter (is_open_at_all (moments_of_calls t.shared.moment calls)) (connections_of peer t.shared)
    → last ≡ filter (is_open_at_all (moments_of_calls s.shared.moment calls)) (connections_of peer s.shared)
still peer s t calls last spares e =
    e ∙ (ap (λ m. filter (is_open_at_all (moments_of_calls m calls)) (connections_of peer t.shared)) spares.moment
    ∙ ap (filter (is_open_at_all (moments_of_calls s.shared.moment calls))) spares.connections)

moved : (peer : ℕ) (s : State) (now : ℕ) (calls : List Call) (last : List Connection)
    → last ≡ filter (is_open_at_all (moments_of_calls (max s.shared.moment now) calls))
    (connections_of peer (at_state s now).shared)
    → last ≡ filter (is_open_at_all (max s.shared.moment now ∷ moments_of_calls (max s.shared.moment now) calls))
    (connections_of peer s.shared)
moved peer s now calls last e =
    e ∙ (ap (filter (is_open_at_all (moments_of_calls (max s.shared.moment now) calls))) (at-connections s peer now)
    ∙ filter-filter (is_open_at (max s.shared.moment now))
    (is_open_at_all (moments_of_calls (max s.shared.moment now) calls)) (connections_of peer s.shared))

pub connections-calls : (peer : ℕ) (a : AdapterState) (calls : List Call) → AllByRecursion (IsForOther peer) calls
    → of_session peer (after_calls a calls).state.shared.manager.connections
    ≡ filter (is_open_at_all (moments_of_calls a.state.shared.moment calls))
    (of_session peer a.state.shared.manager.connections)
connections-calls peer a [] others = sym (filter-true (connections_of peer a.state.shared))
connections-calls peer a (Begins_peer rights group ∷ cs) others =
    still peer a.state (begun a.state rights group).state cs _ (spares-begun a.state rights group peer)
    (connections-calls peer (after_call a (Begins_peer rights group)) cs others.1)
connections-calls peer a (Feeds now q piece ∷ cs) others =
    moved peer a.state now cs _
    (still peer (at_state a.state now) (after_call a (Feeds now q piece)).state cs _
    (spares-piece (at_state a.state now) peer q piece a.held (session_of a.state q) others.0)
    (connections-calls peer (after_call a (Feeds now q piece)) cs others.1))
connections-calls peer a (Ends_peer q ∷ cs) others =
    still peer a.state (end_found a.state q (session_of a.state q)) cs _
    (spares-ended a.state peer q (session_of a.state q) others.0)
    (connections-calls peer (after_call a (Ends_peer q)) cs others.1)
connections-calls peer a (Ticks now ∷ cs) others =
    moved peer a.state now cs _ (connections-calls peer (after_call a (Ticks now)) cs others.1)
connections-calls peer a (Writes write ∷ cs) others =
    connections-calls peer (after_call a (Writes write)) cs others.1
