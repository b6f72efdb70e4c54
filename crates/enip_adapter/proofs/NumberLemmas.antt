-- Session handles and O->T IDs rise.
use Rattle.std.proofs.Common.{◌≡◌, ℕ, ◌+◌, ◌<◌, ◌≤◌, List, [], ◌∷◌, ◌++◌, map, Bool, true, false, cond, not, ◌||◌}
use Rattle.std.proofs.Common.{eqb, Option, Some, None, refl, sym, ap, subst, ◌∙◌, arith}
use Rattle.std.specs.Prelude.{filter, max, All}
use Rattle.std.specs.List.{list_any}
use Rattle.std.proofs.lemmas.Bool.{eq-eqb, ne_eqb}
use Rattle.std.proofs.lemmas.List.Elements.{All-nil, All-cons, All-head, All-tail, All-push, All-weaker, All-filter}
use Rattle.std.proofs.lemmas.List.Elements.{filter-append}
use Rattle.cip_manager.specs.declared.connection.Connection.{Connection}
use Rattle.cip_manager.specs.Connection.{is_of_session, is_open_at}
use Rattle.cip_manager.specs.Manager.{ManagerState}
use Rattle.cip_manager.specs.Opening.{new_connection}
use Rattle.cip_manager.proofs.CallLemmas.{after_open, after_close, after_item_turn}
use Rattle.cip_manager.proofs.ListLemmas.{All-with_first, filter-swap}
use Rattle.cip_ledger.specs.Device.{Device}
use Rattle.enip_wire.specs.Stream.{Parsed}
use Rattle.enip_wire.specs.Stream.Parsed.{Incomplete, WholeFrame, TooLongHeader}
use Rattle.enip_wire.specs.Frames.{Frame}
use Rattle.enip_adapter.specs.declared.adapter.Limits.{Limits}
use Rattle.enip_adapter.specs.declared.adapter.Shares.{Shares}
use Rattle.enip_adapter.specs.declared.peer.Rights.{Rights}
use Rattle.enip_adapter.specs.declared.peer.Session.{Session}
use Rattle.enip_adapter.specs.declared.shared.Listen.{Listen}
use Rattle.enip_adapter.specs.declared.shared.Shared.{Shared}
use Rattle.enip_adapter.specs.Adapter.{shared_adapter}
use Rattle.enip_adapter.specs.Commands.{command_served, long_refused}
use Rattle.enip_adapter.specs.declared.no_reply_reason.NoReplyReason.TheVariants.{NoFrame}
use Rattle.enip_adapter.specs.Rights.{after_for, answer_for}
use Rattle.enip_adapter.specs.Replies.{Reply, Reply as replies, Served, leaving}
use Rattle.enip_adapter.specs.SendRRData.{opener_of}
use Rattle.enip_adapter.specs.Turn.{State, Event, Output, TurnResult, turn, begun, after, session_of, serve_found}
use Rattle.enip_adapter.specs.Turn.{end_found, sent}
use Rattle.enip_adapter.specs.Turn.Event.{Begin, End, At, Framed, Long, Written}
use Rattle.enip_adapter.specs.Turn.Output.{NoReply}
use Rattle.enip_adapter.specs.Calls.{AdapterState, Held, Call, Meaning, call_meaning, after_call, answer_of}
use Rattle.enip_adapter.specs.Calls.{at_a_moment, piece_to, events_of_parsed}
use Rattle.enip_adapter.specs.Calls.Call.{Begins_peer, Feeds, Ends_peer, Ticks, Writes}
use Rattle.enip_adapter.specs.Runs.{call_answers, handle_before, handles_in, RisesFrom, is_new, new_connections}
use Rattle.enip_adapter.specs.Runs.{ids_of_events}
use Rattle.enip_adapter.proofs.CommandLemmas.{after_command}
use Rattle.enip_adapter.proofs.EventLemmas.{of_piece}
use Rattle.enip_adapter.proofs.ListLemmas.{both}
use Rattle.enip_adapter.proofs.BeginLemmas.{each-begun}
use Rattle.enip_adapter.proofs.PeerLemmas.{at_state}

-- Serving a frame leaves the next handle unchanged.
next-served : (s : State) (peer : ℕ) (serve : Session → Served) (o : Option Session)
    → (serve_found s peer serve o).state.next_handle ≡ s.next_handle
next-served s peer serve None = refl
next-served s peer serve (Some session) =
    both (λ (t : TurnResult). t.state.next_handle ≡ s.next_handle) session.closed _ _ refl refl

pub next-parsed_frame : (s : State) (peer : ℕ) (x : Parsed) → (after s (events_of_parsed peer x)).next_handle
    ≡ s.next_handle
next-parsed_frame s peer Incomplete = refl
next-parsed_frame s peer (WholeFrame f) =
    next-served s peer (λ session. command_served s.shared session f) (session_of s peer)
next-parsed_frame s peer (TooLongHeader h) =
    next-served s peer (λ session. leaving s.shared (long_refused session h)) (session_of s peer)

-- A frame assigns no handle.
abbrev IsQuiet : Output → Type 0
IsQuiet output = (more : List ℕ) → handle_before output more ≡ more

quiet-sent : (reply : Reply) → IsQuiet (sent reply)
quiet-sent (replies.NoReply why) more = refl
quiet-sent (replies.Sends bytes) more = refl

quiet-served : (s : State) (peer : ℕ) (serve : Session → Served) (o : Option Session)
    → IsQuiet (serve_found s peer serve o).answer.output
quiet-served s peer serve None = λ more. refl
quiet-served s peer serve (Some session) =
    both (λ (t : TurnResult). IsQuiet t.answer.output) session.closed _ _ (λ more. refl)
    (quiet-sent (serve session).reaction.answer)

-- A call that assigns no handle and leaves the next one unchanged.
record IsPlain (s : State) (m : Meaning) : Type 0 where
  output : IsQuiet (answer_of s m).output
  next_handle : (after s m.events).next_handle ≡ s.next_handle

plain-feed : (s : State) (now peer : ℕ) (piece : List ℕ) (held : List Held) (o : Option Session)
    → IsPlain s (at_a_moment now (piece_to held peer piece o))
plain-feed s now peer piece held o =
    of_piece (IsPlain s) now peer piece held o (record { output = λ more. refl; next_handle = refl }) sights
  where
    sights : (x : Parsed) (n : ℕ) (left : List Held)
        → IsPlain s (at_a_moment now
        (record { events = events_of_parsed peer x; taken = n; held = left; dropped = false }))
    sights Incomplete n left = record { output = λ more. refl; next_handle = refl }
    sights (WholeFrame f) n left = record {
      output = quiet-served (at_state s now) peer (λ session. command_served (at_state s now).shared session f)
          (session_of (at_state s now) peer);
      next_handle = next-parsed_frame (at_state s now) peer (WholeFrame f);
    }
    sights (TooLongHeader h) n left = record {
      output = quiet-served (at_state s now) peer (λ session. leaving (at_state s now).shared (long_refused session h))
          (session_of (at_state s now) peer);
      next_handle = next-parsed_frame (at_state s now) peer (TooLongHeader h);
    }

pub next-ended : (s : State) (peer : ℕ) (o : Option Session) → (end_found s peer o).next_handle
    ≡ s.next_handle
next-ended s peer None = refl
next-ended s peer (Some session) = refl

rises-plain : (n m : ℕ) (output : Output) (more : List ℕ) → IsQuiet output → m ≡ n → RisesFrom m more
    → RisesFrom n (handle_before output more)
rises-plain n m output more quiet same rises = subst (RisesFrom n) (sym (quiet more))
    (subst (λ k. RisesFrom k more) same rises)

rises-begun : (s : State) (rights : Rights) (group : Option ℕ) (more : List ℕ)
    → RisesFrom (begun s rights group).state.next_handle more
    → RisesFrom s.next_handle (handle_before (begun s rights group).answer.output more)
rises-begun s rights group more =
    let P : TurnResult → Type 0 = λ t. RisesFrom t.state.next_handle more
    → RisesFrom s.next_handle (handle_before t.answer.output more) in
    each-begun P s rights group (λ full r. r) (λ r. (omega arith, r))

pub handles-rise : (a : AdapterState) (calls : List Call)
    → RisesFrom a.state.next_handle (handles_in (call_answers a calls))
handles-rise a [] = tt
handles-rise a (Begins_peer rights group ∷ cs) =
    rises-begun a.state rights group (handles_in (call_answers (after_call a (Begins_peer rights group)) cs))
    (handles-rise (after_call a (Begins_peer rights group)) cs)
handles-rise a (Feeds now peer piece ∷ cs) =
    let p : IsPlain a.state (call_meaning a (Feeds now peer piece)) = plain-feed a.state now peer piece a.held
    (session_of a.state peer) in
    rises-plain a.state.next_handle _ _ _ p.output p.next_handle
    (handles-rise (after_call a (Feeds now peer piece)) cs)
handles-rise a (Ends_peer peer ∷ cs) =
    rises-plain a.state.next_handle _ (NoReply NoFrame) _ (λ more. refl) (next-ended a.state peer (session_of a.state peer))
    (handles-rise (after_call a (Ends_peer peer)) cs)
handles-rise a (Ticks now ∷ cs) = handles-rise (after_call a (Ticks now)) cs
handles-rise a (Writes write ∷ cs) = handles-rise (after_call a (Writes write)) cs

-- Each of these IDs is below the next.
abbrev AreDrawn : ManagerState → Type 0
AreDrawn manager = All (λ c. c.o_to_t_id < manager.next_id) manager.connections

abbrev has_id : List Connection → Connection → Bool
has_id cs c = list_any (λ old. eqb old.o_to_t_id c.o_to_t_id) cs

-- Which connections are new, and the next ID: none is new and the next ID does not decrease; or one is new with the
-- next ID, which then rises by one.
data Draws (old new : ManagerState) : Type 0 where
  None_new : new_connections old.connections new.connections ≡ [] → old.next_id ≤ new.next_id → Draws old new
  One_new : (c : Connection) → new_connections old.connections new.connections ≡ c ∷ [] → c.o_to_t_id ≡ old.next_id
      → new.next_id ≡ old.next_id + 1 → Draws old new

record Rises (old new : ManagerState) : Type 0 where
  drawn : AreDrawn new
  draws : Draws old new

or-second : (b c : Bool) → c ≡ true → (b || c) ≡ true
or-second true c e = refl
or-second false c e = e

or-first : (b c : Bool) → b ≡ true → (b || c) ≡ true
or-first true c e = refl
or-first false c e = cc

or-none : (b c : Bool) → b ≡ false → c ≡ false → (b || c) ≡ false
or-none true c e f = cc
or-none false c e f = f

-- Each connection's own ID is found.
has_own : (cs : List Connection) → All (λ c. has_id cs c ≡ true) cs
has_own [] = All-nil (λ c. has_id [] c ≡ true)
has_own (x ∷ xs) =
    All-cons (λ c. has_id (x ∷ xs) c ≡ true) x xs (or-first _ _ (eq-eqb x.o_to_t_id x.o_to_t_id refl))
    (All-weaker (λ c. has_id xs c ≡ true) (λ c. has_id (x ∷ xs) c ≡ true)
    (λ c h. or-second (eqb x.o_to_t_id c.o_to_t_id) (has_id xs c) h) xs (has_own xs))

none-new : (before cs : List Connection) → All (λ c. has_id before c ≡ true) cs → new_connections before cs ≡ []
none-new before [] own = refl
none-new before (x ∷ xs) own =
    let head : has_id before x ≡ true = All-head (λ c. has_id before c ≡ true) x xs own in
    ap (λ b. cond (not b) (x ∷ new_connections before xs) (new_connections before xs)) head
    ∙ none-new before xs (All-tail (λ c. has_id before c ≡ true) x xs own)

-- No connection has the next ID.
next-free : (n : ℕ) (new : Connection) (cs : List Connection) → new.o_to_t_id ≡ n → All (λ c. c.o_to_t_id < n) cs
    → has_id cs new ≡ false
next-free n new [] e below = refl
next-free n new (x ∷ xs) e below =
    let head : x.o_to_t_id < n = All-head (λ c. c.o_to_t_id < n) x xs below in
    or-none _ _ (ne_eqb x.o_to_t_id new.o_to_t_id (λ same. omega arith))
    (next-free n new xs e (All-tail (λ c. c.o_to_t_id < n) x xs below))

rises-same : (m : ManagerState) → AreDrawn m → Rises m m
rises-same m drawn = record { drawn = drawn; draws = None_new (none-new m.connections m.connections (has_own m.connections)) (omega arith) }

rises-filter : (q : Connection → Bool) (m : ManagerState) → AreDrawn m
    → Rises m (record m { connections = filter q m.connections })
rises-filter q m drawn = record {
  drawn = All-filter q (λ c. c.o_to_t_id < m.next_id) m.connections drawn;
  draws = None_new (none-new m.connections (filter q m.connections)
      (All-filter q (λ c. has_id m.connections c ≡ true) m.connections (has_own m.connections))) (omega arith);
}

-- Connections that end after the change before.
rises-then : (q : Connection → Bool) (old mid : ManagerState) → Rises old mid
    → Rises old (record mid { connections = filter q mid.connections })
rises-then q old mid r = record {
  drawn = All-filter q (λ c. c.o_to_t_id < mid.next_id) mid.connections r.drawn;
  draws = go r.draws;
}
  where
    one : (c : Connection) (b : Bool) → new_connections old.connections (filter q mid.connections)
        ≡ cond b (c ∷ []) [] → c.o_to_t_id ≡ old.next_id
        → mid.next_id ≡ old.next_id + 1 → Draws old (record mid { connections = filter q mid.connections })
    one c true e id next = One_new c e id next
    one c false e id next = None_new e (omega arith)

    go : Draws old mid → Draws old (record mid { connections = filter q mid.connections })
    go (None_new e le) = None_new (filter-swap (is_new old.connections) q mid.connections ∙ ap (filter q) e) le
    go (One_new c e id next) = one c (q c)
        (filter-swap (is_new old.connections) q mid.connections ∙ ap (filter q) e) id next

rises-opening : (m : ManagerState) (c : Connection) → c.o_to_t_id ≡ m.next_id → AreDrawn m
    → Rises m (record m { next_id = m.next_id + 1; connections = m.connections ++ c ∷ [] })
rises-opening m c id drawn =
    let cs = m.connections in
    record {
      drawn = All-push (λ d. d.o_to_t_id < m.next_id + 1) cs c
          (All-weaker (λ d. d.o_to_t_id < m.next_id) (λ d. d.o_to_t_id < m.next_id + 1) (λ d h. omega arith) cs drawn)
          (omega arith);
      draws = One_new c
          (filter-append (is_new cs) cs (c ∷ [])
          ∙ (ap (λ xs. xs ++ new_connections cs (c ∷ [])) (none-new cs cs (has_own cs))
          ∙ ap (λ b. cond (not b) (c ∷ []) []) (next-free m.next_id c cs id drawn)))
          id refl;
    }

rises-command : (shared : Shared) (session : Session) (f : Frame) → AreDrawn shared.manager
    → Rises shared.manager (command_served shared session f).shared.manager
rises-command shared session f drawn =
    let m = shared.manager in
    after_command (λ t. Rises m t.manager) shared session
    (record {
      same = rises-same m drawn;
      opens = λ layout bytes. after_open (λ t. Rises m t.manager) layout m shared.moment (opener_of session) bytes
          (λ reply refused. rises-same m drawn)
          (λ asked check. rises-opening m (new_connection m.next_id shared.moment (opener_of session) asked) refl drawn);
      closes = λ bytes. after_close (Rises m) m session.handle bytes (rises-same m drawn)
          (λ request e. rises-filter _ m drawn);
      executes = λ request. rises-same m drawn;
      receives = λ id item. after_item_turn (after_for session.rights) (answer_for session.rights)
          (λ ds. Rises m (record m { connections = ds })) m.connections shared.moment
          session.handle id item shared.objects (rises-same m drawn)
          (λ old new found same. record {
            drawn = All-with_first (λ c. c.o_to_t_id < m.next_id) _ old new m.connections found
                (λ h. subst (λ n. n < m.next_id) (sym same.id) h) drawn;
            draws = None_new (none-new m.connections _
                (All-with_first (λ c. has_id m.connections c ≡ true) _ old new m.connections found
                (λ h. ap (λ n. list_any (λ d. eqb d.o_to_t_id n) m.connections) same.id ∙ h) (has_own m.connections)))
                (omega arith);
          });
    }) f

rises-served : (s : State) (peer : ℕ) (serve : Session → Served) (o : Option Session) → AreDrawn s.shared.manager
    → ((session : Session) → Rises s.shared.manager (serve session).shared.manager)
    → Rises s.shared.manager (serve_found s peer serve o).state.shared.manager
rises-served s peer serve None drawn rises = rises-same s.shared.manager drawn
rises-served s peer serve (Some session) drawn rises =
    both (λ (t : TurnResult). Rises s.shared.manager t.state.shared.manager) session.closed _ _
    (rises-same s.shared.manager drawn)
    (both (λ (t : Shared). Rises s.shared.manager t.manager) (serve session).reaction.close _ _
    (rises-then (λ c. not (is_of_session session.handle c)) s.shared.manager (serve session).shared.manager
    (rises session)) (rises session))

rises-ended : (s : State) (peer : ℕ) (o : Option Session) → AreDrawn s.shared.manager
    → Rises s.shared.manager (end_found s peer o).shared.manager
rises-ended s peer None drawn = rises-same s.shared.manager drawn
rises-ended s peer (Some session) drawn = rises-filter (λ c. not (is_of_session peer c)) s.shared.manager drawn

rises-event : (s : State) (e : Event) → AreDrawn s.shared.manager
    → Rises s.shared.manager (turn s e).state.shared.manager
rises-event s (Begin rights group) drawn =
    each-begun (λ (t : TurnResult). Rises s.shared.manager t.state.shared.manager) s rights group
    (λ full. rises-same s.shared.manager drawn) (rises-same s.shared.manager drawn)
rises-event s (End peer) drawn = rises-ended s peer (session_of s peer) drawn
rises-event s (At now) drawn = rises-filter (is_open_at (max s.shared.moment now)) s.shared.manager drawn
rises-event s (Written write) drawn = rises-same s.shared.manager drawn
rises-event s (Framed peer f) drawn =
    rises-served s peer (λ session. command_served s.shared session f) (session_of s peer) drawn
    (λ session. rises-command s.shared session f drawn)
rises-event s (Long peer h) drawn =
    rises-served s peer (λ session. leaving s.shared (long_refused session h)) (session_of s peer) drawn
    (λ session. rises-same s.shared.manager drawn)

-- What rises from a number rises from one below it.
rises-from : (n m : ℕ) (ids : List ℕ) → n ≤ m → RisesFrom m ids → RisesFrom n ids
rises-from n m [] le r = tt
rises-from n m (i ∷ is) le r = (let first : m ≤ i = r.0 in omega arith, r.1)

abbrev ids : List Connection → List ℕ
ids cs = map (λ c. c.o_to_t_id) cs

rises-draws : (old new : ManagerState) (more : List ℕ) → Draws old new → RisesFrom new.next_id more
    → RisesFrom old.next_id (ids (new_connections old.connections new.connections) ++ more)
rises-draws old new more (None_new e le) r =
    subst (λ cs. RisesFrom old.next_id (ids cs ++ more)) (sym e) (rises-from old.next_id new.next_id more le r)
rises-draws old new more (One_new c e id next) r =
    subst (λ cs. RisesFrom old.next_id (ids cs ++ more)) (sym e)
    (omega arith, subst (λ n. RisesFrom n more) (next ∙ ap (λ n. n + 1) (sym id)) r)

ids-rise-from : (s : State) (es : List Event) → AreDrawn s.shared.manager
    → RisesFrom s.shared.manager.next_id (ids_of_events s es)
ids-rise-from s [] drawn = tt
ids-rise-from s (e ∷ es) drawn =
    let r : Rises s.shared.manager (turn s e).state.shared.manager = rises-event s e drawn in
    rises-draws s.shared.manager (turn s e).state.shared.manager _ r.draws (ids-rise-from (turn s e).state es r.drawn)

pub ids-rise : (device : Device) (listen : Listen) (limits : Limits) (shares : Shares) (es : List Event)
    → RisesFrom limits.first_id (ids_of_events (shared_adapter device listen limits shares).state es)
ids-rise device listen limits shares es =
    ids-rise-from (shared_adapter device listen limits shares).state es
    (All-nil (λ (c : Connection). c.o_to_t_id < limits.first_id))
