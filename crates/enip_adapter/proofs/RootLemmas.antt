-- Each open connection was opened by a peer that is held and not closed.
use Rattle.std.proofs.Common.{◌≡◌, ◌≢◌, ℕ, List, [], ◌∷◌, ◌++◌, Bool, true, false, cond, not, eqb}
use Rattle.std.proofs.Common.{Option, Some, None, refl, sym, ap, subst, ◌∙◌}
use Rattle.std.specs.Prelude.{filter, find, max}
use Rattle.std.specs.List.{AllByRecursion}
use Rattle.std.proofs.lemmas.Bool.{eqb-true, eqb-false, eq-eqb}
use Rattle.cip_ledger.specs.Device.{Device}
use Rattle.cip_manager.specs.declared.connection.Connection.{Connection}
use Rattle.cip_manager.specs.Closing.{triad_of}
use Rattle.cip_manager.specs.Connection.{is_of_session, is_of_session_with, is_named, is_open_at}
use Rattle.cip_manager.specs.Items.{with_first as with_first_that}
use Rattle.cip_manager.specs.Manager.{ManagerState}
use Rattle.cip_manager.specs.Opening.{new_connection}
use Rattle.cip_manager.proofs.CallLemmas.{after_open, after_close, after_item_turn}
use Rattle.enip_wire.specs.Frames.{Frame}
use Rattle.enip_adapter.specs.declared.adapter.Limits.{Limits}
use Rattle.enip_adapter.specs.declared.adapter.Shares.{Shares}
use Rattle.enip_adapter.specs.declared.peer.Rights.{Rights}
use Rattle.enip_adapter.specs.declared.peer.Session.{Session}
use Rattle.enip_adapter.specs.declared.shared.Listen.{Listen}
use Rattle.enip_adapter.specs.declared.shared.Shared.{Shared}
use Rattle.enip_adapter.specs.declared.no_reply_reason.NoReplyReason.TheVariants.{NotServed}
use Rattle.enip_adapter.specs.Adapter.{shared_adapter}
use Rattle.enip_adapter.specs.Commands.{command_served, long_refused}
use Rattle.enip_adapter.specs.Lookup.{with_first}
use Rattle.enip_adapter.specs.Replies.{Served, leaving}
use Rattle.enip_adapter.specs.SendRRData.{opener_of}
use Rattle.enip_adapter.specs.Turn.{State, Event, TurnResult, turn, begun, after, session_of, serve_found, end_found}
use Rattle.enip_adapter.specs.Turn.{session_after, without_connections, with_peer, turned}
use Rattle.enip_adapter.specs.Turn.Event.{Begin, End, At, Framed, Long, Written}
use Rattle.enip_adapter.specs.Turn.Output.{NoReply}
use Rattle.enip_adapter.specs.Calls.{AdapterState, Call, call_meaning, after_call}
use Rattle.enip_adapter.specs.Runs.{after_calls}
use Rattle.enip_adapter.specs.Serving.{is_open}
use Rattle.enip_adapter.proofs.CommandLemmas.{after_command}
use Rattle.enip_adapter.proofs.ListLemmas.{both, first_with-number, first_with-changed, first_with-set}
use Rattle.enip_adapter.proofs.ListLemmas.{first_with-append, first_with-removed}
use Rattle.enip_adapter.proofs.OwnLemmas.{served_turn}
use Rattle.enip_adapter.specs.Rights.{after_for, answer_for}
use Rattle.enip_adapter.proofs.BeginLemmas.{each-begun}

-- ---- what holds of each element of a list

module _ {X : Type 0} where
  pub each-weaker : (P Q : X → Type 0) (xs : List X) → ((x : X) → P x → Q x) → AllByRecursion P xs
      → AllByRecursion Q xs
  each-weaker P Q [] h all = tt
  each-weaker P Q (x ∷ xs) h all = (h x all.0, each-weaker P Q xs h all.1)

  pub each-filter : (test : X → Bool) (P Q : X → Type 0) (xs : List X) → ((x : X) → test x ≡ true → P x → Q x)
      → AllByRecursion P xs → AllByRecursion Q (filter test xs)
  each-filter test P Q [] h all = tt
  each-filter test P Q (x ∷ xs) h all = go (test x) refl (each-filter test P Q xs h all.1)
    where
      go : (b : Bool) → test x ≡ b → AllByRecursion Q (filter test xs)
          → AllByRecursion Q (cond b (x ∷ filter test xs) (filter test xs))
      go true t rest = (h x t all.0, rest)
      go false t rest = rest

  pub each-append : (P : X → Type 0) (xs : List X) (x : X) → AllByRecursion P xs → P x → AllByRecursion P (xs ++ x ∷ [])
  each-append P [] x all p = (p, tt)
  each-append P (y ∷ ys) x all p = (all.0, each-append P ys x all.1 p)

  each-found : (P : X → Type 0) (test : X → Bool) (old : X) (xs : List X) → find test xs ≡ Some old
      → AllByRecursion P xs → P old
  each-found P test old [] e all = cc
  each-found P test old (x ∷ xs) e all = go (test x) (λ f. each-found P test old xs f all.1) e
    where
      go : (b : Bool) → (find test xs ≡ Some old → P old) → cond b (Some x) (find test xs) ≡ Some old → P old
      go true rest f = let same : x ≡ old = cc in subst P same all.0
      go false rest f = rest f

  each-changed : (P : X → Type 0) (test : X → Bool) (new : X) (xs : List X) → P new → AllByRecursion P xs
      → AllByRecursion P (with_first_that test new xs)
  each-changed P test new [] p all = tt
  each-changed P test new (x ∷ xs) p all =
      both (AllByRecursion P) (test x) _ _ (p, all.1) (all.0, each-changed P test new xs p all.1)

-- ---- the sessions of connections

abbrev AreOf : (ℕ → Type 0) → List Connection → Type 0
AreOf R connections = AllByRecursion (λ (c : Connection). R c.session) connections

-- A frame opens connections of its own session only.
of-command : (R : ℕ → Type 0) (shared : Shared) (session : Session) (f : Frame) → R session.handle
    → AreOf R shared.manager.connections → AreOf R (command_served shared session f).shared.manager.connections
of-command R shared session f own all =
    let m : ManagerState = shared.manager in
    after_command (λ (t : Shared). AreOf R t.manager.connections) shared session
    (record {
      same = all;
      opens = λ layout bytes. after_open (λ t. AreOf R t.manager.connections) layout shared.manager shared.moment
          (opener_of session) bytes (λ reply refused. all)
          (λ asked check. each-append (λ (c : Connection). R c.session) shared.manager.connections
          (new_connection shared.manager.next_id shared.moment (opener_of session) asked) all own);
      closes = λ bytes. after_close (λ t. AreOf R t.connections) shared.manager session.handle bytes all
          (λ request e. each-filter (λ c. not (is_of_session_with session.handle (triad_of request) c))
          (λ (c : Connection). R c.session) (λ (c : Connection). R c.session) shared.manager.connections
          (λ c t r. r) all);
      executes = λ request. all;
      receives = λ id item. after_item_turn (after_for session.rights) (answer_for session.rights) (λ cs. AreOf R cs) shared.manager.connections
          shared.moment session.handle id item shared.objects all
          (λ old new found same. each-changed (λ (c : Connection). R c.session) (is_named session.handle id) new
          shared.manager.connections
          (subst R (sym same.session) (each-found (λ (c : Connection). R c.session) (is_named session.handle id) old
          shared.manager.connections found all)) all);
    }) f

abbrev IsHeldOpen : State → ℕ → Type 0
IsHeldOpen s peer = is_open (session_of s peer) ≡ true

abbrev pub IsRooted : State → Type 0
IsRooted s = AreOf (IsHeldOpen s) s.shared.manager.connections

-- The session of a peer that is held and not closed.
pub record HeldOpen (s : State) (peer : ℕ) : Type 0 where
  pub session : Session
  pub found : session_of s peer ≡ Some session
  pub alive : session.closed ≡ false

pub held-open : (s : State) (peer : ℕ) → IsHeldOpen s peer → HeldOpen s peer
held-open s peer e = go (session_of s peer) refl e
  where
    by_close : (session : Session) → session_of s peer ≡ Some session → (b : Bool) → session.closed ≡ b
        → not b ≡ true → HeldOpen s peer
    by_close session f true k bad = cc
    by_close session f false k same = record { session = session; found = f; alive = k }

    go : (o : Option Session) → session_of s peer ≡ o → is_open o ≡ true → HeldOpen s peer
    go None f bad = cc
    go (Some session) f opened = by_close session f session.closed refl opened

-- A session that is kept is still open.
kept-open : (s t : State) (peer : ℕ)
    → ((session : Session) → session_of s peer ≡ Some session → session_of t peer ≡ Some session)
    → IsHeldOpen s peer → IsHeldOpen t peer
kept-open s t peer keeps e =
    let held : HeldOpen s peer = held-open s peer e in
    ap is_open (keeps held.session held.found) ∙ ap not held.alive

-- An open peer's session, and the connections when it has been served.
record IsServing (s : State) (peer : ℕ) (serve : Session → Served) (session : Session) : Type 0 where
  found : session_of s peer ≡ Some session
  own : AreOf (IsHeldOpen s) (serve session).shared.manager.connections

module _ (s : State) (peer : ℕ) (serve : Session → Served) (session : Session) (on : IsServing s peer serve session) where
  number : session.handle ≡ peer
  number = first_with-number (λ (p : Session). p.handle) peer session s.peers on.found

  abbrev next : Shared → State
  next shared = record s {
    shared = shared;
    peers = with_first (λ (p : Session). p.handle) peer (session_after session (serve session)) s.peers;
  }

  next-other : (shared : Shared) (n : ℕ) → peer ≢ n → IsHeldOpen s n → IsHeldOpen (next shared) n
  next-other shared n differ e =
      ap is_open (first_with-changed (λ (p : Session). p.handle) n peer
      (session_after session (serve session)) s.peers number differ) ∙ e

  of-other : (c : Connection) → not (is_of_session session.handle c) ≡ true → peer ≢ c.session
  of-other c t same = wrong (is_of_session session.handle c) (eq-eqb c.session session.handle (sym same ∙ sym number)) t
    where
      wrong : (b : Bool) → b ≡ true → not b ≡ true → ⊥
      wrong true e f = cc
      wrong false e f = cc

  rooted-closed : IsRooted (next (without_connections (serve session).shared session.handle))
  rooted-closed =
      each-filter (λ c. not (is_of_session session.handle c)) (λ (c : Connection). IsHeldOpen s c.session)
      (λ (c : Connection). IsHeldOpen (next (without_connections (serve session).shared session.handle)) c.session)
      (serve session).shared.manager.connections
      (λ c t e. next-other (without_connections (serve session).shared session.handle) c.session (of-other c t) e) on.own

  next-own : (serve session).reaction.close ≡ false → (n : ℕ) (b : Bool) → eqb peer n ≡ b → IsHeldOpen s n
      → IsHeldOpen (next (serve session).shared) n
  next-own going n true t e =
      subst (λ k. IsHeldOpen (next (serve session).shared) k) (eqb-true peer n t)
      (ap is_open (first_with-set (λ (p : Session). p.handle) peer session
      (session_after session (serve session)) s.peers on.found number) ∙ ap not going)
  next-own going n false t e = next-other (serve session).shared n (eqb-false peer n t) e

  rooted-on : (serve session).reaction.close ≡ false → IsRooted (next (serve session).shared)
  rooted-on going =
      each-weaker (λ (c : Connection). IsHeldOpen s c.session)
      (λ (c : Connection). IsHeldOpen (next (serve session).shared) c.session)
      (serve session).shared.manager.connections
      (λ c e. next-own going c.session (eqb peer c.session) refl e) on.own

  rooted-next : (b : Bool) → (serve session).reaction.close ≡ b
      → IsRooted (next (cond b (without_connections (serve session).shared session.handle) (serve session).shared))
  rooted-next true shut = rooted-closed
  rooted-next false going = rooted-on going

rooted-served : (s : State) (peer : ℕ) (serve : Session → Served)
    → ((session : Session) → IsHeldOpen s session.handle
    → AreOf (IsHeldOpen s) (serve session).shared.manager.connections)
    → IsRooted s → IsRooted (serve_found s peer serve (session_of s peer)).state
rooted-served s peer serve serves rooted = go (session_of s peer) refl
  where
    by_close : (session : Session) → session_of s peer ≡ Some session → (b : Bool) → session.closed ≡ b
        → IsRooted (cond b (turned s (NoReply NotServed) true) (served_turn s peer serve session)).state
    by_close session found true shut = rooted
    by_close session found false alive =
        let same : session.handle ≡ peer = first_with-number (λ (p : Session). p.handle) peer session s.peers found in
        rooted-next s peer serve session (record {
          found = found;
          own = serves session (ap (λ n. is_open (session_of s n)) same ∙ (ap is_open found ∙ ap not alive));
        }) (serve session).reaction.close refl

    go : (o : Option Session) → session_of s peer ≡ o → IsRooted (serve_found s peer serve o).state
    go None e = rooted
    go (Some session) e = by_close session e session.closed refl

rooted-begun : (s : State) (rights : Rights) (group : Option ℕ) → IsRooted s → IsRooted (begun s rights group).state
rooted-begun s rights group rooted =
    each-begun (λ (t : TurnResult). IsRooted t.state) s rights group (λ full. rooted)
    (each-weaker (λ (c : Connection). IsHeldOpen s c.session)
    (λ (c : Connection). IsHeldOpen (with_peer s rights group) c.session) s.shared.manager.connections
    (λ c e. kept-open s (with_peer s rights group) c.session
    (λ mine f. first_with-append (λ (p : Session). p.handle) c.session mine s.peers _ f) e) rooted)

rooted-ended : (s : State) (peer : ℕ) (o : Option Session) → IsRooted s → IsRooted (end_found s peer o)
rooted-ended s peer None rooted = rooted
rooted-ended s peer (Some session) rooted =
    each-filter (λ c. not (is_of_session peer c)) (λ (c : Connection). IsHeldOpen s c.session)
    (λ (c : Connection). IsHeldOpen (end_found s peer (Some session)) c.session) s.shared.manager.connections
    (λ c t e. ap is_open (first_with-removed (λ (p : Session). p.handle) c.session peer s.peers
    (λ same. of-another c same t)) ∙ e) rooted
  where
    of-another : (c : Connection) → peer ≡ c.session → not (is_of_session peer c) ≡ true → ⊥
    of-another c same t = wrong (is_of_session peer c) (eq-eqb c.session peer (sym same)) t
      where
        wrong : (b : Bool) → b ≡ true → not b ≡ true → ⊥
        wrong true e f = cc
        wrong false e f = cc

rooted-event : (s : State) (e : Event) → IsRooted s → IsRooted (turn s e).state
rooted-event s (Begin rights group) rooted = rooted-begun s rights group rooted
rooted-event s (End peer) rooted = rooted-ended s peer (session_of s peer) rooted
rooted-event s (At now) rooted =
    each-filter (is_open_at (max s.shared.moment now)) (λ (c : Connection). IsHeldOpen s c.session)
    (λ (c : Connection). IsHeldOpen s c.session) s.shared.manager.connections (λ c t r. r) rooted
rooted-event s (Written write) rooted = rooted
rooted-event s (Framed peer f) rooted =
    rooted-served s peer (λ session. command_served s.shared session f)
    (λ session own. of-command (IsHeldOpen s) s.shared session f own rooted) rooted
rooted-event s (Long peer h) rooted =
    rooted-served s peer (λ session. leaving s.shared (long_refused session h)) (λ session own. rooted) rooted

rooted-events : (s : State) (es : List Event) → IsRooted s → IsRooted (after s es)
rooted-events s [] rooted = rooted
rooted-events s (e ∷ es) rooted = rooted-events (turn s e).state es (rooted-event s e rooted)

rooted-calls : (a : AdapterState) (calls : List Call) → IsRooted a.state → IsRooted (after_calls a calls).state
rooted-calls a [] rooted = rooted
rooted-calls a (c ∷ cs) rooted =
    rooted-calls (after_call a c) cs (rooted-events a.state (call_meaning a c).events rooted)

pub rooted-reached : (device : Device) (listen : Listen) (limits : Limits) (shares : Shares) (calls : List Call)
    → IsRooted (after_calls (shared_adapter device listen limits shares) calls).state
rooted-reached device listen limits shares calls =
    rooted-calls (shared_adapter device listen limits shares) calls tt
