-- No group has more connections than its share.
use Rattle.std.proofs.Common.{◌≡◌, ℕ, ◌+◌, ◌<◌, ◌≤◌, eqb, ltb-true, List, [], ◌∷◌, ◌++◌, length, append-nil, Bool, true, false, cond, not, Option, Some, None, refl, ap, subst, sym, ◌∙◌, arith}
use Rattle.std.specs.Prelude.{filter, max}
use Rattle.std.proofs.lemmas.Bool.{eqb-true}
use Rattle.std.proofs.lemmas.List.{length_push}
use Rattle.std.proofs.lemmas.List.Elements.{filter-append}
use Rattle.std.proofs.lemmas.List.Filters.{length-filter_both}
use Rattle.cip_ledger.specs.Device.{Device}
use Rattle.cip_manager.specs.declared.connection.Connection.{Connection}
use Rattle.cip_manager.specs.declared.connection.Opener.{Opener}
use Rattle.cip_manager.specs.declared.opening.Opening.{Opening}
use Rattle.cip_manager.specs.Closing.{triad_of}
use Rattle.cip_manager.specs.Connection.{is_group, is_of_group, count_of_group, is_of_session, is_of_session_with, is_named, is_open_at}
use Rattle.cip_manager.specs.Manager.{ManagerState}
use Rattle.cip_manager.specs.Opening.{has_share_left, new_connection, with_opening}
use Rattle.cip_manager.proofs.CallLemmas.{after_open, after_close, after_item_turn}
use Rattle.cip_manager.proofs.CheckLemmas.{passes_checks}
use Rattle.cip_manager.proofs.ListLemmas.{filter-swap, length-with_first}
use Rattle.enip_wire.specs.Frames.{Frame}
use Rattle.enip_adapter.specs.declared.adapter.Limits.{Limits}
use Rattle.enip_adapter.specs.declared.adapter.Shares.{Shares}
use Rattle.enip_adapter.specs.declared.peer.Session.{Session}
use Rattle.enip_adapter.specs.declared.shared.Listen.{Listen}
use Rattle.enip_adapter.specs.declared.shared.Shared.{Shared}
use Rattle.enip_adapter.specs.Adapter.{shared_adapter}
use Rattle.enip_adapter.specs.Calls.{AdapterState, Call, call_meaning, after_call}
use Rattle.enip_adapter.specs.Commands.{command_served, long_refused}
use Rattle.enip_adapter.specs.Replies.{Served, leaving}
use Rattle.enip_adapter.specs.Rights.{after_for, answer_for}
use Rattle.enip_adapter.specs.Runs.{after_calls}
use Rattle.enip_adapter.specs.SendRRData.{opener_of}
use Rattle.enip_adapter.specs.Turn.{State, Event, TurnResult, turn, end_found, serve_found, session_of, without_connections, after}
use Rattle.enip_adapter.specs.Turn.Event.{Begin, End, At, Framed, Long, Written}
use Rattle.enip_adapter.proofs.BeginLemmas.{each-begun}
use Rattle.enip_adapter.proofs.CommandLemmas.{after_command}
use Rattle.enip_adapter.proofs.ListLemmas.{both}

-- ---- the number of connections of a group

length-kept : (p : Connection → Bool) (cs : List Connection) → length (filter p cs) ≤ length cs
length-kept p cs = omega (arith, length-filter_both p (λ c. not (p c)) (λ c. refl) cs)

count-filter : (group : ℕ) (p : Connection → Bool) (cs : List Connection)
    → count_of_group group (filter p cs) ≤ count_of_group group cs
count-filter group p cs =
    subst (λ n. n ≤ count_of_group group cs) (ap length (sym (filter-swap (is_of_group group) p cs)))
    (length-kept p (filter (is_of_group group) cs))

-- A connection more.
count-push : (group : ℕ) (cs : List Connection) (last : Connection)
    → count_of_group group (cs ++ last ∷ []) ≡ count_of_group group cs + cond (is_of_group group last) 1 0
count-push group cs last =
    ap length (filter-append (is_of_group group) cs (last ∷ [])) ∙ go (is_of_group group last)
  where
    kept : List Connection
    kept = filter (is_of_group group) cs

    go : (b : Bool) → length (kept ++ cond b (last ∷ []) []) ≡ length kept + cond b 1 0
    go true = omega (arith, length_push kept last)
    go false = omega (arith, ap length (append-nil kept))

-- ---- one change

-- Each group has at most this many connections, and may have no more.
record IsWithin (share : ℕ) (manager : ManagerState) : Type 0 where
  same : manager.share ≡ share
  within : (group : ℕ) → count_of_group group manager.connections ≤ share

within-one : (share : ℕ) (manager : ManagerState) (own : Option ℕ) (group : ℕ) → has_share_left manager own ≡ true
    → IsWithin share manager → count_of_group group manager.connections + cond (is_group group own) 1 0 ≤ share
within-one share manager None group left w = omega (arith, w.within group)
within-one share manager (Some other) group left w = go (eqb other group) refl
  where
    go : (b : Bool) → eqb other group ≡ b → count_of_group group manager.connections + cond b 1 0 ≤ share
    go true e =
        let theirs : count_of_group other manager.connections < manager.share = ltb-true _ _ left in
        let mine : count_of_group group manager.connections < manager.share
        = subst (λ g. count_of_group g manager.connections < manager.share) (eqb-true other group e) theirs in
        omega (arith, mine, w.same)
    go false e = omega (arith, w.within group)

within-opening : (share : ℕ) (manager : ManagerState) (now : ℕ) (opener : Opener) (opening : Opening)
    → has_share_left manager opener.group ≡ true → IsWithin share manager
    → IsWithin share (with_opening manager now opener opening)
within-opening share manager now opener opening left w = record {
  same = w.same;
  within = λ group. subst (λ n. n ≤ share)
      (sym (count-push group manager.connections (new_connection manager.next_id now opener opening)))
      (within-one share manager opener.group group left w);
}

within-filter : (share : ℕ) (p : Connection → Bool) (manager : ManagerState) → IsWithin share manager
    → IsWithin share (record manager { connections = filter p manager.connections })
within-filter share p manager w = record {
  same = w.same;
  within = λ group. omega (arith, count-filter group p manager.connections, w.within group);
}

abbrev Keeps : ℕ → Shared → Type 0
Keeps share shared = IsWithin share shared.manager

keeps-command : (share : ℕ) (shared : Shared) (session : Session) (f : Frame) → Keeps share shared
    → Keeps share (command_served shared session f).shared
keeps-command share shared session f w =
    after_command (Keeps share) shared session
    (record {
      same = w;
      opens = λ layout bytes. after_open (λ turn. IsWithin share turn.manager) layout shared.manager shared.moment
          (opener_of session) bytes (λ reply refused. w)
          (λ opening check. within-opening share shared.manager shared.moment (opener_of session) opening
          (passes_checks shared.manager session.group opening check).room.share_left w);
      closes = λ bytes. after_close (IsWithin share) shared.manager session.handle bytes w
          (λ request e. within-filter share (λ c. not (is_of_session_with session.handle (triad_of request) c))
          shared.manager w);
      executes = λ request. w;
      receives = λ id item. after_item_turn (after_for session.rights) (answer_for session.rights)
          (λ cs. IsWithin share (record shared.manager { connections = cs })) shared.manager.connections shared.moment
          session.handle id item shared.objects w
          (λ old new found same. record {
            same = w.same;
            within = λ group. subst (λ n. n ≤ share)
                (sym (length-with_first (is_of_group group) (is_named session.handle id) old new
                shared.manager.connections found (ap (is_group group) same.group)))
                (w.within group);
          });
    }) f

keeps-ended : (share : ℕ) (shared : Shared) (session : ℕ) → Keeps share shared
    → Keeps share (without_connections shared session)
keeps-ended share shared session w =
    within-filter share (λ c. not (is_of_session session c)) shared.manager w

keeps-served : (share : ℕ) (s : State) (peer : ℕ) (serve : Session → Served) (o : Option Session)
    → ((session : Session) → Keeps share (serve session).shared) → Keeps share s.shared
    → Keeps share (serve_found s peer serve o).state.shared
keeps-served share s peer serve None keeps w = w
keeps-served share s peer serve (Some session) keeps w =
    both (λ (t : TurnResult). Keeps share t.state.shared) session.closed _ _ w
    (both (Keeps share) (serve session).reaction.close _ _
    (keeps-ended share (serve session).shared session.handle (keeps session)) (keeps session))

keeps-end : (share : ℕ) (s : State) (peer : ℕ) (o : Option Session) → Keeps share s.shared
    → Keeps share (end_found s peer o).shared
keeps-end share s peer None w = w
keeps-end share s peer (Some session) w = keeps-ended share s.shared peer w

keeps-event : (share : ℕ) (s : State) (e : Event) → Keeps share s.shared → Keeps share (turn s e).state.shared
keeps-event share s (Begin rights group) w =
    each-begun (λ (t : TurnResult). Keeps share t.state.shared) s rights group (λ full. w) w
keeps-event share s (End peer) w = keeps-end share s peer (session_of s peer) w
keeps-event share s (At now) w =
    within-filter share (is_open_at (max s.shared.moment now)) s.shared.manager w
keeps-event share s (Framed peer f) w =
    keeps-served share s peer (λ session. command_served s.shared session f) (session_of s peer)
    (λ session. keeps-command share s.shared session f w) w
keeps-event share s (Long peer h) w =
    keeps-served share s peer (λ session. leaving s.shared (long_refused session h)) (session_of s peer) (λ session. w) w
keeps-event share s (Written write) w = w

keeps-events : (share : ℕ) (s : State) (es : List Event) → Keeps share s.shared → Keeps share (after s es).shared
keeps-events share s [] w = w
keeps-events share s (e ∷ es) w = keeps-events share (turn s e).state es (keeps-event share s e w)

keeps-calls : (share : ℕ) (a : AdapterState) (calls : List Call) → Keeps share a.state.shared
    → Keeps share (after_calls a calls).state.shared
keeps-calls share a [] w = w
keeps-calls share a (c ∷ cs) w =
    keeps-calls share (after_call a c) cs (keeps-events share a.state (call_meaning a c).events w)

pub connections-within : (device : Device) (listen : Listen) (limits : Limits) (shares : Shares) (calls : List Call)
    (group : ℕ)
    → count_of_group group
    (after_calls (shared_adapter device listen limits shares) calls).state.shared.manager.connections
    ≤ shares.connections
connections-within device listen limits shares calls group =
    (keeps-calls shares.connections (shared_adapter device listen limits shares) calls
    (record { same = refl; within = λ g. omega arith })).within group
