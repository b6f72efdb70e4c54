-- Calls for other sessions and connections leave a session and a connection unchanged.
use Rattle.std.proofs.Common.{◌≡◌, ◌≢◌, ℕ, eqb, List, [], ◌∷◌, ◌++◌, Bool, true, false, cond, not, ◌&&◌, Some, append-nil, refl, ap, subst, sym, ◌∙◌}
use Rattle.std.specs.Prelude.{find, filter}
use Rattle.std.specs.List.{list_all, AllByRecursion}
use Rattle.std.proofs.lemmas.Bool.{eqb-true, ne_eqb}
use Rattle.std.proofs.lemmas.List.Elements.{filter-append}
use Rattle.cip_manager.specs.declared.connection.Connection.{Connection}
use Rattle.cip_manager.specs.Connection.{is_of_session, is_named, is_open_at}
use Rattle.cip_manager.specs.Opening.{new_connection}
use Rattle.cip_manager.specs.Runs.{ManagerCall, Opens, Closes, Receives, Expires, Ends, State, state_after_call, state_after, IsOfOther, of_session, is_open_after, is_open_after_all, is_closed_by, is_spared}
use Rattle.cip_manager.proofs.CallLemmas.{after_open, after_close, after_item_turn}
use Rattle.cip_manager.proofs.ListLemmas.{filter-true, filter-filter, filter-swap, filter-implied, find-passes, find-append, find-filter, find-with_first, filter-with_first}

-- what passes two tests passes the first
first-passes : (a b : Bool) → (a && b) ≡ true → a ≡ true
first-passes true b e = refl
first-passes false b e = cc

second-passes : (a b : Bool) → (a && b) ≡ true → b ≡ true
second-passes true b e = e
second-passes false b e = cc

not-passes : (a : Bool) → not a ≡ true → a ≡ false
not-passes true e = cc
not-passes false e = refl

-- a connection of one session is not of another
of_session-other : (session other : ℕ) (c : Connection) → other ≢ session → is_of_session session c ≡ true → is_of_session other c ≡ false
of_session-other session other c differ e = ne_eqb c.session other (λ same. differ (sym same ∙ eqb-true c.session session e))

-- so a test for the other session fails
misses-other : (session other : ℕ) (c : Connection) (b : Bool) → other ≢ session → is_of_session session c ≡ true → not (is_of_session other c && b) ≡ true
misses-other session other c b differ e = ap (λ t. not (t && b)) (of_session-other session other c differ e)

module _ {M : Type 0} (after : M → ℕ → List ℕ → M) (answer : M → ℕ → List ℕ → List ℕ) where
  -- one call of another session leaves the session's connections, except for timeouts
  call-of_other : (session : ℕ) (state : State M) (call : ManagerCall) → IsOfOther session call
      → of_session session (state_after_call after answer state call).manager.connections
      ≡ filter (λ c. is_open_after c call) (of_session session state.manager.connections)
  call-of_other session state (Opens layout now opener bytes) differ =
      let cs = state.manager.connections in
      after_open (λ turn. of_session session turn.manager.connections ≡ filter (λ c. true) (of_session session cs)) layout state.manager now opener bytes
      (λ reply refused. sym (filter-true (of_session session cs)))
      (λ opening check.
      filter-append (is_of_session session) cs (new_connection state.manager.next_id now opener opening ∷ [])
      ∙ (ap (λ b. of_session session cs ++ cond b (new_connection state.manager.next_id now opener opening ∷ []) []) (ne_eqb opener.session session differ)
      ∙ (append-nil (of_session session cs) ∙ sym (filter-true (of_session session cs)))))
  call-of_other session state (Closes other bytes) differ =
      let cs = state.manager.connections in
      after_close (λ m. of_session session m.connections ≡ filter (λ c. true) (of_session session cs)) state.manager other bytes
      (sym (filter-true (of_session session cs)))
      (λ request e. filter-implied (is_of_session session) _ cs (λ c mine. misses-other session other c _ differ mine) ∙ sym (filter-true (of_session session cs)))
  call-of_other session state (Receives now other id bytes) differ =
      let cs = state.manager.connections in
      after_item_turn after answer (λ ds. of_session session ds ≡ filter (λ c. true) (of_session session cs)) cs now other id bytes state.router
      (sym (filter-true (of_session session cs)))
      (λ old new found same.
      let named : old.session ≡ other = eqb-true old.session other (first-passes _ _ (find-passes (is_named other id) old cs found)) in
      let not_old : is_of_session session old ≡ false = ne_eqb old.session session (λ e. differ (sym named ∙ e)) in
      let not_new : is_of_session session new ≡ false = ap (λ n. eqb n session) same.session ∙ not_old in
      filter-with_first (is_of_session session) (is_named other id) old new cs found not_old not_new ∙ sym (filter-true (of_session session cs)))
  call-of_other session state (Expires now) differ = filter-swap (is_of_session session) (is_open_at now) state.manager.connections
  call-of_other session state (Ends other) differ =
      let cs = state.manager.connections in
      filter-implied (is_of_session session) (λ c. not (is_of_session other c)) cs (λ c mine. ap not (of_session-other session other c differ mine)) ∙ sym (filter-true (of_session session cs))

  pub calls-of_other : (session : ℕ) (state : State M) (calls : List ManagerCall) → AllByRecursion (IsOfOther session) calls
      → of_session session (state_after after answer state calls).manager.connections ≡ filter (is_open_after_all calls) (of_session session state.manager.connections)
  calls-of_other session state [] others = sym (filter-true (of_session session state.manager.connections))
  calls-of_other session state (call ∷ calls) others =
      calls-of_other session (state_after_call after answer state call) calls others.1
      ∙ (ap (filter (is_open_after_all calls)) (call-of_other session state call others.0)
      ∙ filter-filter (λ c. is_open_after c call) (is_open_after_all calls) (of_session session state.manager.connections))

  -- one call that spares a connection leaves it as it is found
  call-is_spared : (session id : ℕ) (c : Connection) (state : State M) (call : ManagerCall) → find (is_named session id) state.manager.connections ≡ Some c → is_spared c call ≡ true
      → find (is_named session id) (state_after_call after answer state call).manager.connections ≡ Some c
  call-is_spared session id c state (Opens layout now opener bytes) found spared =
      let cs = state.manager.connections in
      after_open (λ turn. find (is_named session id) turn.manager.connections ≡ Some c) layout state.manager now opener bytes
      (λ reply refused. found)
      (λ opening check. find-append (is_named session id) c cs (new_connection state.manager.next_id now opener opening ∷ []) found)
  call-is_spared session id c state (Closes other bytes) found spared =
      after_close (λ m. find (is_named session id) m.connections ≡ Some c) state.manager other bytes
      found
      (λ request e. find-filter (is_named session id) _ c state.manager.connections found (subst (λ r. not (is_closed_by other r c) ≡ true) e spared))
  call-is_spared session id c state (Receives now other number bytes) found spared =
      let cs = state.manager.connections in
      after_item_turn after answer (λ ds. find (is_named session id) ds ≡ Some c) cs now other number bytes state.router
      found
      (λ old new first same.
      find-with_first (is_named session id) (is_named other number) c old new cs found first (not-passes (is_named other number c) spared)
      (ap (λ n. eqb n session && eqb new.o_to_t_id id) same.session ∙ ap (λ n. eqb old.session session && eqb n id) same.id))
  call-is_spared session id c state (Expires now) found spared = find-filter (is_named session id) (is_open_at now) c state.manager.connections found spared
  call-is_spared session id c state (Ends other) found spared =
      find-filter (is_named session id) (λ d. not (is_of_session other d)) c state.manager.connections found spared

  pub calls-are_spared : (session id : ℕ) (c : Connection) (state : State M) (calls : List ManagerCall) → find (is_named session id) state.manager.connections ≡ Some c
      → list_all (is_spared c) calls ≡ true
      → find (is_named session id) (state_after after answer state calls).manager.connections ≡ Some c
  calls-are_spared session id c state [] found spared = found
  calls-are_spared session id c state (call ∷ calls) found spared =
      calls-are_spared session id c (state_after_call after answer state call) calls
      (call-is_spared session id c state call found (first-passes (is_spared c call) (list_all (is_spared c) calls) spared))
      (second-passes (is_spared c call) (list_all (is_spared c) calls) spared)
