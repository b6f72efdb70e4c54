-- No group has more connections than its share, and one with a share left is served.
use Rattle.std.proofs.Common.{◌≡◌, ℕ, zero, suc, ◌+◌, ◌*◌, ◌<◌, ◌≤◌, ◌^◌, eqb, ltb-true, List, [], ◌∷◌, ◌++◌, Bool, true, false, cond, not, ◌||◌, Option, Some, None, Result, Ok, Err, length, append-nil, refl, ap, subst, sym, ◌∙◌, arith}
use Rattle.std.specs.Prelude.{filter, All, nat_lt, ◌&&◌, slice_index_or}
use Rattle.std.specs.List.{Contains}
use Rattle.std.proofs.lemmas.Bool.{eqb-true, lt-ltb}
use Rattle.std.proofs.lemmas.List.{length_push}
use Rattle.std.proofs.lemmas.List.Elements.{All-head, All-filter, filter-append, filter_passes}
use Rattle.std.proofs.lemmas.List.Filters.{length-filter_both}
use Rattle.cip_bytes.specs.declared.protocol.ExtendedStatus.{ExtendedStatus}
use Rattle.cip_bytes.specs.declared.protocol.ExtendedStatus.TheVariants.{OutOfConnections}
use Rattle.cip_bytes.specs.Reading.{◌>>◌}
use Rattle.cip_message.specs.declared.key.Device.{Device}
use Rattle.cip_message.specs.Open.{Layout, small, large, Open}
use Rattle.cip_message.specs.Router.{general_status}
use Rattle.cip_manager.specs.declared.connection.Connection.{Connection}
use Rattle.cip_manager.specs.declared.connection.Opener.{Opener}
use Rattle.cip_manager.specs.declared.opening.Opening.{Opening}
use Rattle.cip_manager.specs.Check.{demand, first_failure}
use Rattle.cip_manager.specs.Connection.{is_group, is_of_group, count_of_group, is_of_session, is_of_session_with, is_named, is_open_at}
use Rattle.cip_manager.specs.Closing.{triad_of}
use Rattle.cip_manager.specs.Manager.{ManagerState, no_connection_with_share}
use Rattle.cip_manager.specs.Opening.{path_checks, field_checks, triad_check, has_share_left, room_check, table_checks, opening_check, earlier_check, new_connection, with_opening, decided_opening, service_in, open_in, opening_in, read_opening_turn, open_turn_in}
use Rattle.cip_manager.specs.Replies.{SUCCESS}
use Rattle.cip_manager.specs.Runs.{ManagerCall, Opens, Closes, Receives, Expires, Ends, State, state_after_call, state_after, is_of_one_of}
use Rattle.cip_manager.proofs.CallLemmas.{after_open, after_close, after_item_turn}
use Rattle.cip_manager.proofs.CheckLemmas.{first_failure-append, passed-append, passes_checks}
use Rattle.cip_manager.proofs.ListLemmas.{filter-swap, length-with_first}

-- a filter keeps no more than there is
length-kept : {X : Type 0} → (p : X → Bool) (xs : List X) → length (filter p xs) ≤ length xs
length-kept p xs = omega (arith, length-filter_both p (λ x. not (p x)) (λ x. refl) xs)

-- nor more of a group
count-filter : (group : ℕ) (p : Connection → Bool) (cs : List Connection) → count_of_group group (filter p cs) ≤ count_of_group group cs
count-filter group p cs =
    subst (λ n. n ≤ count_of_group group cs) (ap length (sym (filter-swap (is_of_group group) p cs)))
    (length-kept p (filter (is_of_group group) cs))

-- with one more connection
count-push : (group : ℕ) (cs : List Connection) (last : Connection)
    → count_of_group group (cs ++ last ∷ []) ≡ count_of_group group cs + cond (is_of_group group last) 1 0
count-push group cs last = ap length (filter-append (is_of_group group) cs (last ∷ [])) ∙ go (is_of_group group last)
  where
    kept : List Connection
    kept = filter (is_of_group group) cs

    go : (b : Bool) → length (kept ++ cond b (last ∷ []) []) ≡ length kept + cond b 1 0
    go true = omega (arith, length_push kept last)
    go false = omega (arith, ap length (append-nil kept))

-- each group has at most this many connections, and may have no more
record IsWithin (share : ℕ) (manager : ManagerState) : Type 0 where
  same : manager.share ≡ share
  within : (group : ℕ) → count_of_group group manager.connections ≤ share

-- one more of a group that has a share left
within-one : (share : ℕ) (manager : ManagerState) (opener : Option ℕ) (group : ℕ) → has_share_left manager opener ≡ true → IsWithin share manager
    → count_of_group group manager.connections + cond (is_group group opener) 1 0 ≤ share
within-one share manager None group left w = omega (arith, w.within group)
within-one share manager (Some other) group left w = go (eqb other group) refl
  where
    go : (b : Bool) → eqb other group ≡ b → count_of_group group manager.connections + cond b 1 0 ≤ share
    go true e =
        let theirs : count_of_group other manager.connections < manager.share = ltb-true _ _ left in
        let mine : count_of_group group manager.connections < manager.share =
        subst (λ g. count_of_group g manager.connections < manager.share) (eqb-true other group e) theirs in
        omega (arith, mine, w.same)
    go false e = omega (arith, w.within group)

within-opening : (share : ℕ) (manager : ManagerState) (now : ℕ) (opener : Opener) (opening : Opening) → has_share_left manager opener.group ≡ true → IsWithin share manager
    → IsWithin share (with_opening manager now opener opening)
within-opening share manager now opener opening left w = record {
  same = w.same;
  within = λ group. subst (λ n. n ≤ share) (sym (count-push group manager.connections (new_connection manager.next_id now opener opening)))
      (within-one share manager opener.group group left w);
}

within-filter : (share : ℕ) (p : Connection → Bool) (manager : ManagerState) → IsWithin share manager
    → IsWithin share (record manager { connections = filter p manager.connections })
within-filter share p manager w = record {
  same = w.same;
  within = λ group. omega (arith, count-filter group p manager.connections, w.within group);
}

module _ {M : Type 0} (after : M → ℕ → List ℕ → M) (answer : M → ℕ → List ℕ → List ℕ) where
  within-call : (share : ℕ) (state : State M) (call : ManagerCall) → IsWithin share state.manager → IsWithin share (state_after_call after answer state call).manager
  within-call share state (Opens layout now opener bytes) w =
      after_open (λ turn. IsWithin share turn.manager) layout state.manager now opener bytes (λ reply refused. w)
      (λ opening check. within-opening share state.manager now opener opening (passes_checks state.manager opener.group opening check).room.share_left w)
  within-call share state (Closes session bytes) w =
      after_close (IsWithin share) state.manager session bytes w
      (λ request e. within-filter share (λ c. not (is_of_session_with session (triad_of request) c)) state.manager w)
  within-call share state (Receives now session id bytes) w =
      let cs = state.manager.connections in
      after_item_turn after answer (λ ds. IsWithin share (record state.manager { connections = ds })) cs now session id bytes state.router w
      (λ old new found same. record {
        same = w.same;
        within = λ group. subst (λ n. n ≤ share)
            (sym (length-with_first (is_of_group group) (is_named session id) old new cs found (ap (is_group group) same.group)))
            (w.within group);
      })
  within-call share state (Expires now) w = within-filter share (is_open_at now) state.manager w
  within-call share state (Ends session) w = within-filter share (λ c. not (is_of_session session c)) state.manager w

  within-calls : (share : ℕ) (state : State M) (calls : List ManagerCall) → IsWithin share state.manager → IsWithin share (state_after after answer state calls).manager
  within-calls share state [] w = w
  within-calls share state (call ∷ calls) w = within-calls share (state_after_call after answer state call) calls (within-call share state call w)

  pub groups-within : (places share first_id : ℕ) (device : Device) (router : M) (calls : List ManagerCall) (group : ℕ)
      → count_of_group group (state_after after answer (record { manager = no_connection_with_share places share first_id device; router = router }) calls).manager.connections
      ≤ share
  groups-within places share first_id device router calls group =
      (within-calls share (record { manager = no_connection_with_share places share first_id device; router = router }) calls
      (record { same = refl; within = λ g. omega arith })).within group

-- the last check passes
room-left : (manager : ManagerState) (group : Option ℕ) → length manager.connections < manager.places → manager.next_id < 2 ^ 32 → has_share_left manager group ≡ true
    → room_check manager group ≡ Ok tt
room-left manager group place id share =
    ap (λ b. demand (b && nat_lt manager.next_id (2 ^ 32) && has_share_left manager group) OutOfConnections) (lt-ltb _ _ place)
    ∙ ap (λ b. demand (b && has_share_left manager group) OutOfConnections) (lt-ltb _ _ id)
    ∙ ap (λ b. demand b OutOfConnections) share

-- so all of them pass, if the earlier ones do
all-checks-pass : (manager : ManagerState) (group : Option ℕ) (opening : Opening) → earlier_check manager opening ≡ Ok tt → room_check manager group ≡ Ok tt
    → opening_check manager group opening ≡ Ok tt
all-checks-pass manager group opening earlier room =
    let front = path_checks manager.device opening ++ field_checks opening in
    let parts = passed-append front (triad_check manager opening.triad ∷ []) earlier in
    let triad : triad_check manager opening.triad ≡ Ok tt = alone (triad_check manager opening.triad) parts.1 in
    first_failure-append front (table_checks manager group opening.triad)
    ∙ ap (λ (r : Result (Unit {0}) ExtendedStatus). r >> first_failure (table_checks manager group opening.triad)) parts.0
    ∙ ap (λ (r : Result (Unit {0}) ExtendedStatus). first_failure (r ∷ room_check manager group ∷ [])) triad
    ∙ ap (λ (r : Result (Unit {0}) ExtendedStatus). first_failure (r ∷ [])) room
  where
    alone : (check : Result (Unit {0}) ExtendedStatus) → first_failure (check ∷ []) ≡ Ok tt → check ≡ Ok tt
    alone (Ok passed) e = refl
    alone (Err extended) e = cc

-- an opening of a group with a share left
pub opens-within : (layout : Layout) (manager : ManagerState) (now : ℕ) (opener : Opener) (bytes : List ℕ) (request : Open) → open_in layout bytes ≡ Ok request
    → earlier_check manager (opening_in layout request) ≡ Ok tt → has_share_left manager opener.group ≡ true
    → length manager.connections < manager.places → manager.next_id < 2 ^ 32
    → general_status (open_turn_in layout manager now opener bytes).reply ≡ SUCCESS
opens-within layout manager now opener bytes request read earlier share place id =
    let opening = opening_in layout request in
    ap (λ r. general_status (read_opening_turn layout manager now opener r).reply) read
    ∙ ap (λ c. general_status (decided_opening (service_in layout) manager now opener opening c).reply)
    (all-checks-pass manager opener.group opening earlier (room-left manager opener.group place id share))
    ∙ said layout opening
  where
    said : (l : Layout) (opening : Opening) → general_status (decided_opening (service_in l) manager now opener opening (Ok tt)).reply ≡ SUCCESS
    said small opening = refl
    said large opening = refl

-- a share of all slots
pub all-slots : (manager : ManagerState) (group : Option ℕ) (opening : Opening) → manager.places ≤ manager.share
    → opening_check manager group opening ≡ opening_check manager None opening
all-slots manager None opening all = refl
all-slots manager (Some group) opening all =
    ap (λ r. first_failure (path_checks manager.device opening ++ field_checks opening ++ triad_check manager opening.triad ∷ r ∷ []))
    (ap (λ b. demand b OutOfConnections) (go (nat_lt (length manager.connections) manager.places) refl))
  where
    few : nat_lt (length manager.connections) manager.places ≡ true → has_share_left manager (Some group) ≡ true
    few e =
        let free : length manager.connections < manager.places = ltb-true _ _ e in
        lt-ltb _ _ (omega (arith, free, all, length-kept (is_of_group group) manager.connections))

    go : (b : Bool) → nat_lt (length manager.connections) manager.places ≡ b
        → (b && nat_lt manager.next_id (2 ^ 32) && has_share_left manager (Some group)) ≡ (b && nat_lt manager.next_id (2 ^ 32) && true)
    go true e = ap (λ s. nat_lt manager.next_id (2 ^ 32) && s) (few e)
    go false e = refl

-- those that are not of the first group are of one of the others
others-of : (group : ℕ) (groups : List ℕ) (cs : List Connection) → All (λ c. is_of_one_of (group ∷ groups) c ≡ true) cs
    → All (λ c. is_of_one_of groups c ≡ true) (filter (λ c. not (is_of_group group c)) cs)
others-of group groups cs all = λ k d h.
    let c : Connection = slice_index_or (filter others cs) k d in
    either (is_of_group group c) (is_of_one_of groups c) (filter_passes others cs k d h)
    (All-filter others (λ c. is_of_one_of (group ∷ groups) c ≡ true) cs all k d h)
  where
    others : Connection → Bool
    others c = not (is_of_group group c)

    either : (a b : Bool) → not a ≡ true → (a || b) ≡ true → b ≡ true
    either true b e f = cc
    either false b e f = f

-- there are at most as many connections as all shares together
fits : (share : ℕ) (groups : List ℕ) (cs : List Connection) → All (λ c. is_of_one_of groups c ≡ true) cs → ((group : ℕ) → count_of_group group cs ≤ share)
    → length cs ≤ length groups * share
fits share [] [] all within = omega arith
fits share [] (c ∷ cs) all within =
    let none : false ≡ true = All-head (λ c. is_of_one_of [] c ≡ true) c cs all in
    cc
fits share (group ∷ groups) cs all within =
    let p = λ (c : Connection). not (is_of_group group c) in
    let rest = fits share groups (filter p cs) (others-of group groups cs all) (λ g. omega (arith, count-filter g p cs, within g)) in
    omega (arith, rest, within group, length-filter_both (is_of_group group) p (λ c. refl) cs)

-- fewer, if a group among them has a share left
pub fits-below : (share : ℕ) (groups : List ℕ) (cs : List Connection) (group : ℕ) → All (λ c. is_of_one_of groups c ≡ true) cs → ((g : ℕ) → count_of_group g cs ≤ share)
    → Contains groups group → count_of_group group cs < share → length cs < length groups * share
fits-below share [] cs group all within (k, h, e) left = absurd (omega arith)
fits-below share (first ∷ groups) cs group all within (zero, h, e) left =
    let p = λ (c : Connection). not (is_of_group first c) in
    let rest = fits share groups (filter p cs) (others-of first groups cs all) (λ g. omega (arith, count-filter g p cs, within g)) in
    let here : count_of_group first cs < share = subst (λ g. count_of_group g cs < share) (sym e) left in
    omega (arith, rest, here, length-filter_both (is_of_group first) p (λ c. refl) cs)
fits-below share (first ∷ groups) cs group all within (suc k, h, e) left =
    let p = λ (c : Connection). not (is_of_group first c) in
    let rest = fits-below share groups (filter p cs) group (others-of first groups cs all) (λ g. omega (arith, count-filter g p cs, within g))
    (k, omega (arith, h), e) (omega (arith, count-filter group p cs, left)) in
    omega (arith, rest, within first, length-filter_both (is_of_group first) p (λ c. refl) cs)
