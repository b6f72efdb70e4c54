-- IDs are used one after another, and open connections have different IDs and different triads.
use Rattle.std.proofs.Common.{◌≡◌, ℕ, ◌+◌, ◌<◌, List, [], ◌∷◌, ◌++◌, Bool, true, false, cond, not, ◌&&◌, ◌||◌, ◌⊎◌, inl, inr, Ok, get_or, refl, ap, subst, sym, ◌∙◌, arith}
use Rattle.std.specs.Prelude.{filter, All, AllPairs, ◌==◌}
use Rattle.std.specs.List.{list_any}
use Rattle.std.proofs.lemmas.Bool.{eq-eqb}
use Rattle.std.proofs.lemmas.List.Elements.{All-nil, All-cons, All-push, All-weaker, All-filter}
use Rattle.std.proofs.lemmas.List.Kept.{AllPairs-filter}
use Rattle.std.proofs.lemmas.List.Quantifiers.{all_pairs_push}
use Rattle.byteorder.specs.Numbers.{little_number-reads_back}
use Rattle.cip_message.specs.declared.key.Device.{Device}
use Rattle.cip_message.specs.Open.{Layout, small, large}
use Rattle.cip_message.specs.Router.{general_status}
use Rattle.cip_manager.specs.declared.connection.Triad.{Triad}
use Rattle.cip_manager.specs.declared.connection.Connection.{Connection}
use Rattle.cip_manager.specs.declared.connection.Opener.{Opener}
use Rattle.cip_manager.specs.declared.opening.Opening.{Opening}
use Rattle.cip_manager.specs.Connection.{is_same_triad, has_triad, is_of_session, is_of_session_with, is_named, is_open_at}
use Rattle.cip_manager.specs.Manager.{ManagerState, Turn, no_connection_with_share}
use Rattle.cip_manager.specs.Opening.{new_connection, with_opening, open_success, decided_opening, service_in, open_turn_in}
use Rattle.cip_manager.specs.Closing.{triad_of}
use Rattle.cip_manager.specs.Replies.{SUCCESS, o_to_t_id_in}
use Rattle.cip_manager.specs.Runs.{ManagerCall, Opens, Closes, Receives, Expires, Ends, State, state_after_call, state_after, ids_of_call, ids_drawn, CountsFrom, AreApart}
use Rattle.cip_manager.proofs.CheckLemmas.{HasRoom, passes_checks}
use Rattle.cip_manager.proofs.CallLemmas.{after_open, after_close, after_item_turn}
use Rattle.cip_manager.proofs.ListLemmas.{All-with_first, AllPairs-with_first}

-- a call uses no ID, or the next one
record Draws (next after : ℕ) (ids : List ℕ) : Type 0 where
  drawn : ((ids ≡ []) × (after ≡ next)) ⊎ ((ids ≡ next ∷ []) × (after ≡ next + 1))

abbrev given : Turn → List ℕ
given turn = cond (general_status turn.reply == SUCCESS) (o_to_t_id_in turn.reply ∷ []) []

given-opened : (layout : Layout) (manager : ManagerState) (now : ℕ) (opener : Opener) (opening : Opening)
    → o_to_t_id_in (open_success (service_in layout) manager.next_id opening) ≡ manager.next_id
    → given (decided_opening (service_in layout) manager now opener opening (Ok tt)) ≡ manager.next_id ∷ []
given-opened small manager now opener opening e = ap (λ id. id ∷ []) e
given-opened large manager now opener opening e = ap (λ id. id ∷ []) e

draws-open : (layout : Layout) (manager : ManagerState) (now : ℕ) (opener : Opener) (bytes : List ℕ) →
    Draws manager.next_id (open_turn_in layout manager now opener bytes).manager.next_id (given (open_turn_in layout manager now opener bytes))
draws-open layout manager now opener bytes =
    after_open (λ turn. Draws manager.next_id turn.manager.next_id (given turn)) layout manager now opener bytes
    (λ reply refused. record { drawn = inl (ap (λ b. cond b (o_to_t_id_in reply ∷ []) []) refused, refl) })
    (λ opening check. record {
      drawn = inr (
        given-opened layout manager now opener opening
            (little_number-reads_back 4 manager.next_id [] (passes_checks manager opener.group opening check).room.id_left),
        refl,
      );
    })

module _ {M : Type 0} (after : M → ℕ → List ℕ → M) (answer : M → ℕ → List ℕ → List ℕ) where
  draws-call : (state : State M) (call : ManagerCall) → Draws state.manager.next_id (state_after_call after answer state call).manager.next_id (ids_of_call after answer state call)
  draws-call state (Opens layout now opener bytes) = draws-open layout state.manager now opener bytes
  draws-call state (Closes session bytes) =
      record { drawn = inl (refl, after_close (λ m. m.next_id ≡ state.manager.next_id) state.manager session bytes refl (λ request e. refl)) }
  draws-call state (Receives now session id bytes) = record { drawn = inl (refl, refl) }
  draws-call state (Expires now) = record { drawn = inl (refl, refl) }
  draws-call state (Ends session) = record { drawn = inl (refl, refl) }

  pub counts-ids_drawn : (state : State M) (calls : List ManagerCall) → CountsFrom state.manager.next_id (ids_drawn after answer state calls)
  counts-ids_drawn state [] = tt
  counts-ids_drawn state (call ∷ calls) =
      let next = state_after_call after answer state call in
      go (ids_of_call after answer state call) next.manager.next_id (draws-call state call).drawn (counts-ids_drawn next calls)
    where
      go : (ids : List ℕ) (n : ℕ) → ((ids ≡ []) × (n ≡ state.manager.next_id)) ⊎ ((ids ≡ state.manager.next_id ∷ []) × (n ≡ state.manager.next_id + 1))
          → CountsFrom n (ids_drawn after answer (state_after_call after answer state call) calls)
          → CountsFrom state.manager.next_id (ids ++ ids_drawn after answer (state_after_call after answer state call) calls)
      go ids n (inl h) rest =
          subst (λ i. CountsFrom state.manager.next_id (i ++ ids_drawn after answer (state_after_call after answer state call) calls)) (sym h.0)
          (subst (λ m. CountsFrom m (ids_drawn after answer (state_after_call after answer state call) calls)) h.1 rest)
      go ids n (inr h) rest =
          subst (λ i. CountsFrom state.manager.next_id (i ++ ids_drawn after answer (state_after_call after answer state call) calls)) (sym h.0)
          (refl, subst (λ m. CountsFrom m (ids_drawn after answer (state_after_call after answer state call) calls)) h.1 rest)

-- the connections are apart, and their IDs were used
record Differ (manager : ManagerState) : Type 0 where
  apart : AllPairs AreApart manager.connections
  drawn : All (λ c. c.o_to_t_id < manager.next_id) manager.connections

both-true : (a b : Bool) → a ≡ true → b ≡ true → (a && b) ≡ true
both-true true b e f = f
both-true false b e f = cc

same_triad-same : (t : Triad) → is_same_triad t t ≡ true
same_triad-same t =
    both-true _ _ (both-true _ _ (eq-eqb t.connection_serial t.connection_serial refl) (eq-eqb t.originator_vendor t.originator_vendor refl))
    (eq-eqb t.originator_serial t.originator_serial refl)

none-has : (p : Connection → Bool) (cs : List Connection) → list_any p cs ≡ false → All (λ c. p c ≡ false) cs
none-has p [] e = All-nil (λ c. p c ≡ false)
none-has p (c ∷ cs) e = go (p c) refl e (λ f. none-has p cs f)
  where
    go : (b : Bool) → p c ≡ b → (b || list_any p cs) ≡ false → (list_any p cs ≡ false → All (λ d. p d ≡ false) cs) → All (λ d. p d ≡ false) (c ∷ cs)
    go true hits f rest = cc
    go false misses f rest = All-cons (λ d. p d ≡ false) c cs misses (rest f)

differ-filter : (p : Connection → Bool) (manager : ManagerState) → Differ manager → Differ (record manager { connections = filter p manager.connections })
differ-filter p manager d = record {
  apart = AllPairs-filter AreApart p manager.connections d.apart;
  drawn = All-filter p (λ c. c.o_to_t_id < manager.next_id) manager.connections d.drawn;
}

differ-opening : (manager : ManagerState) (now : ℕ) (opener : Opener) (opening : Opening) → HasRoom manager opener.group opening.triad → Differ manager → Differ (with_opening manager now opener opening)
differ-opening manager now opener opening room d =
    let cs = manager.connections in
    let new : Connection = new_connection manager.next_id now opener opening in
    record {
      apart = all_pairs_push AreApart cs new d.apart (λ k e h. record {
        ids = d.drawn k e h;
        triads = λ same.
            let has : has_triad opening.triad (get_or cs k e) ≡ true = ap (λ t. is_same_triad t opening.triad) same ∙ same_triad-same opening.triad in
            let not_has : has_triad opening.triad (get_or cs k e) ≡ false = none-has (has_triad opening.triad) cs room.new_triad k e h in
            cc;
      });
      drawn = All-push (λ c. c.o_to_t_id < manager.next_id + 1) cs new (All-weaker (λ c. c.o_to_t_id < manager.next_id) (λ c. c.o_to_t_id < manager.next_id + 1) (λ c h. omega arith) cs d.drawn) (omega arith);
    }

module _ {M : Type 0} (after : M → ℕ → List ℕ → M) (answer : M → ℕ → List ℕ → List ℕ) where
  differ-call : (state : State M) (call : ManagerCall) → Differ state.manager → Differ (state_after_call after answer state call).manager
  differ-call state (Opens layout now opener bytes) d =
      after_open (λ turn. Differ turn.manager) layout state.manager now opener bytes (λ reply refused. d)
      (λ opening check. differ-opening state.manager now opener opening (passes_checks state.manager opener.group opening check).room d)
  differ-call state (Closes session bytes) d =
      after_close Differ state.manager session bytes d (λ request e. differ-filter (λ c. not (is_of_session_with session (triad_of request) c)) state.manager d)
  differ-call state (Receives now session id bytes) d =
      let cs = state.manager.connections in
      after_item_turn after answer (λ ds. Differ (record state.manager { connections = ds })) cs now session id bytes state.router d
      (λ old new found same. record {
        apart = AllPairs-with_first AreApart (is_named session id) old new cs found
            (λ x a. record { ids = subst (λ n. n < x.o_to_t_id) (sym same.id) a.ids; triads = λ e. a.triads (sym same.triad ∙ e) })
            (λ x a. record { ids = subst (λ n. x.o_to_t_id < n) (sym same.id) a.ids; triads = λ e. a.triads (e ∙ same.triad) })
            d.apart;
        drawn = All-with_first (λ c. c.o_to_t_id < state.manager.next_id) (is_named session id) old new cs found (λ h. subst (λ n. n < state.manager.next_id) (sym same.id) h) d.drawn;
      })
  differ-call state (Expires now) d = differ-filter (is_open_at now) state.manager d
  differ-call state (Ends session) d = differ-filter (λ c. not (is_of_session session c)) state.manager d

  differ-calls : (state : State M) (calls : List ManagerCall) → Differ state.manager → Differ (state_after after answer state calls).manager
  differ-calls state [] d = d
  differ-calls state (call ∷ calls) d = differ-calls (state_after_call after answer state call) calls (differ-call state call d)

  pub connections-apart : (places share first_id : ℕ) (device : Device) (router : M) (calls : List ManagerCall)
      → AllPairs AreApart (state_after after answer (record { manager = no_connection_with_share places share first_id device; router = router }) calls).manager.connections
  connections-apart places share first_id device router calls =
      (differ-calls (record { manager = no_connection_with_share places share first_id device; router = router }) calls
      (record { apart = λ i j d h k. absurd (omega arith); drawn = All-nil (λ c. c.o_to_t_id < first_id) })).apart
