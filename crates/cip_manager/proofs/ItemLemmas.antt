-- The effect of an item, if it is answered and if it is not.
use Rattle.std.proofs.Common.{◌≡◌, ℕ, List, [], ◌∷◌, Bool, true, false, cond, Option, Some, None, refl, ap, sym, ◌∙◌}
use Rattle.std.specs.Prelude.{find, is_some, IfSome, IfNone}
use Rattle.cip_class3.specs.declared.target.Received.TheVariants.{Dropped, Repeated}
use Rattle.cip_class3.specs.Item.{sequence_count_of, message_of}
use Rattle.cip_class3.specs.TargetRule.{TargetState, TargetStep, step_of, target_step, after_execution, has_accepted_size, is_held, max_reply_size, execution_limit}
use Rattle.cip_manager.specs.declared.connection.Connection.{Connection}
use Rattle.cip_manager.specs.Connection.{is_named, is_answered, after_item, deadline_at_item}
use Rattle.cip_manager.specs.Items.{with_first, Reply, turn_of_found, item_turn, is_taken_by, is_taken, execution_limit_by, item_execution_limit}

with_first-same : {X : Type 0} → (test : X → Bool) (x : X) (xs : List X) → find test xs ≡ Some x → with_first test x xs ≡ xs
with_first-same test x [] e = refl
with_first-same {X} test x (y ∷ ys) e = go (test y) (λ f. with_first-same test x ys f) e
  where
    go : (b : Bool) → (find test ys ≡ Some x → with_first test x ys ≡ ys) → cond b (Some y) (find test ys) ≡ Some x
        → cond b (x ∷ ys) (y ∷ with_first test x ys) ≡ y ∷ ys
    go true rest f =
        let same : y ≡ x = cc in
        ap (λ z. z ∷ ys) (sym same)
    go false rest f = ap (λ zs. y ∷ zs) (rest f)

module _ {M : Type 0} (after : M → ℕ → List ℕ → M) (answer : M → ℕ → List ℕ → List ℕ) where
  -- a target answers an item if and only if it accepts its size, and otherwise nothing changes
  record Says (b : Bool) (target : TargetState) (router : M) (step : TargetStep M) : Type 0 where
    answered : is_answered step.received ≡ b
    same : b ≡ false → step.target ≡ target
    still : b ≡ false → step.router ≡ router

  target_step-says : (target : TargetState) (router : M) (bytes : List ℕ) → Says (has_accepted_size target bytes) target router (target_step after answer target router bytes)
  target_step-says target router bytes =
      elim (has_accepted_size target bytes) as (
      λ b. Says b target router (cond b (cond (is_held target.held (sequence_count_of bytes)) (step_of Repeated target router) (after_execution after answer target router bytes)) (step_of Dropped target router))
      ) [
        | true ↦ elim (is_held target.held (sequence_count_of bytes)) as (
            λ h. Says true target router (cond h (step_of Repeated target router) (after_execution after answer target router bytes))
            ) [
              | true ↦ record { answered = refl; same = λ e. refl; still = λ e. refl }
              | false ↦ record { answered = refl; same = λ e. cc; still = λ e. cc }
            ]
        | false ↦ record { answered = refl; same = λ e. refl; still = λ e. refl }
      ]

  -- an item is answered if and only if it is accepted
  pub answered_item : (cs : List Connection) (now session id : ℕ) (bytes : List ℕ) (router : M)
      → is_some (item_turn after answer cs now session id bytes router).reply ≡ is_taken cs session id bytes
  answered_item cs now session id bytes router = go (find (is_named session id) cs)
    where
      option : (b : Bool) (x : Reply) → is_some (cond b (Some x) None) ≡ b
      option true x = refl
      option false x = refl

      go : (o : Option Connection) → is_some (turn_of_found after answer cs now session id bytes router o).reply ≡ is_taken_by o bytes
      go None = refl
      go (Some c) = option (is_answered (target_step after answer c.target router bytes).received) _ ∙ (target_step-says c.target router bytes).answered

  -- if it is not answered, nothing changes
  pub unanswered_item : (cs : List Connection) (now session id : ℕ) (bytes : List ℕ) (router : M)
      → (item_turn after answer cs now session id bytes router).reply ≡ None
      → ((item_turn after answer cs now session id bytes router).connections ≡ cs) × ((item_turn after answer cs now session id bytes router).router ≡ router)
  unanswered_item cs now session id bytes router = go (find (is_named session id) cs) refl
    where
      dropped : (b : Bool) (x : Reply) → cond b (Some x) None ≡ None → b ≡ false
      dropped true x e = cc
      dropped false x e = refl

      same : (c : Connection) (step : TargetStep M) → is_answered step.received ≡ false → step.target ≡ c.target → after_item now step.received step.target c ≡ c
      same c step e t =
          ap (λ b. record c { deadline = cond b (deadline_at_item now c.timeout) c.deadline; target = step.target }) e
          ∙ ap (λ x. record c { target = x }) t

      go : (o : Option Connection) → find (is_named session id) cs ≡ o → (turn_of_found after answer cs now session id bytes router o).reply ≡ None
          → ((turn_of_found after answer cs now session id bytes router o).connections ≡ cs) × ((turn_of_found after answer cs now session id bytes router o).router ≡ router)
      go None f e = (refl, refl)
      go (Some c) f e =
          let step : TargetStep M = target_step after answer c.target router bytes in
          let says : Says (has_accepted_size c.target bytes) c.target router step = target_step-says c.target router bytes in
          let not_answered : is_answered step.received ≡ false = dropped (is_answered step.received) _ e in
          let not_of_size : has_accepted_size c.target bytes ≡ false = sym says.answered ∙ not_answered in
          (ap (λ x. with_first (is_named session id) x cs) (same c step not_answered (says.same not_of_size)) ∙ with_first-same (is_named session id) c cs f, says.still not_of_size)

  -- what an item does to the router, by the limit on the reply
  abbrev pub Executes : Option ℕ → M → List ℕ → M → Type 0
  Executes limit router bytes left = IfSome limit (λ max_size. left ≡ after router max_size (message_of bytes)) × IfNone limit (left ≡ router)

  target_step-executes : (target : TargetState) (router : M) (bytes : List ℕ)
      → Executes (execution_limit target bytes) router bytes (target_step after answer target router bytes).router
  target_step-executes target router bytes =
      elim (has_accepted_size target bytes) as (
      λ b. Executes (cond b (cond (is_held target.held (sequence_count_of bytes)) None (Some (max_reply_size target))) None) router bytes
      (cond b (cond (is_held target.held (sequence_count_of bytes)) (step_of Repeated target router) (after_execution after answer target router bytes)) (step_of Dropped target router)).router
      ) [
        | true ↦ elim (is_held target.held (sequence_count_of bytes)) as (
            λ h. Executes (cond h None (Some (max_reply_size target))) router bytes
            (cond h (step_of Repeated target router) (after_execution after answer target router bytes)).router
            ) [
              | true ↦ (tt, refl)
              | false ↦ (refl, tt)
            ]
        | false ↦ (tt, refl)
      ]

  pub item_turn-executes : (cs : List Connection) (now session id : ℕ) (bytes : List ℕ) (router : M)
      → Executes (item_execution_limit cs session id bytes) router bytes (item_turn after answer cs now session id bytes router).router
  item_turn-executes cs now session id bytes router = go (find (is_named session id) cs)
    where
      go : (o : Option Connection) → Executes (execution_limit_by o bytes) router bytes (turn_of_found after answer cs now session id bytes router o).router
      go None = (tt, refl)
      go (Some c) = target_step-executes c.target router bytes
