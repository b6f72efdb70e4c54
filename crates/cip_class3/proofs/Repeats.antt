-- A target that receives requests once and again.
use Rattle.std.proofs.Common.{◌≡◌, ℕ, zero, suc, ◌≤◌, ◌<◌, ◌^◌, true, false, Option, Some, None, List, [], ◌∷◌, ◌++◌, length, map, replicate, refl, ap, ◌∙◌, sym, arith}
use Rattle.std.specs.List.{AllByRecursion}
use Rattle.std.proofs.lemmas.Bool.{and_from, le-leb, eq-eqb, ne_eqb}
use Rattle.cip_bytes.proofs.Bytes.{le2_again}
use Rattle.cip_class3.specs.Item.{item, sequence_count_of, NeighboursDiffer}
use Rattle.cip_class3.specs.TargetRule.{TargetState, KeptReply, TargetStep, step_of, after_execution, target_step, has_accepted_size, is_held, max_reply_size}
use Rattle.cip_class3.specs.Deliveries.{Delivery, IsDeliverable, AreDelivered, items_of, requests_of, counts_from, answer_to, router_after, answers_to, router_after_requests, answers_once}
use Rattle.cip_class3.specs.declared.target.Received.TheVariants.{Repeated, Executed}

pub sequence_count_of-item : (sequence_count : ℕ) (message : List ℕ) → sequence_count < 2 ^ 16 → sequence_count_of (item sequence_count message) ≡ sequence_count
sequence_count_of-item sequence_count message fits = le2_again sequence_count fits message

pub has_accepted_size-item : (target : TargetState) (d : Delivery) → IsDeliverable target.o_to_t_size d → has_accepted_size target (item d.sequence_count d.request) ≡ true
has_accepted_size-item target d fits =
    let from : 4 ≤ length (item d.sequence_count d.request) = omega (arith, fits.request) in
    let to : length (item d.sequence_count d.request) ≤ target.o_to_t_size = omega (arith, fits.size) in
    and_from _ _ (le-leb _ _ from) (le-leb _ _ to)

-- the target that holds this count and this reply
abbrev pub holding : TargetState → ℕ → List ℕ → TargetState
holding target sequence_count reply = record target { held = Some (record { sequence_count = sequence_count; reply = reply }) }

-- the count of the next request is not held
not_held : (held : Option KeptReply) (d : Delivery) (deliveries : List Delivery) → NeighboursDiffer (counts_from held (d ∷ deliveries)) →
    is_held held d.sequence_count ≡ false
not_held None d deliveries another = refl
not_held (Some kept) d deliveries another = ne_eqb _ _ another.0

-- the counts from it on differ from their neighbors
rest_differs : (held : Option KeptReply) (d : Delivery) (deliveries : List Delivery) → NeighboursDiffer (counts_from held (d ∷ deliveries)) →
    NeighboursDiffer (d.sequence_count ∷ map (λ x. x.sequence_count) deliveries)
rest_differs None d deliveries another = another
rest_differs (Some kept) d deliveries another = another.1

module _ {M : Type 0} (after : M → ℕ → List ℕ → M) (answer : M → ℕ → List ℕ → List ℕ) where
  abbrev step : TargetState → M → List ℕ → TargetStep M
  step target router bytes = target_step after answer target router bytes

  step-executes : (target : TargetState) (router : M) (bytes : List ℕ) → has_accepted_size target bytes ≡ true →
      is_held target.held (sequence_count_of bytes) ≡ false → step target router bytes ≡ after_execution after answer target router bytes
  step-executes target router bytes sized other = rw (sized, other) refl

  step-repeats : (target : TargetState) (router : M) (bytes : List ℕ) → has_accepted_size target bytes ≡ true →
      is_held target.held (sequence_count_of bytes) ≡ true → step target router bytes ≡ step_of Repeated target router
  step-repeats target router bytes sized same = rw (sized, same) refl

  -- a request whose count is not held is executed, and is then held
  pub step-first : (target : TargetState) (router : M) (d : Delivery) → IsDeliverable target.o_to_t_size d → is_held target.held d.sequence_count ≡ false →
      step target router (item d.sequence_count d.request)
      ≡ step_of Executed (holding target d.sequence_count (answer router (max_reply_size target) d.request)) (after router (max_reply_size target) d.request)
  step-first target router d fits other =
      step-executes target router (item d.sequence_count d.request) (has_accepted_size-item target d fits)
      (ap (is_held target.held) (sequence_count_of-item d.sequence_count d.request fits.sequence_count) ∙ other)
      ∙ ap (λ sequence_count. step_of Executed (holding target sequence_count (answer router (max_reply_size target) d.request)) (after router (max_reply_size target) d.request))
      (sequence_count_of-item d.sequence_count d.request fits.sequence_count)

  -- a request whose count is held changes nothing
  pub step-again : (target : TargetState) (router : M) (d : Delivery) (reply : List ℕ) → IsDeliverable target.o_to_t_size d →
      step (holding target d.sequence_count reply) router (item d.sequence_count d.request) ≡ step_of Repeated (holding target d.sequence_count reply) router
  step-again target router d reply fits =
      step-repeats (holding target d.sequence_count reply) router (item d.sequence_count d.request) (has_accepted_size-item (holding target d.sequence_count reply) d fits)
      (eq-eqb _ _ (sym (sequence_count_of-item d.sequence_count d.request fits.sequence_count)))

  repeats-router : (n : ℕ) (target : TargetState) (router : M) (d : Delivery) (reply : List ℕ) (items : List (List ℕ)) → IsDeliverable target.o_to_t_size d →
      router_after after answer (holding target d.sequence_count reply) router (replicate n (item d.sequence_count d.request) ++ items)
      ≡ router_after after answer (holding target d.sequence_count reply) router items
  repeats-router zero target router d reply items fits = refl
  repeats-router (suc n) target router d reply items fits =
      ap (λ done. router_after after answer done.target done.router (replicate n (item d.sequence_count d.request) ++ items))
      (step-again target router d reply fits)
      ∙ repeats-router n target router d reply items fits

  repeats-answers : (n : ℕ) (target : TargetState) (router : M) (d : Delivery) (reply : List ℕ) (items : List (List ℕ)) → IsDeliverable target.o_to_t_size d →
      answers_to after answer (holding target d.sequence_count reply) router (replicate n (item d.sequence_count d.request) ++ items)
      ≡ replicate n (Some (item d.sequence_count reply)) ++ answers_to after answer (holding target d.sequence_count reply) router items
  repeats-answers zero target router d reply items fits = refl
  repeats-answers (suc n) target router d reply items fits =
      ap (λ done. answer_to done ∷ answers_to after answer done.target done.router (replicate n (item d.sequence_count d.request) ++ items))
      (step-again target router d reply fits)
      ∙ ap (λ more. Some (item d.sequence_count reply) ∷ more) (repeats-answers n target router d reply items fits)

  all_once : (deliveries : List Delivery) (target : TargetState) (router : M) →
      AllByRecursion (IsDeliverable target.o_to_t_size) deliveries → NeighboursDiffer (counts_from target.held deliveries) →
      router_after after answer target router (items_of deliveries)
      ≡ router_after_requests after answer (max_reply_size target) router (requests_of deliveries)
  all_once [] target router each another = refl
  all_once (d ∷ deliveries) target router each another =
      let reply = answer router (max_reply_size target) d.request in
      let next = after router (max_reply_size target) d.request in
      ap (λ done. router_after after answer done.target done.router (replicate d.repeats (item d.sequence_count d.request) ++ items_of deliveries))
      (step-first target router d each.0 (not_held target.held d deliveries another))
      ∙ repeats-router d.repeats target next d reply (items_of deliveries) each.0
      ∙ all_once deliveries (holding target d.sequence_count reply) next each.1 (rest_differs target.held d deliveries another)

  all_same : (deliveries : List Delivery) (target : TargetState) (router : M) →
      AllByRecursion (IsDeliverable target.o_to_t_size) deliveries → NeighboursDiffer (counts_from target.held deliveries) →
      answers_to after answer target router (items_of deliveries)
      ≡ answers_once after answer (max_reply_size target) router deliveries
  all_same [] target router each another = refl
  all_same (d ∷ deliveries) target router each another =
      let reply = answer router (max_reply_size target) d.request in
      let next = after router (max_reply_size target) d.request in
      ap (λ done. answer_to done ∷ answers_to after answer done.target done.router (replicate d.repeats (item d.sequence_count d.request) ++ items_of deliveries))
      (step-first target router d each.0 (not_held target.held d deliveries another))
      ∙ ap (λ more. Some (item d.sequence_count reply) ∷ more)
      (repeats-answers d.repeats target next d reply (items_of deliveries) each.0
      ∙ ap (λ more. replicate d.repeats (Some (item d.sequence_count reply)) ++ more)
      (all_same deliveries (holding target d.sequence_count reply) next each.1 (rest_differs target.held d deliveries another)))

  -- each request is executed once, in order
  pub router_after-items_of : (target : TargetState) (router : M) (deliveries : List Delivery) → AreDelivered target deliveries →
      router_after after answer target router (items_of deliveries)
      ≡ router_after_requests after answer (max_reply_size target) router (requests_of deliveries)
  router_after-items_of target router deliveries are = all_once deliveries target router are.each are.another

  -- each arrival is answered with the same bytes
  pub answers_to-items_of : (target : TargetState) (router : M) (deliveries : List Delivery) → AreDelivered target deliveries →
      answers_to after answer target router (items_of deliveries) ≡ answers_once after answer (max_reply_size target) router deliveries
  answers_to-items_of target router deliveries are = all_same deliveries target router are.each are.another
