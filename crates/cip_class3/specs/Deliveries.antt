-- Requests that reach a target, each once and then again any number of times, and their effect.
use Rattle.std.specs.Prelude.{ℕ, suc, ◌+◌, ◌≤◌, ◌<◌, ◌^◌, Option, Some, None, List, [], ◌∷◌, ◌++◌, length, map}
use Rattle.std.specs.Prelude.{replicate}
use Rattle.std.specs.List.{flat_map, AllByRecursion}
use Rattle.cip_class3.specs.Item.{item, NeighboursDiffer}
use Rattle.cip_class3.specs.TargetRule.{TargetState, KeptReply, TargetStep, kept_bytes, target_step}
use Rattle.cip_class3.specs.declared.target.Received.TheVariants.{Dropped, Repeated, Executed}

-- A request with its count, and how often it is repeated.
pub record Delivery : Type 0 where
  pub sequence_count : ℕ
  pub request : List ℕ
  pub repeats : ℕ

-- The item has a count and a request, and fits the O->T size.
pub record IsDeliverable (o_to_t_size : ℕ) (delivery : Delivery) : Type 0 where
  pub sequence_count : delivery.sequence_count < 2 ^ 16
  pub request : 2 ≤ length delivery.request
  pub size : length delivery.request + 2 ≤ o_to_t_size

-- The items that arrive, in order.
abbrev pub items_of : List Delivery → List (List ℕ)
items_of deliveries = flat_map (λ d. replicate (suc d.repeats) (item d.sequence_count d.request)) deliveries

abbrev pub requests_of : List Delivery → List (List ℕ)
requests_of deliveries = map (λ d. d.request) deliveries

-- The held count, if any, and the counts that arrive.
abbrev pub counts_from : Option KeptReply → List Delivery → List ℕ
counts_from None deliveries = map (λ d. d.sequence_count) deliveries
counts_from (Some kept) deliveries = kept.sequence_count ∷ map (λ d. d.sequence_count) deliveries

-- Each request fits, and each has a different count than the one before it.
pub record AreDelivered (target : TargetState) (deliveries : List Delivery) : Type 0 where
  pub each : AllByRecursion (IsDeliverable target.o_to_t_size) deliveries
  pub another : NeighboursDiffer (counts_from target.held deliveries)

-- The answer to an item: the kept bytes, or nothing if it was dropped.
abbrev pub answer_to : {M : Type 0} → TargetStep M → Option (List ℕ)
answer_to done = elim done.received [
  | Dropped ↦ None
  | Repeated ↦ Some (kept_bytes done.target.held)
  | Executed ↦ Some (kept_bytes done.target.held)
]

module _ {M : Type 0} (after : M → ℕ → List ℕ → M) (answer : M → ℕ → List ℕ → List ℕ) where
  -- The router after the target received each of the items.
  abbrev pub router_after : TargetState → M → List (List ℕ) → M
  router_after target router [] = router
  router_after target router (bytes ∷ items) =
      let done = target_step after answer target router bytes in router_after done.target done.router items

  -- The answer to each of the items.
  abbrev pub answers_to : TargetState → M → List (List ℕ) → List (Option (List ℕ))
  answers_to target router [] = []
  answers_to target router (bytes ∷ items) =
      let done = target_step after answer target router bytes in
      answer_to done ∷ answers_to done.target done.router items

  -- The router after it executed each of the requests once, in this order.
  abbrev pub router_after_requests : ℕ → M → List (List ℕ) → M
  router_after_requests max_size router [] = router
  router_after_requests max_size router (request ∷ requests) =
      router_after_requests max_size (after router max_size request) requests

  -- For each arrival of a request, its count with the reply of its one execution.
  abbrev pub answers_once : ℕ → M → List Delivery → List (Option (List ℕ))
  answers_once max_size router [] = []
  answers_once max_size router (d ∷ deliveries) =
      replicate (suc d.repeats) (Some (item d.sequence_count (answer router max_size d.request)))
      ++ answers_once max_size (after router max_size d.request) deliveries
