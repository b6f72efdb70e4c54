-- A queue has the same number of places after every step.
use Rattle.std.proofs.Common.{◌≡◌, ℕ, true, false, if◌then◌else◌, Option, Some, None, unwrap_or, List, [], ◌∷◌, refl, ◌∙◌}
use Rattle.cip_owner.specs.Queue.{QueueState, QueuedCommand, takes, pushed, command_of, can_be_reply, with_finished}
use Rattle.cip_owner.specs.Queue.{finished_by}
use Rattle.cip_owner.specs.QueueRuns.{QueueStep, Pushes, Finishes, Marks, after_step, after_steps}
use Rattle.cip_owner.proofs.QueueLemmas.{by_mark}
use Rattle.cip_owner.specs.Replies.{Reply}

finished_limit : (q : QueueState) (ticket : ℕ) (reply : Reply) (found : Option QueuedCommand)
    → (unwrap_or (finished_by q ticket reply found) q).limit ≡ q.limit
finished_limit q ticket reply None = refl
finished_limit q ticket reply (Some c) =
    elim (can_be_reply c reply)
    as (λ t. (unwrap_or (if t then Some (with_finished q ticket c reply) else None) q).limit ≡ q.limit) [
      | true ↦ refl
      | false ↦ refl
    ]

step_limit : (q : QueueState) (step : QueueStep) → (after_step q step).limit ≡ q.limit
step_limit q (Pushes asked) =
    elim (takes q asked) as (λ t. (if t then pushed q asked else q).limit ≡ q.limit) [ true ↦ refl | false ↦ refl ]
step_limit q (Finishes ticket reply) = finished_limit q ticket reply (command_of ticket q.waiting)
step_limit q (Marks ticket) = by_mark (λ p. p.limit ≡ q.limit) q ticket refl (λ c e. refl)

pub after_steps_limit : (q : QueueState) (steps : List QueueStep) → (after_steps q steps).limit ≡ q.limit
after_steps_limit q [] = refl
after_steps_limit q (step ∷ steps) = after_steps_limit (after_step q step) steps ∙ step_limit q step
