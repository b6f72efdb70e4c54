-- A queue over any number of steps: requests that are put into it, commands that the owner is handed and those that it
-- finishes.
use Rattle.std.specs.Prelude.{ℕ, if◌then◌else◌, unwrap_or, Option, Some, None, List, [], ◌∷◌, ◌++◌, Result, Ok, Err}
use Rattle.cip_application.specs.declared.config.ServiceKind.{ServiceKind}
use Rattle.cip_application.specs.declared.config.ServiceKind.TheVariants as kinds
use Rattle.cip_objects.specs.declared.status.Refusal.{Refusal}
use Rattle.cip_objects.specs.Contents.{Contents}
use Rattle.cip_objects.specs.OwnRequests.{Asked, own_request}
use Rattle.cip_owner.specs.Queue.{QueueState, QueuedCommand, QueueResult, takes, command_with, after_push, command_of}
use Rattle.cip_owner.specs.Queue.{can_be_reply, result_with, finished, marked}
use Rattle.cip_owner.specs.Replies.{Reply}

pub data QueueStep : Type 0 where
  Pushes : (asked : Asked) → QueueStep
  Finishes : (ticket : ℕ) (reply : Reply) → QueueStep
  Marks : (ticket : ℕ) → QueueStep

-- The queue after a step. A request that it does not take, a command that cannot be finished and one that does not wait
-- change nothing.
abbrev pub after_step : QueueState → QueueStep → QueueState
after_step q (Pushes asked) = after_push q asked
after_step q (Finishes ticket reply) = unwrap_or (finished q ticket reply) q
after_step q (Marks ticket) = marked q ticket

abbrev pub after_steps : QueueState → List QueueStep → QueueState
after_steps q [] = q
after_steps q (s ∷ steps) = after_steps (after_step q s) steps

-- The command that a step puts into the queue, if any.
abbrev pub command_by : QueueState → QueueStep → List QueuedCommand
command_by q (Pushes asked) = if takes q asked then command_with q.next asked ∷ [] else []
command_by q (Finishes ticket reply) = []
command_by q (Marks ticket) = []

-- The result of the command that a step finishes, if any.
abbrev pub result_of_reply : Reply → Option QueuedCommand → List QueueResult
result_of_reply reply None = []
result_of_reply reply (Some c) = if can_be_reply c reply then result_with c reply ∷ [] else []

abbrev pub result_by : QueueState → QueueStep → List QueueResult
result_by q (Pushes asked) = []
result_by q (Finishes ticket reply) = result_of_reply reply (command_of ticket q.waiting)
result_by q (Marks ticket) = []

-- The commands that these steps put into the queue, in order.
abbrev pub commands_in : QueueState → List QueueStep → List QueuedCommand
commands_in q [] = []
commands_in q (s ∷ steps) = command_by q s ++ commands_in (after_step q s) steps

-- The results of the commands that these steps finish, in order.
abbrev pub results_in : QueueState → List QueueStep → List QueueResult
results_in q [] = []
results_in q (s ∷ steps) = result_by q s ++ results_in (after_step q s) steps

-- The step that a request makes: one of a queued service is put into the queue.
abbrev pub steps_of_kind : ServiceKind → Asked → List QueueStep
steps_of_kind kinds.Asked asked = []
steps_of_kind kinds.Queued asked = Pushes asked ∷ []
steps_of_kind kinds.Result asked = []

abbrev pub steps_of_own : Option (Result Asked Refusal) → List QueueStep
steps_of_own None = []
steps_of_own (Some (Err refusal)) = []
steps_of_own (Some (Ok asked)) = steps_of_kind asked.kind asked

abbrev pub steps_of : Contents → List ℕ → List QueueStep
steps_of m text = steps_of_own (own_request m text)
