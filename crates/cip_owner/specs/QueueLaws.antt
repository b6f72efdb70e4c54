-- What the owner of a device and its peers may rely on of the queue, over any number of steps.
use Rattle.std.specs.Prelude.{◌≡◌, ◌≢◌, ℕ, ◌+◌, ◌-◌, ◌<◌, ◌≤◌, ◌==◌, true, false, not, Option, Some, None, option_map, List, [], ◌∷◌}
use Rattle.std.specs.Prelude.{◌++◌, length, map, filter, drop}
use Rattle.std.specs.List.{AllByRecursion, list_any, range_with_len}
use Rattle.cip_objects.specs.OwnRequests.{Asked}
use Rattle.cip_owner.specs.Owned.{OwnedState, exec_owned}
use Rattle.cip_owner.specs.Queue.{QueueState, QueuedCommand, QueueResult, Done, command_ticket, command_of, empty_queue}
use Rattle.cip_owner.specs.Queue.{finished, result_with, outcome_of, is_handed, after_push, command_with}
use Rattle.cip_owner.specs.QueueRuns.{QueueStep, after_steps, commands_in, results_in, steps_of}
use Rattle.cip_owner.specs.Replies.{Reply}

-- The tickets of these commands rise, and each is below the next ticket.
pub record IsBefore (c : QueuedCommand) (commands : List QueuedCommand) (next : ℕ) : Type 0 where
  pub others : AllByRecursion (λ d. c.ticket < d.ticket) commands
  pub given : c.ticket < next

abbrev pub TicketsRise : List QueuedCommand → ℕ → Type 0
TicketsRise [] next = Unit {0}
TicketsRise (c ∷ commands) next = IsBefore c commands next × TicketsRise commands next

-- No two of these results have the same ticket.
abbrev pub AreApart : List QueueResult → Type 0
AreApart [] = Unit {0}
AreApart (r ∷ results) = AllByRecursion (λ s. s.ticket ≢ r.ticket) results × AreApart results

-- What holds of a queue that began empty: the tickets of the waiting commands rise, and no kept result has a ticket of
-- another, of a waiting command, or that was not given. No ticket was handed over that was not given.
pub record HasTickets (q : QueueState) : Type 0 where
  pub rising : TicketsRise q.waiting q.next
  pub apart : AreApart q.results
  pub given : AllByRecursion (λ r. r.ticket < q.next) q.results
  pub finished : AllByRecursion (λ r. command_of r.ticket q.waiting ≡ None) q.results
  pub handed : q.handed < q.next

abbrev pub tickets_law : Type 0
tickets_law =
    ((limit : ℕ) → HasTickets (empty_queue limit))
    × ((q : QueueState) (steps : List QueueStep) → HasTickets q → HasTickets (after_steps q steps))

-- The tickets are numbers in a row: none is left out, and none is given twice.
abbrev pub numbers_law : Type 0
numbers_law =
    (q : QueueState) (steps : List QueueStep)
    → (map command_ticket (commands_in q steps) ≡ range_with_len q.next (length (commands_in q steps)))
    × ((after_steps q steps).next ≡ q.next + length (commands_in q steps))

-- The commands without those that were finished with these results.
abbrev pub unfinished : List QueueResult → List QueuedCommand → List QueuedCommand
unfinished results commands = filter (λ c. not (list_any (λ r. c.ticket == r.ticket) results)) commands

-- The commands that wait are those that waited before and those that were put into the queue, in this order, without
-- those that were finished.
abbrev pub waiting_law : Type 0
waiting_law =
    (q : QueueState) (steps : List QueueStep) → HasTickets q
    → (after_steps q steps).waiting ≡ unfinished (results_in q steps) (q.waiting ++ commands_in q steps)

-- The last 256 results.
abbrev pub last_results : List QueueResult → List QueueResult
last_results results = drop (length results - 256) results

-- The results that are kept are the last 256 of those that were kept before and those of the commands that were
-- finished, in this order.
abbrev pub results_law : Type 0
results_law =
    (q : QueueState) (steps : List QueueStep) → length q.results ≤ 256
    → (after_steps q steps).results ≡ last_results (q.results ++ results_in q steps)

-- A result is that of this command: it has its ticket and its object, and its data are not longer than the service
-- allows.
pub record IsResultOf (r : QueueResult) (c : QueuedCommand) : Type 0 where
  pub ticket : r.ticket ≡ c.ticket
  pub class : r.class ≡ c.class
  pub instance : r.instance ≡ c.instance
  pub fits : length r.content ≤ c.reply_limit

abbrev pub IsResultOfSome : QueueResult → Option QueuedCommand → Type 0
IsResultOfSome r None = ⊥
IsResultOfSome r (Some c) = IsResultOf r c

-- Each command is finished at most once, and each result is that of a command that waited before or was put into the
-- queue.
abbrev pub once_law : Type 0
once_law =
    (q : QueueState) (steps : List QueueStep) → HasTickets q
    → AreApart (results_in q steps)
    × AllByRecursion (λ r. IsResultOfSome r (command_of r.ticket (q.waiting ++ commands_in q steps)))
    (results_in q steps)

-- What was handed over stays so over any steps, and a command that is put into the queue was not.
abbrev pub handed_law : Type 0
handed_law =
    ((q : QueueState) (steps : List QueueStep) (c : QueuedCommand) → is_handed q c ≡ true →
    is_handed (after_steps q steps) c ≡ true)
    × ((q : QueueState) (asked : Asked) → HasTickets q → is_handed (after_push q asked) (command_with q.next asked) ≡ false)

-- Get_Result of its object answers a command that was just finished with the owner's reply.
abbrev pub finished_law : Type 0
finished_law =
    (q after : QueueState) (ticket : ℕ) (reply : Reply) (c : QueuedCommand) → HasTickets q
    → command_of ticket q.waiting ≡ Some c → finished q ticket reply ≡ Some after
    → outcome_of after ticket c.class c.instance ≡ Done (result_with c reply)

-- A request changes the queue only by putting its own command into it.
abbrev pub queue_law : Type 0
queue_law =
    (w : OwnedState) (max_size : ℕ) (text : List ℕ)
    → (exec_owned w max_size text).after.queue ≡ option_map (λ q. after_steps q (steps_of w.objects text)) w.queue
