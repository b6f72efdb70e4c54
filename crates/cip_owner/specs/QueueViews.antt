-- What the code holds and lends of a queue, as contracts see it.
use Rattle.std.specs.Prelude.{ℕ, ◌≤◌, List, length, vec_len}
use Rattle.std.specs.Global.{Vec}
use Rattle.std.specs.List.{AllByRecursion}
use Rattle.std.specs.Vec.{vec_capacity}
use Rattle.cip_owner.specs.declared.queue.CommandResult.{CommandResult}
use Rattle.cip_owner.specs.declared.queue.Outcome.{Outcome}
use Rattle.cip_owner.specs.declared.queue.Outcome.TheVariants as outcomes
use Rattle.cip_owner.specs.declared.queue.WaitingCommand.{WaitingCommand}
use Rattle.cip_owner.specs.Queue.{QueuedCommand, QueueResult, QueueOutcome, Pending, Done, Unknown, IsQueued, IsResult}

abbrev pub waiting_in : WaitingCommand → QueuedCommand
waiting_in w = record {
  ticket = w.ticket;
  class = w.class;
  instance = w.instance;
  service = w.service;
  content = w.data.now;
  reply_limit = w.reply_limit;
}

abbrev pub result_in : CommandResult → QueueResult
result_in r = record {
  ticket = r.ticket;
  class = r.class;
  instance = r.instance;
  status = r.status;
  content = r.data.now;
}

abbrev pub outcome_in : Outcome → QueueOutcome
outcome_in outcomes.Pending = Pending
outcome_in (outcomes.Done result) = Done (result_in result)
outcome_in outcomes.Unknown = Unknown

-- The data of a result that is answered are short.
abbrev pub IsShort : Outcome → Type 0
IsShort outcomes.Pending = Unit {0}
IsShort (outcomes.Done result) = length result.data.now ≤ 476
IsShort outcomes.Unknown = Unit {0}

-- The commands that wait, and how many may.
pub record WaitingState : Type 0 where
  pub limit : ℕ
  pub commands : List QueuedCommand

abbrev pub waiting_of : ℕ → List QueuedCommand → WaitingState
waiting_of limit commands = record { limit = limit; commands = commands }

-- There is memory for all commands that may wait, and no more of them wait.
pub record HasWaiting (limit : ℕ) (commands : Vec QueuedCommand) : Type 0 where
  pub few : limit ≤ 256
  pub memory : limit ≤ vec_capacity commands
  pub within : vec_len commands ≤ limit
  pub sized : AllByRecursion IsQueued commands.items

-- There is memory for all results that are kept, `capacity` in all, and no more of them are kept.
pub record HasResults (capacity count : ℕ) (results : List QueueResult) : Type 0 where
  pub memory : 256 ≤ capacity
  pub within : count ≤ 256
  pub sized : AllByRecursion IsResult results
