-- What a verdict on a command stands for.
use Rattle.std.specs.Prelude.{ℕ, ◌≤◌, ◌∷◌, ◌+◌, length}
use Rattle.cip_message.specs.LedgerCommand.{Command}
use Rattle.cip_ledger.specs.Services.{Action, Replies, Executes, refuses, within, success, KEPT_LIMIT, HEAD_SIZE}
use Rattle.cip_ledger.specs.declared.ledger.Verdict.{Verdict}
use Rattle.cip_ledger.specs.declared.ledger.Verdict.TheVariants as verdicts

-- the action of a verdict on a command
abbrev pub action_in : ℕ → Command → Verdict → Action
action_in max_size command (verdicts.Refuses status) = refuses status
action_in max_size command (verdicts.Repeats state kept) = Replies (within max_size (success (state ∷ kept.now)))
action_in max_size command verdicts.Executes = Executes command

-- a kept reply is no longer than a slot, and a command is executed only if every reply fits
abbrev pub Fits : ℕ → Verdict → Type 0
Fits max_size (verdicts.Refuses status) = Unit {0}
Fits max_size (verdicts.Repeats state kept) = length kept.now ≤ KEPT_LIMIT
Fits max_size verdicts.Executes = HEAD_SIZE + 1 + KEPT_LIMIT ≤ max_size
