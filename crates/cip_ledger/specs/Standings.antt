-- What the router behind a ledger makes of a command before it is executed.
use Rattle.std.specs.Prelude.{ℕ, if◌then◌else◌, List}
use Rattle.cip_ledger.specs.declared.status.Status.TheVariants as statuses
use Rattle.cip_ledger.specs.declared.target.Standing.{Standing}
use Rattle.cip_ledger.specs.declared.target.Standing.TheVariants as standings
use Rattle.cip_ledger.specs.Requests.{is_barred}
use Rattle.cip_message.specs.LedgerCommand.{Command}
use Rattle.cip_ledger.specs.Services.{Action, Replies, Executes, Queues, Frees, refuses}

-- What the ledger does with a new command: it executes it, executes it and keeps the ticket under which the router
-- queues it, or refuses it.
abbrev pub by_standing : Standing → Command → Action
by_standing standings.Final command = Executes command
by_standing (standings.Pending ticket) command = Queues command ticket
by_standing standings.Refused command = refuses statuses.ResourceUnavailable

module _ {M : Type 0} (standing : M → List ℕ → Standing) where
  -- an embedded request that is barred does not reach the router, so its reply is final
  abbrev pub embedded_standing : M → List ℕ → Standing
  embedded_standing router request = if is_barred request then standings.Final else standing router request

  abbrev pub new_at_router : M → Command → Action
  new_at_router router command = by_standing (embedded_standing router command.request) command

  -- an action of the ledger once the router has said what becomes of a new command
  abbrev pub at_router : M → Action → Action
  at_router router (Replies answer) = Replies answer
  at_router router (Executes command) = new_at_router router command
  at_router router (Queues command ticket) = new_at_router router command
  at_router router (Frees originator) = Frees originator
