-- What of one request would reach the router behind a ledger.
use Rattle.std.specs.Prelude.{ℕ, if◌then◌else◌, Option, Some, None, List, [], ◌∷◌}
use Rattle.cip_ledger.specs.Requests.{is_barred}
use Rattle.cip_message.specs.LedgerCommand.{Command}
use Rattle.cip_ledger.specs.Services.{Action, Replies, Executes, Queues, Frees}

-- What may be none, as a list.
abbrev pub listed : {A : Type 0} → Option A → List A
listed None = []
listed (Some a) = a ∷ []

-- The embedded request of a command that is executed, unless it is barred.
abbrev pub embedded_of : Command → Option (List ℕ)
embedded_of command = if is_barred command.request then None else Some command.request

abbrev pub embedded_by : Action → Option (List ℕ)
embedded_by (Replies reply) = None
embedded_by (Executes command) = embedded_of command
embedded_by (Queues command ticket) = embedded_of command
embedded_by (Frees originator) = None
