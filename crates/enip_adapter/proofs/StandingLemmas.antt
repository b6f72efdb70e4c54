-- What the queue of the objects makes of a command that the ledger would execute.
use Rattle.std.proofs.Common.{◌≡◌, ℕ, Bool, true, false, cond, List, Option, Some, None, refl, ap}
use Rattle.std.specs.Prelude.{⊤}
use Rattle.cip_ledger.specs.declared.target.Standing.{Standing}
use Rattle.cip_ledger.specs.declared.target.Standing.TheVariants as standings
use Rattle.cip_ledger.specs.Device.{owned_standing}
use Rattle.cip_ledger.specs.Ledger.{LedgerState}
use Rattle.cip_ledger.specs.Requests.{LedgerRequest, ledger_request, is_barred}
use Rattle.cip_message.specs.LedgerCommand.{Command}
use Rattle.cip_ledger.specs.Runs.{Request}
use Rattle.cip_ledger.specs.Services.{Action, Replies, Executes, Queues, Frees, action_of}
use Rattle.cip_ledger.specs.Standings.{by_standing, new_at_router, at_router}
use Rattle.cip_ledger.specs.Turn.{Fate, Served, fate, fate_of}
use Rattle.cip_owner.specs.Owned.{OwnedState}

-- ---- a command that is queued is so by the queue

abbrev pub Stands : OwnedState → Fate → Type 0
Stands w (Served service (Queues command ticket)) = owned_standing w command.request ≡ standings.Pending ticket
Stands w other = ⊤

by-standing : (w : OwnedState) (service : ℕ) (command : Command) (s : Standing) → owned_standing w command.request ≡ s
    → Stands w (Served service (by_standing s command))
by-standing w service command standings.Final e = tt
by-standing w service command (standings.Pending ticket) e = e
by-standing w service command standings.Refused e = tt

by-command : (w : OwnedState) (service : ℕ) (command : Command) (barred : Bool)
    → Stands w (Served service (by_standing (cond barred standings.Final (owned_standing w command.request)) command))
by-command w service command true = tt
by-command w service command false = by-standing w service command (owned_standing w command.request) refl

by-action : (w : OwnedState) (service : ℕ) (action : Action)
    → Stands w (Served service (at_router owned_standing w action))
by-action w service (Replies reply) = tt
by-action w service (Executes command) = by-command w service command (is_barred command.request)
by-action w service (Queues command ticket) = by-command w service command (is_barred command.request)
by-action w service (Frees originator) = tt

pub fate-stands : (w : OwnedState) (ledger : Option LedgerState) (request : Request)
    → Stands w (fate owned_standing ledger w request.0 request.1)
fate-stands w None request = tt
fate-stands w (Some ledger) request = by_asked (ledger_request request.1)
  where
    by_asked : (asked : Option LedgerRequest) → Stands w (fate_of owned_standing ledger w request.0 asked)
    by_asked None = tt
    by_asked (Some asked) = by-action w asked.service (action_of ledger request.0 asked)

-- ---- and is not barred

abbrev pub IsFree : Fate → Type 0
IsFree (Served service (Queues command ticket)) = is_barred command.request ≡ false
IsFree other = ⊤

free-standing : (service : ℕ) (command : Command) (s : Standing) → is_barred command.request ≡ false
    → IsFree (Served service (by_standing s command))
free-standing service command standings.Final e = tt
free-standing service command (standings.Pending ticket) e = e
free-standing service command standings.Refused e = tt

free-command : (w : OwnedState) (service : ℕ) (command : Command) (barred : Bool) → is_barred command.request ≡ barred
    → IsFree (Served service (by_standing (cond barred standings.Final (owned_standing w command.request)) command))
free-command w service command true e = tt
free-command w service command false e = free-standing service command (owned_standing w command.request) e

free-action : (w : OwnedState) (service : ℕ) (action : Action)
    → IsFree (Served service (at_router owned_standing w action))
free-action w service (Replies reply) = tt
free-action w service (Executes command) = free-command w service command (is_barred command.request) refl
free-action w service (Queues command ticket) = free-command w service command (is_barred command.request) refl
free-action w service (Frees originator) = tt

pub fate-free : (w : OwnedState) (ledger : Option LedgerState) (request : Request)
    → IsFree (fate owned_standing ledger w request.0 request.1)
fate-free w None request = tt
fate-free w (Some ledger) request = by_asked (ledger_request request.1)
  where
    by_asked : (asked : Option LedgerRequest) → IsFree (fate_of owned_standing ledger w request.0 asked)
    by_asked None = tt
    by_asked (Some asked) = free-action w asked.service (action_of ledger request.0 asked)

-- ---- routers with the same standings have the same fates

module _ (w other : OwnedState) (same : (text : List ℕ) → owned_standing other text ≡ owned_standing w text) where
  same-command : (command : Command)
      → new_at_router owned_standing other command ≡ new_at_router owned_standing w command
  same-command command =
      ap (λ s. by_standing (cond (is_barred command.request) standings.Final s) command) (same command.request)

  same-action : (action : Action) → at_router owned_standing other action ≡ at_router owned_standing w action
  same-action (Replies reply) = refl
  same-action (Executes command) = same-command command
  same-action (Queues command ticket) = same-command command
  same-action (Frees originator) = refl

  pub fate-alike : (ledger : Option LedgerState) (request : Request)
      → fate owned_standing ledger other request.0 request.1 ≡ fate owned_standing ledger w request.0 request.1
  fate-alike None request = refl
  fate-alike (Some ledger) request = by_asked (ledger_request request.1)
    where
      by_asked : (asked : Option LedgerRequest)
          → fate_of owned_standing ledger other request.0 asked ≡ fate_of owned_standing ledger w request.0 asked
      by_asked None = refl
      by_asked (Some asked) = ap (Served asked.service) (same-action (action_of ledger request.0 asked))
