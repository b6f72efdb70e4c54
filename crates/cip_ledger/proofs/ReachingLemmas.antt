-- What reaches the router of one request.
use Rattle.std.proofs.Common.{◌≡◌, ℕ, Bool, true, false, if◌then◌else◌, Option, Some, None, option_map, unwrap_or, List, [], ◌∷◌, ◌++◌, refl, ap, ◌∙◌}
use Rattle.cip_ledger.specs.declared.router.LedgerRouter.{LedgerRouter}
use Rattle.cip_ledger.specs.declared.target.Standing.{Standing}
use Rattle.cip_ledger.specs.Ledger.{LedgerState}
use Rattle.cip_ledger.specs.Requests.{LedgerRequest, ledger_request, is_barred}
use Rattle.cip_message.specs.LedgerCommand.{Command}
use Rattle.cip_ledger.specs.Executing.{new_command, executed_by, executed_in, command_of}
use Rattle.cip_ledger.specs.Services.{Action, Replies, Executes, Queues, Frees, KEPT_LIMIT, action_of}
use Rattle.cip_ledger.specs.Standings.{new_at_router, at_router}
use Rattle.cip_ledger.specs.Turn.{Served, fate, fate_of}
use Rattle.cip_ledger.specs.Runs.{Request, reached_by, reached}
use Rattle.cip_ledger.specs.Reaching.{listed, embedded_by}

-- the embedded request, with the limit on its reply
abbrev pub kept_within : List ℕ → Request
kept_within text = (KEPT_LIMIT, text)

-- of an action of the ledger the router gets the embedded request of its new command
module _ {M : Type 0} (standing : M → List ℕ → Standing) (router : M) where
  embedded_none : (action : Action) → new_command action ≡ None → embedded_by (at_router standing router action) ≡ None
  embedded_none (Replies reply) none = refl
  embedded_none (Executes command) none = absurd (cc)
  embedded_none (Queues command ticket) none = absurd (cc)
  embedded_none (Frees originator) none = refl

  embedded_some : (action : Action) (command : Command) → new_command action ≡ Some command
      → embedded_by (at_router standing router action) ≡ embedded_by (new_at_router standing router command)
  embedded_some (Replies reply) command some = absurd (cc)
  embedded_some (Executes new) command some =
      ap (λ o. embedded_by (new_at_router standing router (unwrap_or o command))) some
  embedded_some (Queues new ticket) command some =
      ap (λ o. embedded_by (new_at_router standing router (unwrap_or o command))) some
  embedded_some (Frees originator) command some = absurd (cc)

  executed_none : (action : Action) → new_command action ≡ None → executed_by (at_router standing router action) ≡ None
  executed_none (Replies reply) none = refl
  executed_none (Executes command) none = absurd (cc)
  executed_none (Queues command ticket) none = absurd (cc)
  executed_none (Frees originator) none = refl

  executed_some : (action : Action) (command : Command) → new_command action ≡ Some command
      → executed_by (at_router standing router action) ≡ executed_by (new_at_router standing router command)
  executed_some (Replies reply) command some = absurd (cc)
  executed_some (Executes new) command some =
      ap (λ o. executed_by (new_at_router standing router (unwrap_or o command))) some
  executed_some (Queues new ticket) command some =
      ap (λ o. executed_by (new_at_router standing router (unwrap_or o command))) some
  executed_some (Frees originator) command some = absurd (cc)

  command_read : (ledger : Option LedgerState) (state : LedgerState) (request : Request) (own : LedgerRequest)
      → ledger ≡ Some state → ledger_request request.1 ≡ Some own
      → command_of standing ledger router request
      ≡ executed_by (at_router standing router (action_of state request.0 own))
  command_read ledger state request own is read =
      ap (λ l. command_of standing l router request) is
      ∙ ap (λ o. executed_in (fate_of standing state router request.0 o)) read

  pub command_none : (ledger : Option LedgerState) (state : LedgerState) (request : Request) (own : LedgerRequest)
      → ledger ≡ Some state → ledger_request request.1 ≡ Some own → new_command (action_of state request.0 own) ≡ None
      → command_of standing ledger router request ≡ None
  command_none ledger state request own is read none =
      command_read ledger state request own is read ∙ executed_none (action_of state request.0 own) none

  pub command_some : (ledger : Option LedgerState) (state : LedgerState) (request : Request) (own : LedgerRequest)
      (command : Command) → ledger ≡ Some state → ledger_request request.1 ≡ Some own
      → new_command (action_of state request.0 own) ≡ Some command
      → command_of standing ledger router request ≡ executed_by (new_at_router standing router command)
  command_some ledger state request own command is read some =
      command_read ledger state request own is read ∙ executed_some (action_of state request.0 own) command some

module _ {M : Type 0} (after : M → ℕ → List ℕ → M) (answer : M → ℕ → List ℕ → List ℕ) where
  embedded_command : (barred : Bool) (text : List ℕ)
      → (if barred then [] else (KEPT_LIMIT, text) ∷ []) ++ []
      ≡ listed (option_map kept_within (if barred then None else Some text))
  embedded_command true text = refl
  embedded_command false text = refl

  by_action : (action : Action) (service : ℕ) (request : Request)
      → reached_by after answer (Served service action) request ++ []
      ≡ listed (option_map kept_within (embedded_by action))
  by_action (Replies reply) service request = refl
  by_action (Executes command) service request = embedded_command (is_barred command.request) command.request
  by_action (Queues command ticket) service request = embedded_command (is_barred command.request) command.request
  by_action (Frees originator) service request = refl

module _ {M : Type 0} (after : M → ℕ → List ℕ → M) (answer : M → ℕ → List ℕ → List ℕ)
    (standing : M → List ℕ → Standing) where
  passed : (node : LedgerRouter M) (request : Request) (ledger : Option LedgerState) → node.ledger ≡ ledger
      → ledger_request request.1 ≡ None → reached after answer standing node (request ∷ []) ≡ request ∷ []
  passed node request None is other =
      ap (λ l. reached_by after answer (fate standing l node.router request.0 request.1) request ++ []) is
  passed node request (Some ledger) is other =
      ap (λ l. reached_by after answer (fate standing l node.router request.0 request.1) request ++ []) is
      ∙ ap (λ own. reached_by after answer (fate_of standing ledger node.router request.0 own) request ++ []) other

  -- a request that is not to the ledger reaches the router as it is
  pub reached_other : (node : LedgerRouter M) (request : Request) → ledger_request request.1 ≡ None
      → reached after answer standing node (request ∷ []) ≡ request ∷ []
  reached_other node request other = passed node request node.ledger refl other

  reached_read : (node : LedgerRouter M) (request : Request) (ledger : LedgerState) (own : LedgerRequest)
      → node.ledger ≡ Some ledger → ledger_request request.1 ≡ Some own
      → reached after answer standing node (request ∷ [])
      ≡ listed (option_map kept_within (embedded_by (at_router standing node.router (action_of ledger request.0 own))))
  reached_read node request ledger own is read =
      ap (λ l. reached_by after answer (fate standing l node.router request.0 request.1) request ++ []) is
      ∙ ap (λ o. reached_by after answer (fate_of standing ledger node.router request.0 o) request ++ []) read
      ∙ by_action after answer (at_router standing node.router (action_of ledger request.0 own)) own.service request

  -- of a request to the ledger the embedded one does, if its command is new, and the router takes it
  pub reached_none : (node : LedgerRouter M) (request : Request) (ledger : LedgerState) (own : LedgerRequest)
      → node.ledger ≡ Some ledger → ledger_request request.1 ≡ Some own
      → new_command (action_of ledger request.0 own) ≡ None → reached after answer standing node (request ∷ []) ≡ []
  reached_none node request ledger own is read none =
      reached_read node request ledger own is read
      ∙ ap (λ o. listed (option_map kept_within o))
      (embedded_none standing node.router (action_of ledger request.0 own) none)

  pub reached_some : (node : LedgerRouter M) (request : Request) (ledger : LedgerState) (own : LedgerRequest)
      (command : Command) → node.ledger ≡ Some ledger → ledger_request request.1 ≡ Some own
      → new_command (action_of ledger request.0 own) ≡ Some command
      → reached after answer standing node (request ∷ [])
      ≡ listed (option_map kept_within (embedded_by (new_at_router standing node.router command)))
  reached_some node request ledger own command is read some =
      reached_read node request ledger own is read
      ∙ ap (λ o. listed (option_map kept_within o))
      (embedded_some standing node.router (action_of ledger request.0 own) command some)
