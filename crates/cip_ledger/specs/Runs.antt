-- Runs of requests through a ledger and the router behind it.
use Rattle.std.specs.Prelude.{◌≡◌, ℕ, ◌==◌, ◌&&◌, nat_lt, if◌then◌else◌, Option, Some, None, List, [], ◌∷◌, ◌++◌}
use Rattle.std.specs.Prelude.{length}
use Rattle.cip_bytes.specs.Numbers.{number_at}
use Rattle.cip_ledger.specs.declared.router.LedgerRouter.{LedgerRouter}
use Rattle.cip_message.specs.declared.ledger_services.TheConstants as services
use Rattle.cip_ledger.specs.declared.target.Standing.{Standing}
use Rattle.cip_ledger.specs.declared.target.Standing.TheVariants as standings
use Rattle.cip_ledger.specs.Ledger.{LedgerState, SlotState, slot_of}
use Rattle.cip_ledger.specs.Requests.{LedgerRequest, command_of, ledger_request, is_barred}
use Rattle.cip_message.specs.LedgerCommand.{Command}
use Rattle.cip_ledger.specs.Services.{Replies, Executes, Queues, Frees, KEPT_LIMIT}
use Rattle.cip_ledger.specs.Turn.{Fate, Passed, Served, fate, Turn, turn, embedded_reply}

-- the reply limit of a request, and its bytes, from whatever session or connection they came
abbrev pub Request : Type 0
Request = ℕ × List ℕ

-- the slot of an originator, if there is a ledger
abbrev pub slot_in : ℕ → Option LedgerState → Option SlotState
slot_in originator None = None
slot_in originator (Some ledger) = slot_of originator ledger.taken

-- ---- what a request asks of the ledger

abbrev pub command_in_data : List ℕ → Option Command
command_in_data bytes = if nat_lt (length bytes) 22 then None else Some (command_of bytes)

abbrev pub command_by : Option LedgerRequest → Option Command
command_by None = None
command_by (Some request) =
    if (request.instance == 1) && (request.service == services.DO_ONCE) then command_in_data request.data else None

-- the command that a request gives, if it is Do_Once
abbrev pub command_given : Request → Option Command
command_given request = command_by (ledger_request request.1)

abbrev pub forgotten_in_data : List ℕ → Option (ℕ × ℕ)
forgotten_in_data bytes = if length bytes == 12 then Some (number_at 0 8 bytes, number_at 8 4 bytes) else None

abbrev pub forgotten_by : Option LedgerRequest → Option (ℕ × ℕ)
forgotten_by None = None
forgotten_by (Some request) =
    if (request.instance == 1) && (request.service == services.FORGET) then forgotten_in_data request.data else None

-- the originator and the number that a request names, if it is Forget
abbrev pub forgotten : Request → Option (ℕ × ℕ)
forgotten request = forgotten_by (ledger_request request.1)

-- ---- what happens in a run

-- A command is executed, with this reply to its embedded request, or the slot of an originator is freed. The reply to a
-- command that the router queues is what the router says as it does so.
pub data Event : Type 0 where
  Executed : (command : Command) (reply : List ℕ) → Event
  Freed : (originator : ℕ) → Event

abbrev pub node_of : {M : Type 0} → Turn M → LedgerRouter M
node_of done = record { ledger = done.ledger; router = done.router }

module _ {M : Type 0} (after : M → ℕ → List ℕ → M) (answer : M → ℕ → List ℕ → List ℕ) where
  abbrev pub events_by : Fate → M → List Event
  events_by Passed router = []
  events_by (Served service (Replies reply)) router = []
  events_by (Served service (Executes command)) router =
      Executed command (embedded_reply after answer router command.request) ∷ []
  events_by (Served service (Queues command ticket)) router =
      Executed command (embedded_reply after answer router command.request) ∷ []
  events_by (Served service (Frees originator)) router = Freed originator ∷ []

  abbrev pub embedded_in : Command → List Request
  embedded_in command = if is_barred command.request then [] else (KEPT_LIMIT, command.request) ∷ []

  abbrev pub reached_by : Fate → Request → List Request
  reached_by Passed request = request ∷ []
  reached_by (Served service (Replies reply)) request = []
  reached_by (Served service (Executes command)) request = embedded_in command
  reached_by (Served service (Queues command ticket)) request = embedded_in command
  reached_by (Served service (Frees originator)) request = []

  -- the router alone after these requests
  abbrev pub router_after : M → List Request → M
  router_after router [] = router
  router_after router (request ∷ requests) = router_after (after router request.0 request.1) requests

module _ {M : Type 0} (after : M → ℕ → List ℕ → M) (answer : M → ℕ → List ℕ → List ℕ)
    (standing : M → List ℕ → Standing) where
  abbrev pub turn_at : LedgerRouter M → Request → Turn M
  turn_at node request = turn after answer standing node.ledger node.router request.0 request.1

  -- the reply to a request
  abbrev pub answer_to : LedgerRouter M → Request → List ℕ
  answer_to node request = (turn_at node request).answer

  -- the ledger and the router after a request, and after several
  abbrev pub next : LedgerRouter M → Request → LedgerRouter M
  next node request = node_of (turn_at node request)

  abbrev pub node_after : LedgerRouter M → List Request → LedgerRouter M
  node_after node [] = node
  node_after node (request ∷ requests) = node_after (next node request) requests

  -- the events of a run, in order
  abbrev pub journal : LedgerRouter M → List Request → List Event
  journal node [] = []
  journal node (request ∷ requests) =
      events_by after answer (fate standing node.ledger node.router request.0 request.1) node.router
      ++ journal (next node request) requests

  -- what reaches the router, in order: each request that is not to the ledger, and the embedded request of each
  -- command that is executed, unless it is barred
  abbrev pub reached : LedgerRouter M → List Request → List Request
  reached node [] = []
  reached node (request ∷ requests) =
      reached_by after answer (fate standing node.ledger node.router request.0 request.1) request
      ++ reached (next node request) requests

  -- whatever the router executes, it queues and refuses no command
  abbrev pub StaysFinal : M → Type 0
  StaysFinal router = (requests : List Request) (request : List ℕ) →
      standing (router_after after answer router requests) request ≡ standings.Final
