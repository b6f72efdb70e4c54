-- What holds of a ledger over every list of requests, in whatever order they come.
use Rattle.std.specs.Prelude.{◌≡◌, ◌≢◌, ◌⊎◌, ⊤, ℕ, ◌+◌, ◌<◌, ◌≤◌, Option, Some, None, option_map, List, [], ◌∷◌, ◌++◌}
use Rattle.std.specs.Prelude.{length, map, false}
use Rattle.std.specs.List.{AllByRecursion}
use Rattle.cip_message.specs.Router.{general_status, RepliesWellFormed}
use Rattle.cip_ledger.specs.declared.router.LedgerRouter.{LedgerRouter}
use Rattle.cip_message.specs.declared.ledger_services.TheConstants as services
use Rattle.cip_ledger.specs.declared.target.Standing.{Standing}
use Rattle.cip_ledger.specs.declared.target.Standing.TheVariants as standings
use Rattle.cip_ledger.specs.Ledger.{LedgerState, SlotState, empty_ledger, is_pending}
use Rattle.cip_ledger.specs.Requests.{ledger_request}
use Rattle.cip_message.specs.LedgerCommand.{Command}
use Rattle.cip_ledger.specs.Services.{reply_to, success, DONE, PENDING, KEPT_LIMIT, HEAD_SIZE}
use Rattle.cip_ledger.specs.Standings.{embedded_standing, new_at_router}
use Rattle.cip_ledger.specs.Turn.{turn_of, acted, embedded_reply}
use Rattle.cip_ledger.specs.Runs.{Request, slot_in, command_given, forgotten, Event, Executed, Freed}
use Rattle.cip_ledger.specs.Runs.{answer_to, turn_at, next, node_after, journal, reached, router_after, StaysFinal}

-- ---- facts on events

-- each command of this originator that is executed before its slot is freed is so
abbrev pub UntilFreed : ℕ → (Command → Type 0) → List Event → Type 0
UntilFreed originator IsSo [] = ⊤
UntilFreed originator IsSo (Executed command reply ∷ later) =
    (command.originator ≡ originator → IsSo command) × UntilFreed originator IsSo later
UntilFreed originator IsSo (Freed freed ∷ later) = freed ≢ originator → UntilFreed originator IsSo later

-- of two commands of one originator, between which its slot is not freed, the later has the greater number
abbrev pub Rises : List Event → Type 0
Rises [] = ⊤
Rises (Executed command reply ∷ later) =
    UntilFreed command.originator (λ other. command.number < other.number) later × Rises later
Rises (Freed originator ∷ later) = Rises later

-- no number of an originator is executed twice, unless its slot is freed in between
abbrev pub HasNoDoubles : List Event → Type 0
HasNoDoubles [] = ⊤
HasNoDoubles (Executed command reply ∷ later) =
    UntilFreed command.originator (λ other. command.number ≢ other.number) later × HasNoDoubles later
HasNoDoubles (Freed originator ∷ later) = HasNoDoubles later

-- an originator's slot is not freed
abbrev pub IsNotFreed : ℕ → List Event → Type 0
IsNotFreed originator [] = ⊤
IsNotFreed originator (Executed command reply ∷ later) = IsNotFreed originator later
IsNotFreed originator (Freed freed ∷ later) = (freed ≢ originator) × IsNotFreed originator later

-- the originator's command of this number was executed with this reply, and its slot was not freed since
abbrev pub IsDone : ℕ → ℕ → List ℕ → List Event → Type 0
IsDone originator number reply [] = ⊥
IsDone originator number reply (Executed command given ∷ later) =
    ((command.originator ≡ originator) × (command.number ≡ number) × (given ≡ reply) × IsNotFreed originator later)
    ⊎ IsDone originator number reply later
IsDone originator number reply (Freed freed ∷ later) = IsDone originator number reply later

-- each command that is executed is of this life
abbrev pub AreOfLife : ℕ → List Event → Type 0
AreOfLife life [] = ⊤
AreOfLife life (Executed command reply ∷ later) = (command.life ≡ life) × AreOfLife life later
AreOfLife life (Freed originator ∷ later) = AreOfLife life later

-- no command of this life, originator and number is executed
abbrev pub IsNotExecuted : Command → List Event → Type 0
IsNotExecuted command [] = ⊤
IsNotExecuted command (Executed other reply ∷ later) =
    (command.life ≡ other.life → command.originator ≡ other.originator → command.number ≡ other.number → ⊥)
    × IsNotExecuted command later
IsNotExecuted command (Freed originator ∷ later) = IsNotExecuted command later

-- no command of the one is executed in the other
abbrev pub AreApart : List Event → List Event → Type 0
AreApart [] others = ⊤
AreApart (Executed command reply ∷ later) others = IsNotExecuted command others × AreApart later others
AreApart (Freed originator ∷ later) others = AreApart later others

-- in several journals each command is executed once: at most in one of them, and there at most once, unless the slot
-- of its originator is freed in between
abbrev pub IsOnceInAll : List (List Event) → Type 0
IsOnceInAll [] = ⊤
IsOnceInAll (journal ∷ journals) =
    HasNoDoubles journal × AllByRecursion (AreApart journal) journals × IsOnceInAll journals

-- ---- facts on requests and lives

-- the command's originator has a smaller number that is not pending, or no slot, and then one is free
abbrev pub IsNewIn : LedgerState → ℕ → Option SlotState → Type 0
IsNewIn ledger number None = length ledger.taken < ledger.slots
IsNewIn ledger number (Some slot) = (slot.number < number) × (is_pending slot ≡ false)

-- the command is of the ledger's life and new to it
pub record IsNew (ledger : LedgerState) (command : Command) : Type 0 where
  pub life : command.life ≡ ledger.life
  pub number : IsNewIn ledger command.number (slot_in command.originator (Some ledger))

-- the request is neither a command of this originator nor Forget of its slot
pub record IsOfAnother (originator : ℕ) (request : Request) : Type 0 where
  pub command : option_map (λ command. command.originator) (command_given request) ≢ Some originator
  pub forget : (number : ℕ) → forgotten request ≢ Some (originator, number)

-- one life of a device: how many slots its ledger has, its number, the router as it begins, the requests that come
pub record Life (M : Type 0) : Type 0 where
  pub slots : ℕ
  pub number : ℕ
  pub router : M
  pub requests : List Request

abbrev pub begun : {M : Type 0} → Life M → LedgerRouter M
begun life = record { ledger = Some (empty_ledger life.slots life.number); router = life.router }

abbrev pub HaveOwnNumbers : {M : Type 0} → List (Life M) → Type 0
HaveOwnNumbers [] = ⊤
HaveOwnNumbers (life ∷ lives) = AllByRecursion (λ other. life.number ≢ other.number) lives × HaveOwnNumbers lives

-- an answer has this reply to the embedded request, or says that the command is pending
abbrev pub IsOfExecution : List ℕ → List ℕ → Type 0
IsOfExecution reply answer =
    (answer ≡ reply_to services.DO_ONCE (success (DONE ∷ reply)))
    ⊎ (answer ≡ reply_to services.DO_ONCE (success (PENDING ∷ [])))

-- ---- the laws

module _ {M : Type 0} (after : M → ℕ → List ℕ → M) (answer : M → ℕ → List ℕ → List ℕ)
    (standing : M → List ℕ → Standing) where
  -- the request is the originator's command of this number, and the ledger answers it with this status
  pub record IsAnswered (node : LedgerRouter M) (request : Request) (originator number status : ℕ) : Type 0 where
    pub has_ledger : node.ledger ≢ None
    pub command : Command
    pub given : command_given request ≡ Some command
    pub originator_is : command.originator ≡ originator
    pub number_is : command.number ≡ number
    pub status_is : general_status (answer_to after answer standing node request) ≡ status

  abbrev pub Succeeds : LedgerRouter M → Request → ℕ → ℕ → Type 0
  Succeeds node request originator number = IsAnswered node request originator number 0

  -- the router is as if it alone had executed what reached it
  abbrev pub router_law : Type 0
  router_law = (node : LedgerRouter M) (requests : List Request) →
      (node_after after answer standing node requests).router
      ≡ router_after after answer node.router (reached after answer standing node requests)

  -- without a ledger, and if it is not to the ledger's class, a request is the router's alone
  abbrev pub passing_law : Type 0
  passing_law = (node : LedgerRouter M) (request : Request) → (node.ledger ≡ None) ⊎ (ledger_request request.1 ≡ None) →
      turn_at after answer standing node request
      ≡ turn_of node.ledger (after node.router request.0 request.1) (answer node.router request.0 request.1)

  -- the numbers that are executed for one originator rise, unless its slot is freed in between
  abbrev pub rising_law : Type 0
  rising_law = (node : LedgerRouter M) (requests : List Request) → Rises (journal after answer standing node requests)

  -- each number of an originator is executed at most once, unless its slot is freed in between
  abbrev pub once_law : Type 0
  once_law = (node : LedgerRouter M) (requests : List Request) →
      HasNoDoubles (journal after answer standing node requests)

  -- once a number was answered with success, or with 0x0c as a greater one was executed, only greater ones of that
  -- originator are executed, until its slot is freed
  abbrev pub never_again_law : Type 0
  never_again_law = (node : LedgerRouter M) (request : Request) (later : List Request) (originator number status : ℕ) →
      IsAnswered node request originator number status → (status ≡ 0) ⊎ (status ≡ 0x0c) →
      UntilFreed originator (λ command. number < command.number)
      (journal after answer standing (next after answer standing node request) later)

  -- every two success answers to a number have the same bytes, whatever else the requests say, and whatever came
  -- between them, but a Forget that freed the slot
  abbrev pub same_bytes_law : Type 0
  same_bytes_law = (node : LedgerRouter M) (first again : Request) (between : List Request) (originator number : ℕ) →
      Succeeds node first originator number →
      Succeeds (node_after after answer standing node (first ∷ between)) again originator number →
      IsNotFreed originator (journal after answer standing (next after answer standing node first) between) →
      answer_to after answer standing (node_after after answer standing node (first ∷ between)) again
      ≡ answer_to after answer standing node first

  -- from an empty ledger on, every success answer has the reply of the execution of that number, or says that the
  -- command is pending, which was executed too
  abbrev pub of_execution_law : Type 0
  of_execution_law = (life : Life M) (request : Request) (originator number : ℕ) →
      Succeeds (node_after after answer standing (begun life) life.requests) request originator number →
      (reply : List ℕ)
      × IsDone originator number reply (journal after answer standing (begun life) (life.requests ++ request ∷ []))
      × IsOfExecution reply
      (answer_to after answer standing (node_after after answer standing (begun life) life.requests) request)

  -- of a router that queues no command every success answer has the reply of the execution
  abbrev pub of_final_execution_law : Type 0
  of_final_execution_law = (life : Life M) (request : Request) (originator number : ℕ) →
      StaysFinal after answer standing life.router →
      Succeeds (node_after after answer standing (begun life) life.requests) request originator number →
      (reply : List ℕ)
      × IsDone originator number reply (journal after answer standing (begun life) (life.requests ++ request ∷ []))
      × (answer_to after answer standing (node_after after answer standing (begun life) life.requests) request
      ≡ reply_to services.DO_ONCE (success (DONE ∷ reply)))

  -- an originator's slot stays as it is under the requests of others
  abbrev pub others_law : Type 0
  others_law = (node : LedgerRouter M) (requests : List Request) (originator : ℕ) →
      AllByRecursion (IsOfAnother originator) requests →
      slot_in originator (node_after after answer standing node requests).ledger ≡ slot_in originator node.ledger

  -- a slot is freed by Forget with its number alone, never while its command is pending, and is free then
  pub record IsForgotten (node : LedgerRouter M) (request : Request) (originator : ℕ) : Type 0 where
    pub slot : SlotState
    pub found : slot_in originator node.ledger ≡ Some slot
    pub named : forgotten request ≡ Some (originator, slot.number)
    pub ended : is_pending slot ≡ false
    pub free : slot_in originator (next after answer standing node request).ledger ≡ None

  abbrev pub frees_law : Type 0
  frees_law = (node : LedgerRouter M) (request : Request) (originator : ℕ) →
      journal after answer standing node (request ∷ []) ≡ Freed originator ∷ [] → IsForgotten node request originator

  -- a new command is executed, if the longest reply fits and the router takes it
  abbrev pub executes_law : Type 0
  executes_law = (node : LedgerRouter M) (ledger : LedgerState) (request : Request) (command : Command) →
      node.ledger ≡ Some ledger → command_given request ≡ Some command → IsNew ledger command →
      HEAD_SIZE + 1 + KEPT_LIMIT ≤ request.0 →
      embedded_standing standing node.router command.request ≢ standings.Refused →
      journal after answer standing node (request ∷ [])
      ≡ Executed command (embedded_reply after answer node.router command.request) ∷ []

  -- What becomes of a new command is what the router makes of its embedded request: it is executed and kept with its
  -- reply, executed and kept with the ticket under which the router queues it, or refused, and then nothing changes.
  abbrev pub standing_law : Type 0
  standing_law = (node : LedgerRouter M) (ledger : LedgerState) (request : Request) (command : Command) →
      node.ledger ≡ Some ledger → command_given request ≡ Some command → IsNew ledger command →
      HEAD_SIZE + 1 + KEPT_LIMIT ≤ request.0 →
      turn_at after answer standing node request
      ≡ acted after answer (new_at_router standing node.router command) services.DO_ONCE node.ledger node.router

  -- replies are well-formed if those of the router are
  abbrev pub form_law : Type 0
  form_law = RepliesWellFormed answer →
      RepliesWellFormed
      (λ (node : LedgerRouter M) max_size request. answer_to after answer standing node (max_size, request))

  -- only commands of the ledger's life are executed
  abbrev pub life_law : Type 0
  life_law = (node : LedgerRouter M) (ledger : LedgerState) (requests : List Request) → node.ledger ≡ Some ledger →
      AreOfLife ledger.life (journal after answer standing node requests)

  abbrev pub journal_of : Life M → List Event
  journal_of life = journal after answer standing (begun life) life.requests

  -- over lives with numbers of their own each command is executed at most once altogether
  abbrev pub lives_law : Type 0
  lives_law = (lives : List (Life M)) → HaveOwnNumbers lives → IsOnceInAll (map journal_of lives)
