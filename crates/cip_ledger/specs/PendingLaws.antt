-- What holds of pending commands over every list of requests and of replies to their tickets.
use Rattle.std.specs.Prelude.{◌≡◌, ⊤, ℕ, ◌+◌, ◌==◌, ◌&&◌, true, false, if◌then◌else◌, Option, Some, None, List, [], ◌∷◌}
use Rattle.std.specs.Prelude.{◌++◌, length, option_map}
use Rattle.cip_ledger.specs.declared.router.LedgerRouter.{LedgerRouter}
use Rattle.cip_message.specs.declared.ledger_services.TheConstants as services
use Rattle.cip_ledger.specs.declared.target.Standing.{Standing}
use Rattle.cip_ledger.specs.Doubt.{is_kept_reply}
use Rattle.cip_ledger.specs.DoubtLaws.{IsGiven}
use Rattle.cip_ledger.specs.Laws.{IsNotFreed, Succeeds}
use Rattle.cip_ledger.specs.Ledger.{LedgerState, SlotState, slot_of, is_pending, slot_withdrawn}
use Rattle.cip_ledger.specs.Pending.{completed_slot, can_complete, completed}
use Rattle.cip_message.specs.LedgerCommand.{Command}
use Rattle.cip_ledger.specs.Runs.{Request, Event, slot_in, turn_at, answer_to, next, journal}
use Rattle.cip_ledger.specs.Services.{reply_to, success, last_content, DONE, PENDING, HEAD_SIZE}
use Rattle.cip_ledger.specs.Turn.{turn_of}
use Rattle.cip_ledger.specs.Withdrawing.{withdrawn}

-- once a reply is given to a ticket, no other reply is taken for it
abbrev pub completed_once_law : Type 0
completed_once_law = (ledger : LedgerState) (ticket : ℕ) (reply other : List ℕ) →
    can_complete ledger ticket reply ≡ true → can_complete (completed ledger ticket reply) ticket other ≡ false

-- the numbers that originators have in their slots stay as they are if a command is completed
abbrev pub completed_numbers_law : Type 0
completed_numbers_law = (ledger : LedgerState) (ticket : ℕ) (reply : List ℕ) (any : ℕ) →
    option_map (λ (slot : SlotState). slot.number) (slot_of any (completed ledger ticket reply).taken)
    ≡ option_map (λ (slot : SlotState). slot.number) (slot_of any ledger.taken)

-- the originator's last command has this number, and is pending with this ticket
pub record IsPending (ledger : LedgerState) (originator number ticket : ℕ) : Type 0 where
  pub slot : SlotState
  pub found : slot_of originator ledger.taken ≡ Some slot
  pub number_is : slot.number ≡ number
  pub no_reply : slot.reply ≡ None
  pub ticket_is : slot.ticket ≡ Some ticket

-- ---- over every list of steps

-- A request comes, the reply to the command with a ticket is given, the router is changed by its owner, or a command is
-- withdrawn. With a reply, and with a command that is withdrawn, the router may change too: the command leaves its queue.
pub data Step (M : Type 0) : Type 0 where
  Asks : (request : Request) → Step M
  Completes : (ticket : ℕ) (reply : List ℕ) (router : M) → Step M
  Changes : (router : M) → Step M
  Withdraws : (originator number : ℕ) (router : M) → Step M

abbrev pub completed_if : ℕ → List ℕ → SlotState → SlotState
completed_if ticket reply slot = if is_kept_reply reply then completed_slot ticket reply slot else slot

-- a pending command once this originator's number is withdrawn
abbrev pub withdrawn_if : ℕ → ℕ → SlotState → SlotState
withdrawn_if originator number slot =
    if is_pending slot && (slot.originator == originator) && (slot.number == number)
    then slot_withdrawn originator number else slot

-- the slot of a command after these steps, as long as it is not freed and no other command takes it
abbrev pub slot_after : {M : Type 0} → SlotState → List (Step M) → SlotState
slot_after slot [] = slot
slot_after slot (Asks request ∷ steps) = slot_after slot steps
slot_after slot (Completes ticket reply router ∷ steps) = slot_after (completed_if ticket reply slot) steps
slot_after slot (Changes router ∷ steps) = slot_after slot steps
slot_after slot (Withdraws originator number router ∷ steps) = slot_after (withdrawn_if originator number slot) steps

-- the first reply that these steps give to a ticket, and that a slot can keep
abbrev pub result_in : {M : Type 0} → ℕ → List (Step M) → Option (List ℕ)
result_in ticket [] = None
result_in ticket (Asks request ∷ steps) = result_in ticket steps
result_in ticket (Completes other reply router ∷ steps) =
    if is_kept_reply reply && (ticket == other) then Some reply else result_in ticket steps
result_in ticket (Changes router ∷ steps) = result_in ticket steps
result_in ticket (Withdraws originator number router ∷ steps) = result_in ticket steps

-- the command of this originator and number is not withdrawn
abbrev pub IsNotWithdrawn : {M : Type 0} → ℕ → ℕ → List (Step M) → Type 0
IsNotWithdrawn originator number [] = ⊤
IsNotWithdrawn originator number (Asks request ∷ steps) = IsNotWithdrawn originator number steps
IsNotWithdrawn originator number (Completes ticket reply router ∷ steps) = IsNotWithdrawn originator number steps
IsNotWithdrawn originator number (Changes router ∷ steps) = IsNotWithdrawn originator number steps
IsNotWithdrawn originator number (Withdraws by own router ∷ steps) =
    (by ≡ originator → own ≡ number → ⊥) × IsNotWithdrawn originator number steps

-- the data of the answer to a command that was pending
abbrev pub content_by : Option (List ℕ) → List ℕ
content_by None = PENDING ∷ []
content_by (Some reply) = DONE ∷ reply

-- a command that is done or withdrawn stays so, with the same reply
abbrev pub done_law : Type 0 → Type 0
done_law M = (slot : SlotState) (reply : List ℕ) (steps : List (Step M)) → slot.reply ≡ Some reply →
    slot_after slot steps ≡ slot

-- a pending command is pending until a reply is given to its ticket, and is done with this reply then, if it is not
-- withdrawn
abbrev pub result_law : Type 0 → Type 0
result_law M = (slot : SlotState) (ticket : ℕ) (steps : List (Step M)) → slot.reply ≡ None → slot.ticket ≡ Some ticket →
    IsNotWithdrawn slot.originator slot.number steps → last_content (slot_after slot steps) ≡ content_by (result_in ticket steps)

module _ {M : Type 0} (after : M → ℕ → List ℕ → M) (answer : M → ℕ → List ℕ → List ℕ)
    (standing : M → List ℕ → Standing) where
  abbrev pub node_step : LedgerRouter M → Step M → LedgerRouter M
  node_step node (Asks request) = next after answer standing node request
  node_step node (Completes ticket reply router) = record {
    ledger = option_map (λ ledger. completed ledger ticket reply) node.ledger;
    router = router;
  }
  node_step node (Changes router) = record { ledger = node.ledger; router = router }
  node_step node (Withdraws originator number router) =
      record { ledger = option_map (withdrawn originator number) node.ledger; router = router }

  abbrev pub node_after_steps : LedgerRouter M → List (Step M) → LedgerRouter M
  node_after_steps node [] = node
  node_after_steps node (step ∷ steps) = node_after_steps (node_step node step) steps

  abbrev pub journal_of_step : LedgerRouter M → Step M → List Event
  journal_of_step node (Asks request) = journal after answer standing node (request ∷ [])
  journal_of_step node (Completes ticket reply router) = []
  journal_of_step node (Changes router) = []
  journal_of_step node (Withdraws originator number router) = []

  abbrev pub journal_of_steps : LedgerRouter M → List (Step M) → List Event
  journal_of_steps node [] = []
  journal_of_steps node (step ∷ steps) = journal_of_step node step ++ journal_of_steps (node_step node step) steps

  -- A pending command is answered by its state, and changes nothing: it is not executed again.
  abbrev pub pending_law : Type 0
  pending_law = (node : LedgerRouter M) (ledger : LedgerState) (request : Request) (command : Command) (ticket : ℕ) →
      node.ledger ≡ Some ledger → IsGiven ledger request command (HEAD_SIZE + 1) →
      IsPending ledger command.originator command.number ticket →
      turn_at after answer standing node request
      ≡ turn_of node.ledger node.router (reply_to services.DO_ONCE (success (PENDING ∷ [])))

  -- Once a reply is given to its ticket, it is answered by this reply, and changes nothing.
  abbrev pub completed_law : Type 0
  completed_law = (node : LedgerRouter M) (ledger : LedgerState) (request : Request) (command : Command) (ticket : ℕ)
      (reply : List ℕ) →
      node.ledger ≡ Some (completed ledger ticket reply) →
      IsGiven ledger request command (HEAD_SIZE + 1 + length reply) →
      IsPending ledger command.originator command.number ticket → is_kept_reply reply ≡ true →
      turn_at after answer standing node request
      ≡ turn_of node.ledger node.router (reply_to services.DO_ONCE (success (DONE ∷ reply)))

  -- two answers to a command: by its slot after the first one, and by that slot after what came between them
  pub record AreAnswersOf (node : LedgerRouter M) (first : Request) (between : List (Step M)) (again : Request)
      (originator : ℕ) : Type 0 where
    pub slot : SlotState
    pub found : slot_in originator (next after answer standing node first).ledger ≡ Some slot
    pub first_is : answer_to after answer standing node first ≡ reply_to services.DO_ONCE (success (last_content slot))
    pub again_is :
        answer_to after answer standing (node_after_steps (next after answer standing node first) between) again
        ≡ reply_to services.DO_ONCE (success (last_content (slot_after slot between)))

  -- Every two success answers to a number have the same bytes, or the first says that the command is pending, and the
  -- other one has its one result, or says that it was withdrawn. So no answer goes back (`done_law`, `result_law`).
  abbrev pub never_back_law : Type 0
  never_back_law = (node : LedgerRouter M) (first again : Request) (between : List (Step M)) (originator number : ℕ) →
      Succeeds after answer standing node first originator number →
      Succeeds after answer standing (node_after_steps (next after answer standing node first) between) again originator
      number →
      IsNotFreed originator (journal_of_steps (next after answer standing node first) between) →
      AreAnswersOf node first between again originator
