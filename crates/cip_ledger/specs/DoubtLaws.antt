-- What holds of commands in doubt over every list of requests, in whatever order they come.
use Rattle.std.specs.Prelude.{◌≡◌, ℕ, ◌+◌, ◌<◌, ◌≤◌, true, false, Some, List, [], ◌∷◌, length, option_map}
use Rattle.cip_ledger.specs.declared.router.LedgerRouter.{LedgerRouter}
use Rattle.cip_message.specs.declared.ledger_services.TheConstants as services
use Rattle.cip_ledger.specs.declared.target.Standing.{Standing}
use Rattle.cip_ledger.specs.Doubt.{is_in_doubt, can_settle, settled}
use Rattle.cip_ledger.specs.Ledger.{LedgerState, SlotState, slot_of}
use Rattle.cip_message.specs.LedgerCommand.{Command}
use Rattle.cip_ledger.specs.Services.{reply_to, success, DONE, IN_DOUBT, HEAD_SIZE}
use Rattle.cip_ledger.specs.Turn.{turn_of}
use Rattle.cip_ledger.specs.Laws.{UntilFreed}
use Rattle.cip_ledger.specs.Runs.{Request, slot_in, command_given, turn_at, journal}

-- a request gives a command of the ledger's life, and its reply may have so many bytes
pub record IsGiven (ledger : LedgerState) (request : Request) (command : Command) (size : ℕ) : Type 0 where
  pub given : command_given request ≡ Some command
  pub life : command.life ≡ ledger.life
  pub fits : size ≤ request.0

-- a command that is settled is in doubt no more, and no other reply is taken for it
abbrev pub settled_once_law : Type 0
settled_once_law = (ledger : LedgerState) (originator number : ℕ) (reply other : List ℕ) →
    can_settle ledger originator number reply ≡ true →
    can_settle (settled ledger originator number reply) originator number other ≡ false

-- the numbers that originators have in their slots stay as they are if a command is settled
abbrev pub settled_numbers_law : Type 0
settled_numbers_law = (ledger : LedgerState) (originator number : ℕ) (reply : List ℕ) (any : ℕ) →
    option_map (λ (slot : SlotState). slot.number) (slot_of any (settled ledger originator number reply).taken)
    ≡ option_map (λ (slot : SlotState). slot.number) (slot_of any ledger.taken)

module _ {M : Type 0} (after : M → ℕ → List ℕ → M) (answer : M → ℕ → List ℕ → List ℕ)
    (standing : M → List ℕ → Standing) where
  -- a number that an originator's slot has, done, pending or in doubt, is never executed again: until the slot is
  -- freed, only greater ones of that originator are
  abbrev pub kept_law : Type 0
  kept_law = (node : LedgerRouter M) (requests : List Request) (originator : ℕ) (slot : SlotState) →
      slot_in originator node.ledger ≡ Some slot →
      UntilFreed originator (λ command. slot.number < command.number) (journal after answer standing node requests)

  -- a command in doubt is answered by its state, and changes nothing
  abbrev pub doubt_law : Type 0
  doubt_law = (node : LedgerRouter M) (ledger : LedgerState) (request : Request) (command : Command) →
      node.ledger ≡ Some ledger → IsGiven ledger request command (HEAD_SIZE + 1) →
      is_in_doubt ledger command.originator command.number ≡ true →
      turn_at after answer standing node request
      ≡ turn_of node.ledger node.router (reply_to services.DO_ONCE (success (IN_DOUBT ∷ [])))

  -- a command that was settled is answered by the reply that the owner gave, and changes nothing
  abbrev pub settled_law : Type 0
  settled_law = (node : LedgerRouter M) (ledger : LedgerState) (request : Request) (command : Command) (reply : List ℕ) →
      node.ledger ≡ Some (settled ledger command.originator command.number reply) →
      IsGiven ledger request command (HEAD_SIZE + 1 + length reply) →
      can_settle ledger command.originator command.number reply ≡ true →
      turn_at after answer standing node request
      ≡ turn_of node.ledger node.router (reply_to services.DO_ONCE (success (DONE ∷ reply)))
