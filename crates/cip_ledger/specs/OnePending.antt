-- An originator has one pending command at most.
use Rattle.std.specs.Prelude.{◌≡◌, ℕ, ◌<◌, false, Some, None, List, [], ◌∷◌}
use Rattle.cip_ledger.specs.declared.router.LedgerRouter.{LedgerRouter}
use Rattle.cip_message.specs.declared.ledger_services.TheConstants as services
use Rattle.cip_ledger.specs.declared.status.Status.TheVariants as statuses
use Rattle.cip_ledger.specs.declared.target.Standing.{Standing}
use Rattle.cip_ledger.specs.Ledger.{LedgerState, SlotState, is_pending}
use Rattle.cip_ledger.specs.PendingLaws.{IsPending, Step, result_in, IsNotWithdrawn, node_after_steps}
use Rattle.cip_message.specs.LedgerCommand.{Command}
use Rattle.cip_ledger.specs.Runs.{Request, slot_in, command_given, turn_at, Executed, journal}
use Rattle.cip_ledger.specs.Services.{reply_to, refusal}
use Rattle.cip_ledger.specs.Turn.{turn_of}

module _ {M : Type 0} (after : M → ℕ → List ℕ → M) (answer : M → ℕ → List ℕ → List ℕ)
    (standing : M → List ℕ → Standing) where
  -- A command is executed only if its originator's last one is not pending.
  abbrev pub one_pending_law : Type 0
  one_pending_law = (node : LedgerRouter M) (request : Request) (command : Command) (reply : List ℕ) (slot : SlotState) →
      journal after answer standing node (request ∷ []) ≡ Executed command reply ∷ [] →
      slot_in command.originator node.ledger ≡ Some slot → is_pending slot ≡ false

  -- While an originator's last command is pending, one with a greater number is refused by a status of its own, and
  -- changes nothing.
  abbrev pub not_taken_law : Type 0
  not_taken_law = (node : LedgerRouter M) (ledger : LedgerState) (request : Request) (command : Command)
      (number ticket : ℕ) →
      node.ledger ≡ Some ledger → command_given request ≡ Some command → command.life ≡ ledger.life →
      IsPending ledger command.originator number ticket → number < command.number →
      turn_at after answer standing node request
      ≡ turn_of node.ledger node.router (reply_to services.DO_ONCE (refusal statuses.CommandPending))

  -- Until a reply is given to its ticket or it is withdrawn, a pending command keeps its slot, whatever is asked: no other command of its
  -- originator is executed, and no Forget frees the slot.
  abbrev pub keeps_slot_law : Type 0
  keeps_slot_law = (node : LedgerRouter M) (steps : List (Step M)) (originator ticket : ℕ) (slot : SlotState) →
      slot_in originator node.ledger ≡ Some slot → slot.reply ≡ None → slot.ticket ≡ Some ticket →
      result_in ticket steps ≡ None → IsNotWithdrawn originator slot.number steps →
      slot_in originator (node_after_steps after answer standing node steps).ledger ≡ Some slot
