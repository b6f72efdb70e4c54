-- What holds of withdrawn commands.
use Rattle.std.specs.Prelude.{◌≡◌, ◌⊎◌, ℕ, ◌+◌, ◌≤◌, true, false, Option, Some, List, [], ◌∷◌}
use Rattle.cip_ledger.specs.declared.router.LedgerRouter.{LedgerRouter}
use Rattle.cip_message.specs.declared.ledger_services.TheConstants as services
use Rattle.cip_ledger.specs.declared.target.Standing.{Standing}
use Rattle.cip_ledger.specs.Device.{Device, exec_device}
use Rattle.cip_ledger.specs.DoubtLaws.{IsGiven}
use Rattle.cip_ledger.specs.Ledger.{LedgerState, SlotState, slot_of, is_withdrawn}
use Rattle.cip_message.specs.LedgerCommand.{Command}
use Rattle.cip_ledger.specs.Runs.{Request, turn_at}
use Rattle.cip_ledger.specs.Services.{reply_to, success, WITHDRAWN, HEAD_SIZE}
use Rattle.cip_ledger.specs.Turn.{turn_of}
use Rattle.cip_ledger.specs.Withdrawing.{can_withdraw, withdrawn, withdrawn_by}

-- the originator's last command has this number, and was withdrawn
pub record IsWithdrawn (ledger : LedgerState) (originator number : ℕ) : Type 0 where
  pub slot : SlotState
  pub found : slot_of originator ledger.taken ≡ Some slot
  pub number_is : slot.number ≡ number
  pub withdrawn : is_withdrawn slot ≡ true

-- a command is withdrawn once
abbrev pub withdrawn_once_law : Type 0
withdrawn_once_law = (ledger : LedgerState) (originator number : ℕ) → can_withdraw ledger originator number ≡ true →
    can_withdraw (withdrawn originator number ledger) originator number ≡ false

-- Withdraw that withdraws a command answers so, and Forget that does so frees the slot.
abbrev pub withdraw_answer_law : Type 0
withdraw_answer_law = (device found : Device) (max_size : ℕ) (text : List ℕ) →
    withdrawn_by text device ≡ Some found → 8 ≤ max_size →
    ((exec_device found max_size text).answer ≡ reply_to services.WITHDRAW (success (WITHDRAWN ∷ [])))
    ⊎ ((exec_device found max_size text).answer ≡ reply_to services.FORGET (success []))

module _ {M : Type 0} (after : M → ℕ → List ℕ → M) (answer : M → ℕ → List ℕ → List ℕ)
    (standing : M → List ℕ → Standing) where
  -- A command that was withdrawn is answered by its state, and changes nothing: it is not executed.
  abbrev pub withdrawn_law : Type 0
  withdrawn_law = (node : LedgerRouter M) (ledger : LedgerState) (request : Request) (command : Command) →
      node.ledger ≡ Some ledger → IsGiven ledger request command (HEAD_SIZE + 1) →
      IsWithdrawn ledger command.originator command.number →
      turn_at after answer standing node request
      ≡ turn_of node.ledger node.router (reply_to services.DO_ONCE (success (WITHDRAWN ∷ [])))
