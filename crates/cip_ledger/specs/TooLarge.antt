-- A reply "reply data too large" goes with an unchanged ledger and router.
use Rattle.std.specs.Prelude.{◌≡◌, ℕ, ◌≤◌, Option, List, refl}
use Rattle.std.proofs.Common.{arith, ap}
use Rattle.cip_message.specs.Router.{general_status, REPLY_TOO_LARGE}
use Rattle.cip_ledger.specs.Ledger.{LedgerState}
use Rattle.cip_ledger.specs.declared.target.Standing.{Standing}
use Rattle.cip_ledger.specs.Services.{Replies, Executes, Queues, Frees}
use Rattle.cip_ledger.specs.Turn.{Fate, Passed, Served, fate, turn, turn_by}

module _ {M K : Type 0} (after : M → ℕ → List ℕ → M) (answer : M → ℕ → List ℕ → List ℕ)
    (standing : M → List ℕ → Standing)
    (router_law : (router : M) (max_size : ℕ) (request : List ℕ) →
    8 ≤ max_size → general_status (answer router max_size request) ≡ REPLY_TOO_LARGE →
    after router max_size request ≡ router)
    (make : Option LedgerState → M → K) where
  too_large-by : (f : Fate) (ledger : Option LedgerState) (router : M) (max_size : ℕ) (text : List ℕ) → 8 ≤ max_size →
      general_status (turn_by after answer f ledger router max_size text).answer ≡ REPLY_TOO_LARGE →
      make (turn_by after answer f ledger router max_size text).ledger
      (turn_by after answer f ledger router max_size text).router
      ≡ make ledger router
  too_large-by Passed ledger router max_size text max_size_from status =
      ap (make ledger) (router_law router max_size text max_size_from status)
  too_large-by (Served service (Replies reply)) ledger router max_size text max_size_from status = refl
  too_large-by (Served service (Executes command)) ledger router max_size text max_size_from status =
      absurd (omega (arith, status))
  too_large-by (Served service (Queues command ticket)) ledger router max_size text max_size_from status =
      absurd (omega (arith, status))
  too_large-by (Served service (Frees originator)) ledger router max_size text max_size_from status =
      absurd (omega (arith, status))

  -- whatever is made of the two
  pub turn-too_large : (ledger : Option LedgerState) (router : M) (max_size : ℕ) (text : List ℕ) → 8 ≤ max_size →
      general_status (turn after answer standing ledger router max_size text).answer ≡ REPLY_TOO_LARGE →
      make (turn after answer standing ledger router max_size text).ledger
      (turn after answer standing ledger router max_size text).router
      ≡ make ledger router
  turn-too_large ledger router max_size text =
      too_large-by (fate standing ledger router max_size text) ledger router max_size text
