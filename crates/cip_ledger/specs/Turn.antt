-- What becomes of a request at a ledger, over any router behind it.
use Rattle.std.specs.Prelude.{◌≡◌, ℕ, Option, Some, None, option_map, List, [], ◌∷◌, slice_index, if◌then◌else◌}
use Rattle.cip_ledger.specs.declared.status.Status.TheVariants as statuses
use Rattle.cip_ledger.specs.declared.target.Standing.{Standing}
use Rattle.cip_ledger.specs.Ledger.{SlotState, LedgerState, with_slot, without_slot}
use Rattle.cip_ledger.specs.Requests.{LedgerRequest, ledger_request, is_barred}
use Rattle.cip_message.specs.LedgerCommand.{Command}
use Rattle.cip_ledger.specs.Services.{Action, Replies, Executes, Queues, Frees, action_of, refusal, success, reply_to}
use Rattle.cip_ledger.specs.Services.{KEPT_LIMIT, DONE, PENDING}
use Rattle.cip_ledger.specs.Standings.{at_router}

-- A request goes to the router as it is, or is one of this service for the ledger, which does so with it.
pub data Fate : Type 0 where
  Passed : Fate
  Served : (service : ℕ) (action : Action) → Fate

module _ {M : Type 0} (standing : M → List ℕ → Standing) where
  abbrev pub fate_of : LedgerState → M → ℕ → Option LedgerRequest → Fate
  fate_of ledger router max_size None = Passed
  fate_of ledger router max_size (Some request) =
      Served request.service (at_router standing router (action_of ledger max_size request))

  -- The fate of a request depends on the ledger, and on what the router makes of a command. Without a ledger every
  -- request goes to the router.
  abbrev pub fate : Option LedgerState → M → ℕ → List ℕ → Fate
  fate None router max_size text = Passed
  fate (Some ledger) router max_size text = fate_of ledger router max_size (ledger_request text)

-- the ledger once this is its originator's slot
abbrev pub with_taken : SlotState → LedgerState → LedgerState
with_taken slot ledger = record ledger { taken = with_slot slot ledger.taken }

-- the slot of a command that was executed with this reply, and of one that the router has queued under this ticket
abbrev pub slot_done : Command → List ℕ → SlotState
slot_done command reply =
    record { originator = command.originator; number = command.number; reply = Some reply; ticket = None }

abbrev pub slot_queued : Command → ℕ → SlotState
slot_queued command ticket =
    record { originator = command.originator; number = command.number; reply = None; ticket = Some ticket }

-- the ledger once a command was executed with this reply
abbrev pub with_executed : Command → List ℕ → LedgerState → LedgerState
with_executed command reply = with_taken (slot_done command reply)

-- the ledger once the router has queued a command under this ticket
abbrev pub with_queued : Command → ℕ → LedgerState → LedgerState
with_queued command ticket = with_taken (slot_queued command ticket)

-- the ledger once an originator's slot is free
abbrev pub with_freed : ℕ → LedgerState → LedgerState
with_freed originator ledger = record ledger { taken = without_slot originator ledger.taken }

-- the ledger, if there is one, and the router after a request, and its reply
pub record Turn (M : Type 0) : Type 0 where
  pub ledger : Option LedgerState
  pub router : M
  pub answer : List ℕ

abbrev pub turn_of : {M : Type 0} → Option LedgerState → M → List ℕ → Turn M
turn_of ledger router answer = record { ledger = ledger; router = router; answer = answer }

-- the ledger and the reply after an action that no router takes part in
abbrev pub ActsAlone : LedgerState → Action → ℕ → LedgerState → List ℕ → Type 0
ActsAlone old (Replies reply) service new text = (new ≡ old) × (text ≡ reply_to service reply)
ActsAlone old (Executes command) service new text = ⊥
ActsAlone old (Queues command ticket) service new text = ⊥
ActsAlone old (Frees originator) service new text =
    (new ≡ with_freed originator old) × (text ≡ reply_to service (success []))

module _ {M : Type 0} (after : M → ℕ → List ℕ → M) (answer : M → ℕ → List ℕ → List ℕ) where
  -- the router after an embedded request, and its reply: one that is barred does not reach the router
  abbrev pub after_embedded : M → List ℕ → M
  after_embedded router request = if is_barred request then router else after router KEPT_LIMIT request

  abbrev pub embedded_reply : M → List ℕ → List ℕ
  embedded_reply router request =
      if is_barred request then reply_to (slice_index request 0) (refusal statuses.ServiceNotSupported)
      else answer router KEPT_LIMIT request

  -- The turn by what the ledger does. A command is executed, and then kept: with its reply, or with its ticket if the
  -- router has queued it.
  abbrev pub acted : Action → ℕ → Option LedgerState → M → Turn M
  acted (Replies reply) service ledger router = turn_of ledger router (reply_to service reply)
  acted (Executes command) service ledger router =
      let reply = embedded_reply router command.request in
      turn_of (option_map (with_executed command reply) ledger) (after_embedded router command.request)
      (reply_to service (success (DONE ∷ reply)))
  acted (Queues command ticket) service ledger router =
      turn_of (option_map (with_queued command ticket) ledger) (after_embedded router command.request)
      (reply_to service (success (PENDING ∷ [])))
  acted (Frees originator) service ledger router =
      turn_of (option_map (with_freed originator) ledger) router (reply_to service (success []))

  abbrev pub turn_by : Fate → Option LedgerState → M → ℕ → List ℕ → Turn M
  turn_by Passed ledger router max_size text =
      turn_of ledger (after router max_size text) (answer router max_size text)
  turn_by (Served service action) ledger router max_size text = acted action service ledger router

  abbrev pub turn : (M → List ℕ → Standing) → Option LedgerState → M → ℕ → List ℕ → Turn M
  turn standing ledger router max_size text =
      turn_by (fate standing ledger router max_size text) ledger router max_size text
