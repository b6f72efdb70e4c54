-- A retry on one TCP connection that survives is enough.
use Rattle.std.specs.Prelude.{◌≡◌, ◌≢◌, ◌⊎◌, ℕ, ◌<◌, ◌≤◌, Some, None, List, [], ◌∷◌, ◌++◌, length}
use Rattle.cip_commander.specs.CommanderRule.{IsInRange, abandoned}
use Rattle.cip_commander.specs.declared.refusal.TheConstants.{LONGEST_EMBEDDED}
use Rattle.cip_ledger.specs.Ledger.{LedgerState, slot_of}
use Rattle.enip_adapter.specs.Calls.{call_answer}
use Rattle.enip_adapter.specs.Turn.Output.{Begins}
use Rattle.enip_client.specs.declared.wants.Wants.{Wants}
use Rattle.enip_reconnect.specs.Events.{Event, Connect, Register, Send, Arrive, Receive, Break}
use Rattle.enip_reconnect.specs.Laws.{AreOfOthers}
use Rattle.enip_reconnect.specs.World.{Ends, Opening, begins_peer, ends_at, ends_run, ends_after}

-- More bytes than are ever in flight on one TCP connection.
abbrev pub ALL_BYTES : ℕ
ALL_BYTES = 65535

-- The originator connects anew, registers a session and sends the pending command's message. All of it arrives, and so
-- do the answers.
abbrev pub retry : Wants → ℕ → ℕ → List Event
retry wants now peer =
    Break ∷ Connect wants ∷ Register ∷ Arrive now peer ALL_BYTES ∷ Receive ALL_BYTES
    ∷ Send ∷ Arrive now peer ALL_BYTES ∷ Receive ALL_BYTES ∷ []

-- The ledger has a slot for the originator: its own, or a free one.
abbrev pub HasSlotFor : ℕ → LedgerState → Type 0
HasSlotFor originator ledger = (slot_of originator ledger.taken ≢ None) ⊎ (length ledger.taken < ledger.slots)

-- The pending command is done: its reply is accepted.
pub record IsAccepted (before after : Ends) : Type 0 where
  pub reply : List ℕ
  pub accepted : after.accepted ≡ before.accepted ++ (before.commander.last_number, reply) ∷ []
  pub commander : after.commander ≡ abandoned before.commander

-- Whatever happened before, a retry gets through, if the adapter accepts the TCP connection, the commander has the
-- device's life, and the ledger has a slot for the originator.
abbrev pub retry_law : Type 0
retry_law = (opening : Opening) (events : List Event) (wants : Wants) (now peer : ℕ) (request : List ℕ)
    (ledger : LedgerState) →
    IsInRange opening.commander → AreOfOthers opening.commander.originator (ends_at opening) events →
    let ends = ends_after opening events in
    ends.commander.pending ≡ Some request → length request ≤ LONGEST_EMBEDDED →
    (call_answer ends.adapter begins_peer).output ≡ Begins peer →
    ends.adapter.state.shared.objects.ledger ≡ Some ledger → opening.commander.life ≡ ledger.life →
    HasSlotFor opening.commander.originator ledger →
    IsAccepted ends (ends_run ends (retry wants now peer))
