-- What holds of an adapter that starts from the state of another run.
use Rattle.std.specs.Prelude.{◌≡◌, ◌↔◌, ℕ, true, List, Option, Some, Ok, option_map}
use Rattle.cip_ledger.specs.declared.doubt.DoubtfulCommand.{DoubtfulCommand}
use Rattle.cip_ledger.specs.Doubt.{is_in_doubt}
use Rattle.cip_ledger.specs.Executing.{doubted_by}
use Rattle.cip_ledger.specs.Ledger.{LedgerState}
use Rattle.enip_adapter.specs.Calls.{AdapterState}
use Rattle.enip_adapter.specs.Device.{with_ledger}
use Rattle.enip_adapter.specs.Executing.{executing}
use Rattle.kept_adapter.specs.Saved.{saved_adapter}
use Rattle.saved_state.specs.Reading.{state_of}
use Rattle.saved_state.specs.States.{Entry, State, IsState, spelled}
use Rattle.saved_adapter.specs.Entries.{are_same, entries_in_doubt, kept_in}

abbrev pub same_law : Type 0
same_law = (es fs : List Entry) → (are_same es fs ≡ true) ↔ (es ≡ fs)

abbrev pub state_with : ℕ → Option DoubtfulCommand → AdapterState → State
state_with generation doubt a = record { generation = generation; entries = entries_in_doubt doubt a }

-- The adapter with this command in doubt.
abbrev pub with_doubt : Option DoubtfulCommand → AdapterState → AdapterState
with_doubt doubt a = with_ledger a (option_map (doubted_by doubt) a.state.shared.objects.ledger)

-- What is read is what was saved, and it is what is kept of the adapter.
pub record IsReadAgain (generation : ℕ) (doubt : Option DoubtfulCommand) (a : AdapterState) : Type 0 where
  pub read : state_of (spelled (state_with generation doubt a)) ≡ Ok (state_with generation doubt a)
  pub kept : kept_in (entries_in_doubt doubt a) ≡ saved_adapter (with_doubt doubt a)

abbrev pub start_law : Type 0
start_law =
    (generation : ℕ) (doubt : Option DoubtfulCommand) (a : AdapterState) → IsState (state_with generation doubt a)
    → IsReadAgain generation doubt a

-- The command that a piece would execute is in doubt in the ledger of what is saved with it.
abbrev pub doubt_law : Type 0
doubt_law =
    (a : AdapterState) (ledger : LedgerState) (peer : ℕ) (piece : List ℕ) (command : DoubtfulCommand)
    → a.state.shared.objects.ledger ≡ Some ledger → executing a peer piece ≡ Some command
    → is_in_doubt (doubted_by (Some command) ledger) command.originator command.number ≡ true
