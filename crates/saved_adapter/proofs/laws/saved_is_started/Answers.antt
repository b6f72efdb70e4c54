use Rattle.saved_adapter.proofs.SameLemmas.{given_back}
use Rattle.saved_adapter.specs.Laws.{state_with, with_doubt}
use Rattle.saved_state.proofs.SpelledLemmas.{read_again_lem}
use Rattle.kept_adapter.specs.Saved.{saved_adapter}
use Rattle.saved_adapter.proofs.laws.saved_is_started.Goals as goal

pub returns : goal.returns
returns c generation doubt a is =
    record {
      read = read_again_lem (state_with generation doubt a) is;
      kept = given_back (saved_adapter (with_doubt doubt a));
    }
