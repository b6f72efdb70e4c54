use Rattle.saved_state.proofs.SpelledLemmas.{read_again_lem}
use Rattle.saved_state.proofs.laws.state_read_again.Goals as goal

pub returns : goal.returns
returns c = read_again_lem
