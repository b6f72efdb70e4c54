use Rattle.saved_state.proofs.LawLemmas.{one_state_lem}
use Rattle.saved_state.proofs.laws.one_state.Goals as goal

pub returns : goal.returns
returns c = one_state_lem
