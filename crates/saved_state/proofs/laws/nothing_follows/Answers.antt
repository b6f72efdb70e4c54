use Rattle.saved_state.proofs.LawLemmas.{follows_lem}
use Rattle.saved_state.proofs.laws.nothing_follows.Goals as goal

pub returns : goal.returns
returns c = follows_lem
