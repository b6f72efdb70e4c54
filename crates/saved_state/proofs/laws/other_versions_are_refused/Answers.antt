use Rattle.saved_state.proofs.LawLemmas.{version_lem}
use Rattle.saved_state.proofs.laws.other_versions_are_refused.Goals as goal

pub returns : goal.returns
returns c = version_lem
