use Rattle.kept_adapter.proofs.StepLemmas.{left_if}
use Rattle.kept_adapter.proofs.lives.live_adapter.Goals as goal

pub returns : goal.returns
returns g c = λ serving tables known. left_if _ _ _ _ _ serving tables (c.live_peers.ensures known)
