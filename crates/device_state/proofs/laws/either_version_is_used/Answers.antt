use Rattle.device_state.proofs.StateLemmas.{version_used}
use Rattle.device_state.proofs.laws.either_version_is_used.Goals as goal

pub returns : goal.returns
returns c = version_used
