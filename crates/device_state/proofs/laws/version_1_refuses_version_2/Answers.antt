use Rattle.device_state.proofs.StateLemmas.{version_2_refused}
use Rattle.device_state.proofs.laws.version_1_refuses_version_2.Goals as goal

pub returns : goal.returns
returns c = version_2_refused
