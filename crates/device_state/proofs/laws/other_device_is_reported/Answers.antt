use Rattle.device_state.proofs.StateLemmas.{other_device}
use Rattle.device_state.proofs.laws.other_device_is_reported.Goals as goal

pub returns : goal.returns
returns c = other_device
