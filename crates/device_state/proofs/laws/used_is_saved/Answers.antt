use Rattle.device_state.proofs.StateLemmas.{used_again}
use Rattle.device_state.proofs.laws.used_is_saved.Goals as goal

pub returns : goal.returns
returns c = used_again
