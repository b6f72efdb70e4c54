use Rattle.device_state.proofs.StateLemmas.{saved_again}
use Rattle.device_state.proofs.laws.restored_is_saved.Goals as goal

pub returns : goal.returns
returns c = saved_again
