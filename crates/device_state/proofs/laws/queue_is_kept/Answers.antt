use Rattle.device_state.proofs.QueueBack.{all_back}
use Rattle.device_state.proofs.laws.queue_is_kept.Goals as goal

pub returns : goal.returns
returns c = all_back
