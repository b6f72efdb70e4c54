use Rattle.device_state.proofs.StateLemmas.{others}
use Rattle.device_state.proofs.laws.others_stay.Goals as goal

pub returns : goal.returns
returns c = others
