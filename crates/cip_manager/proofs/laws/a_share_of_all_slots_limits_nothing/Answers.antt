use Rattle.cip_manager.proofs.ShareLemmas.{all-slots}
use Rattle.cip_manager.proofs.laws.a_share_of_all_slots_limits_nothing.Goals as goal

pub returns : goal.returns
returns c = all-slots
