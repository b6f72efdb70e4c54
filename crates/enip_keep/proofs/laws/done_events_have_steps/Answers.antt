use Rattle.enip_keep.proofs.LivesLemmas.{has_its_step}
use Rattle.enip_keep.proofs.laws.done_events_have_steps.Goals as goal

pub returns : goal.returns
returns g c = has_its_step g.D.Device.brings
