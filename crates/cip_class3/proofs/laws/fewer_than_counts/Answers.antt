use Rattle.cip_class3.proofs.Counts.{events_of-fewer}
use Rattle.cip_class3.proofs.laws.fewer_than_counts.Goals as goal

pub returns : goal.returns
returns c = events_of-fewer
