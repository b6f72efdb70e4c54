use Rattle.cip_objects.proofs.CounterRun.{counts as law}
use Rattle.cip_objects.proofs.laws.counter_counts.Goals as goal

pub returns : goal.returns
returns c = law
