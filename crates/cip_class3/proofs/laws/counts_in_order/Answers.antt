use Rattle.cip_class3.proofs.Counts.{counts_taken-at}
use Rattle.cip_class3.proofs.laws.counts_in_order.Goals as goal

pub returns : goal.returns
returns c = counts_taken-at
