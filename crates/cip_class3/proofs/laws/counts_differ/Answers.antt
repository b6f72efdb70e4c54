use Rattle.cip_class3.proofs.Counts.{counts_taken-differ}
use Rattle.cip_class3.proofs.laws.counts_differ.Goals as goal

pub returns : goal.returns
returns c = counts_taken-differ
