use Rattle.std.proofs.Common.{length}
use Rattle.owner_port.proofs.sending.+report_sets.Given as goal

abbrev pub decreases-report_sets : goal.decreases-report_sets
decreases-report_sets l = length l.counts.now
