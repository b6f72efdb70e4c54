use Rattle.std.proofs.Common.{length}
use Rattle.owner_port.proofs.set_count.+append_counts.Given as goal

abbrev pub decreases-append_counts : goal.decreases-append_counts
decreases-append_counts l = length l.attributes.now
