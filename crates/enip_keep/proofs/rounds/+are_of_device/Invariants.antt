use Rattle.std.proofs.Common.{length}
use Rattle.enip_keep.proofs.rounds.+are_of_device.Given as goal

abbrev pub decreases-are_of_device : goal.decreases-are_of_device
decreases-are_of_device l = length l.entries.now
