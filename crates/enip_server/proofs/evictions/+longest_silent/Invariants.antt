use Rattle.std.proofs.Common.{length}
use Rattle.enip_server.proofs.evictions.+longest_silent.Given as goal

abbrev pub decreases-longest_silent : goal.decreases-longest_silent
decreases-longest_silent g l = length l.slots.now
