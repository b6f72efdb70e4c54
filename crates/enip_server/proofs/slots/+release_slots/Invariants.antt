use Rattle.std.proofs.Common.{length}
use Rattle.enip_server.proofs.slots.+release_slots.Given as goal

abbrev pub decreases-release_slots : goal.decreases-release_slots
decreases-release_slots g l = length l.slots.now
