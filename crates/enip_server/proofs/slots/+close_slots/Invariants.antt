use Rattle.std.proofs.Common.{length}
use Rattle.enip_server.proofs.slots.+close_slots.Given as goal

abbrev pub decreases-close_slots : goal.decreases-close_slots
decreases-close_slots g l = length l.slots.now
