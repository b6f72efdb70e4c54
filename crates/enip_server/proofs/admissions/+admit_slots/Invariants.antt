use Rattle.std.proofs.Common.{length}
use Rattle.enip_server.proofs.admissions.+admit_slots.Given as goal

abbrev pub decreases-admit_slots : goal.decreases-admit_slots
decreases-admit_slots g l = length l.slots.now
