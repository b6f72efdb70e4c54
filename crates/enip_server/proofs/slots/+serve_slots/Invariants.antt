use Rattle.std.proofs.Common.{length}
use Rattle.enip_server.proofs.slots.+serve_slots.Given as goal

abbrev pub decreases-serve_slots : goal.decreases-serve_slots
decreases-serve_slots g l = length l.places.now
