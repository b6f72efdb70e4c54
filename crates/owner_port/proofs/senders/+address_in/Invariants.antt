use Rattle.std.proofs.Common.{length}
use Rattle.owner_port.proofs.senders.+address_in.Given as goal

abbrev pub decreases-address_in : goal.decreases-address_in
decreases-address_in l = length l.known.now
