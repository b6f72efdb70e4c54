use Rattle.std.proofs.Common.{length}
use Rattle.owner_port.proofs.sending.+send_ends.Given as goal

abbrev pub decreases-send_ends : goal.decreases-send_ends
decreases-send_ends l = length l.connections.now
