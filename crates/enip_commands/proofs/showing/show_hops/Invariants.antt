use Rattle.std.proofs.Common.{length}
use Rattle.enip_commands.proofs.showing.show_hops.Given as goal

abbrev pub decreases-loop-rest : goal.decreases-loop-rest
decreases-loop-rest g l = length l.rest
