use Rattle.std.proofs.Common.{◌≤◌, length}
use Rattle.enip_commands.proofs.showing.route_in.Given as goal

abbrev pub invariant-loop-rest : goal.invariant-loop-rest
invariant-loop-rest l = length l.rest ≤ length l.fn.path

abbrev pub decreases-loop-rest : goal.decreases-loop-rest
decreases-loop-rest l = length l.rest
