use Rattle.std.proofs.Common.{◌≡◌, ◌≤◌, ◌*◌, sum, take}
use Rattle.cip_objects.proofs.assembly.total.Given as goal

abbrev pub invariant-loop-size : goal.invariant-loop-size
invariant-loop-size l = (l.all ≡ sum (take l.size-index l.members)) × (l.all ≤ 65535 * l.size-index)
