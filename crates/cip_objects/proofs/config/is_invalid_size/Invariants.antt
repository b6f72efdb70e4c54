use Rattle.std.proofs.Common.{◌≡◌, ◌≤◌, ◌+◌, sum, drop}
use Rattle.cip_objects.specs.Limits.{LONGEST_DATA}
use Rattle.cip_objects.proofs.config.is_invalid_size.Given as goal

abbrev pub invariant-loop-size : goal.invariant-loop-size
invariant-loop-size l = (l.all + sum (drop l.size-index l.members) ≡ sum l.members) × (l.all ≤ LONGEST_DATA)
