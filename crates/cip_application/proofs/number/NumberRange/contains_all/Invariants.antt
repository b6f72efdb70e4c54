use Rattle.std.proofs.Common.{◌≡◌, length}
use Rattle.cip_application.specs.Numbers.{are_within}
use Rattle.cip_application.proofs.number.NumberRange.contains_all.Given as goal

abbrev pub invariant-loop-rest : goal.invariant-loop-rest
invariant-loop-rest l = are_within l.self l.rest ≡ are_within l.self l.bytes

abbrev pub decreases-loop-rest : goal.decreases-loop-rest
decreases-loop-rest l = length l.rest
