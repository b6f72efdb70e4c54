use Rattle.std.proofs.Common.{map, length}
use Rattle.cip_values.specs.Values.{value_in, BeginsWithAll}
use Rattle.cip_values.proofs.values.read_list.Given as goal

abbrev pub invariant-loop-rest : goal.invariant-loop-rest
invariant-loop-rest l = BeginsWithAll l.form l.bytes (map value_in l.values.items) l.rest

abbrev pub decreases-loop-rest : goal.decreases-loop-rest
decreases-loop-rest l = length l.rest
