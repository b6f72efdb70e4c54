use Rattle.std.proofs.Common.{take, map}
use Rattle.cip_values.specs.Values.{value_in}
use Rattle.enip_owner.proofs.ShownLemmas.{AreListed}
use Rattle.enip_owner.proofs.shown_values.write_list.Given as goal

abbrev pub invariant-loop-value : goal.invariant-loop-value
invariant-loop-value l = AreListed l.fn.writer l.writer (map value_in (take l.value-index l.values))
