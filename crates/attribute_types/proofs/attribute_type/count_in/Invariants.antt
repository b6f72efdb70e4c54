use Rattle.std.proofs.Common.{◌≡◌, drop}
use Rattle.attribute_types.specs.Types.{count_from}
use Rattle.attribute_types.proofs.attribute_type.count_in.Given as goal

abbrev pub invariant-loop-index : goal.invariant-loop-index
invariant-loop-index l = count_from l.count (drop l.index l.text) ≡ count_from 0 l.text
