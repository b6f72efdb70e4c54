use Rattle.std.proofs.Common.{length}
use Rattle.cip_values.specs.Texts.{Unescapes}
use Rattle.cip_values.proofs.text.unescaped.Given as goal

abbrev pub decreases-loop-rest : goal.decreases-loop-rest
decreases-loop-rest l = length l.rest

abbrev pub invariant-loop-rest : goal.invariant-loop-rest
invariant-loop-rest l = Unescapes l.fn.form l.fn.text l.bytes.items l.rest
