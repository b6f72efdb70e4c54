use Rattle.std.proofs.Common.{arith}
use Rattle.cip_objects.proofs.Blocks.{none_at}
use Rattle.cip_objects.proofs.assembly.position.Goals as goal

pub returns : goal.returns
returns c = none_at c.args.assemblies.now c.args.instance (λ k d lt. c.loop-i.invariant k d (omega arith))
