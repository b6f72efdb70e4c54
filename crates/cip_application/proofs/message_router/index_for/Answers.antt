use Rattle.std.proofs.Common.{arith}
use Rattle.cip_application.proofs.Lookup.{same_get}
use Rattle.cip_application.proofs.ObjectList.{placed_before, placed_last, there_already}
use Rattle.cip_application.proofs.message_router.index_for.Goals as goal

pub returns-then-class-other-clause-placed : goal.returns-then-class-other-clause-placed
returns-then-class-other-clause-placed c =
    placed_before c.args.classes.now c.args.class c.loop-i.i c.loop-i-test.true (λ d. let same = same_get c.args.classes.now c.loop-i.i d 0 c.loop-i-test.true in omega (arith, same, c.if-class-other.true)) c.loop-i.invariant

pub returns-then-other-class-clause-placed : goal.returns-then-other-class-clause-placed
returns-then-other-class-clause-placed c =
    there_already c.args.classes.now c.args.class c.loop-i.i c.loop-i-test.true (λ d. let same = same_get c.args.classes.now c.loop-i.i d 0 c.loop-i-test.true in omega (arith, same, c.if-other-class.true)) c.loop-i.invariant

pub returns-clause-placed : goal.returns-clause-placed
returns-clause-placed c =
    placed_last c.args.classes.now c.args.class (λ k d h. c.loop-i.invariant k d (omega (arith, h)))
