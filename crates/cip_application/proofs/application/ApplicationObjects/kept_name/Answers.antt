use Rattle.std.proofs.Common.{◌∙◌, arith}
use Rattle.cip_application.proofs.Names.{name_here, name_later}
use Rattle.cip_application.proofs.application.ApplicationObjects.kept_name.Goals as goal

pub returns-then-left-count : goal.returns-then-left-count
returns-then-left-count c =
    name_here c.deref-object-items.result.now c.args.self.now c.loop-object.object-index c.loop-object.left c.args.index c.object-item.result
    c.loop-object-test.true c.object-item.is c.loop-object.invariant c.kept_count-count.result c.kept_count-count.ensures
    c.kept_name.result (c.deref-object-items.ensures.value ∙ c.self.view_is) (omega (arith, c.if-left-count.true)) c.kept_name.ensures

pub loop-object-preserved : goal.loop-object-preserved
loop-object-preserved c =
    name_later c.deref-object-items.result.now c.args.self.now c.loop-object.object-index c.loop-object.left c.args.index c.object-item.result
    c.loop-object-test.true c.object-item.is c.loop-object.invariant c.kept_count-count.result c.kept_count-count.ensures
    (omega (arith, c.if-left-count.false))
