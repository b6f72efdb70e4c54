use Rattle.std.proofs.Common.{arith}
use Rattle.std.specs.Box.{boxed_slice_items}
use Rattle.cip_objects.specs.Counter.{counter_values}
use Rattle.cip_objects.proofs.KeptNames.{without_counter, counter_number, behind_counter}
use Rattle.cip_objects.proofs.objects.Objects.name_behind_assemblies.Goals as goal

pub returns-then-not-self : goal.returns-then-not-self
returns-then-not-self c =
    let o = c.self.inside in
    without_counter o.identity (boxed_slice_items o.assemblies) (counter_values o.counter) o.application c.args.self.now c.self.view_is
    c.args.index c.kept_name.result c.if-not-self.true c.kept_name.ensures

pub returns-then-index-ge3 : goal.returns-then-index-ge3
returns-then-index-ge3 c =
    let o = c.self.inside in
    behind_counter o.identity (boxed_slice_items o.assemblies) (counter_values o.counter) o.application c.args.self.now c.self.view_is
    c.args.index c.kept_name-then-index-ge3.result c.if-not-self.false (omega (arith, c.if-index-ge3.true)) c.kept_name-then-index-ge3.ensures

pub returns : goal.returns
returns c =
    let o = c.self.inside in
    counter_number o.identity (boxed_slice_items o.assemblies) (counter_values o.counter) o.application c.args.self.now c.self.view_is
    c.args.index c.if-not-self.false (omega (arith, c.if-index-ge3.false))
