use Rattle.std.proofs.Common.{refl}
use Rattle.std.specs.Box.{boxed_slice_items}
use Rattle.cip_objects.specs.Counter.{counter_values}
use Rattle.cip_objects.proofs.Numbers.{counter_read, enabled}
use Rattle.cip_objects.proofs.objects.Objects.counter.Goals as goal

pub returns-clause-value : goal.returns-clause-value
returns-clause-value c =
    let o = c.self.inside in
    let blocks = boxed_slice_items o.assemblies in
    counter_read o.identity blocks (counter_values o.counter) o.application c.args.self.now 1 o.counter.value
    c.self.view_is c.self.invariant.numbered c.self.invariant.free (enabled o.identity blocks (counter_values o.counter) o.application c.args.self.now c.self.view_is c.requires) c.self.invariant.value refl

pub returns-clause-limit : goal.returns-clause-limit
returns-clause-limit c =
    let o = c.self.inside in
    let blocks = boxed_slice_items o.assemblies in
    counter_read o.identity blocks (counter_values o.counter) o.application c.args.self.now 2 o.counter.limit
    c.self.view_is c.self.invariant.numbered c.self.invariant.free (enabled o.identity blocks (counter_values o.counter) o.application c.args.self.now c.self.view_is c.requires) c.self.invariant.limit refl

pub returns-clause-additions : goal.returns-clause-additions
returns-clause-additions c =
    let o = c.self.inside in
    let blocks = boxed_slice_items o.assemblies in
    counter_read o.identity blocks (counter_values o.counter) o.application c.args.self.now 3 o.counter.additions
    c.self.view_is c.self.invariant.numbered c.self.invariant.free (enabled o.identity blocks (counter_values o.counter) o.application c.args.self.now c.self.view_is c.requires) c.self.invariant.additions refl
