use Rattle.std.proofs.Common.{sym}
use Rattle.std.specs.Box.{boxed_slice_items}
use Rattle.cip_objects.specs.Counter.{counter_values}
use Rattle.cip_objects.proofs.OwnRequests.{stored, stored_nowhere}
use Rattle.cip_objects.proofs.objects.Objects.store_checked.Goals as goal

pub invariant_of-self : goal.invariant_of-self
invariant_of-self c =
    let o = c.self.inside in
    let s = stored o.identity (boxed_slice_items o.assemblies) (counter_values o.counter) o.application c.store_checked.new.self
    c.args.self.now c.args.class c.args.instance c.in-Some.object_index c.args.attribute c.args.data.now c.self.view_is
    c.self.invariant.numbered c.self.invariant.free (sym c.in-Some.ensures.position) c.store_checked.ensures in
    let old = c.self.invariant in
    record {
      few = old.few;
      numbered = old.numbered;
      free = s.free;
      value = old.value;
      limit = old.limit;
      additions = old.additions;
    }

pub returns-in-Some : goal.returns-in-Some
returns-in-Some c =
    let o = c.self.inside in
    (stored o.identity (boxed_slice_items o.assemblies) (counter_values o.counter) o.application c.store_checked.new.self
    c.args.self.now c.args.class c.args.instance c.in-Some.object_index c.args.attribute c.args.data.now c.self.view_is
    c.self.invariant.numbered c.self.invariant.free (sym c.in-Some.ensures.position) c.store_checked.ensures).contents

pub returns-in_default : goal.returns-in_default
returns-in_default c =
    let o = c.self.inside in
    stored_nowhere o.identity (boxed_slice_items o.assemblies) (counter_values o.counter) o.application c.args.self.now
    c.args.class c.args.instance c.args.attribute c.args.data.now c.self.view_is (sym c.in_default.ensures.position)
