use Rattle.std.proofs.Common.{ap, ◌∙◌, map, subst, sym}
use Rattle.std.specs.Box.{boxed_slice_items}
use Rattle.cip_objects.specs.Counter.{counter_values}
use Rattle.cip_objects.specs.Entries.{AreApart, contents_of, object_shape_of}
use Rattle.cip_objects.proofs.ObjectLemmas.{device_restores}
use Rattle.cip_objects.proofs.objects.Objects.put_back.Goals as goal

pub invariant_of-self : goal.invariant_of-self
invariant_of-self c =
    let o = c.self.inside in
    let w = device_restores o.identity (boxed_slice_items o.assemblies) (counter_values o.counter) o.application c.args.self.now
    c.args.class c.args.instance c.args.attribute c.args.bytes.now c.self.view_is
    c.self.invariant.numbered c.self.invariant.free in
    let old = c.self.invariant in
    record {
      few = old.few;
      numbered = old.numbered;
      free = subst (λ os. AreApart o.counter.enabled (map object_shape_of os)) (sym c.restore.ensures.restored) w.free;
      value = old.value;
      limit = old.limit;
      additions = old.additions;
    }

pub returns-clause-restored : goal.returns-clause-restored
returns-clause-restored c =
    let o = c.self.inside in
    let w = device_restores o.identity (boxed_slice_items o.assemblies) (counter_values o.counter) o.application c.args.self.now
    c.args.class c.args.instance c.args.attribute c.args.bytes.now c.self.view_is
    c.self.invariant.numbered c.self.invariant.free in
    ap (contents_of o.identity (boxed_slice_items o.assemblies) (counter_values o.counter)) c.restore.ensures.restored ∙ w.contents

pub returns-clause-reported : goal.returns-clause-reported
returns-clause-reported c =
    let o = c.self.inside in
    let w = device_restores o.identity (boxed_slice_items o.assemblies) (counter_values o.counter) o.application c.args.self.now
    c.args.class c.args.instance c.args.attribute c.args.bytes.now c.self.view_is
    c.self.invariant.numbered c.self.invariant.free in
    c.restore.ensures.reported ∙ w.reported
