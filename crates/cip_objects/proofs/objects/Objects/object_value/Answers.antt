use Rattle.std.proofs.Common.{sym, ◌∙◌}
use Rattle.std.specs.Box.{boxed_slice_items}
use Rattle.cip_objects.specs.Counter.{counter_values}
use Rattle.cip_objects.proofs.ObjectLemmas.{found_index, object_read}
use Rattle.cip_objects.proofs.objects.Objects.object_value.Goals as goal

pub attribute-requires : goal.attribute-requires
attribute-requires c =
    let o = c.self.inside in
    (found_index o.identity (boxed_slice_items o.assemblies) (counter_values o.counter) o.application c.args.self.now
    c.args.object_index c.self.view_is c.self.invariant.free c.requires).within

pub returns-in-Some-clause-value : goal.returns-in-Some-clause-value
returns-in-Some-clause-value c =
    let o = c.self.inside in
    c.in-Some.ensures.value
    ∙ sym (object_read o.identity (boxed_slice_items o.assemblies) (counter_values o.counter) o.application
    c.args.self.now c.args.object_index c.args.attribute c.self.view_is c.self.invariant.numbered c.self.invariant.free
    c.requires)

pub returns-in-None-clause-value : goal.returns-in-None-clause-value
returns-in-None-clause-value c =
    let o = c.self.inside in
    c.in-None.ensures.value
    ∙ sym (object_read o.identity (boxed_slice_items o.assemblies) (counter_values o.counter) o.application
    c.args.self.now c.args.object_index c.args.attribute c.self.view_is c.self.invariant.numbered c.self.invariant.free
    c.requires)
