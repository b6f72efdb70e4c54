use Rattle.std.proofs.Common.{sym, ap, ◌∙◌, subst}
use Rattle.std.specs.Box.{boxed_slice_items}
use Rattle.cip_objects.specs.Contents.{value_at}
use Rattle.cip_objects.specs.Counter.{counter_values}
use Rattle.cip_objects.specs.ObjectRef.{ClassExists, HasCounter, class_number}
use Rattle.cip_objects.proofs.ObjectLemmas.{counter_class_value}
use Rattle.cip_objects.proofs.objects.Objects.class_value.Goals as goal

pub returns-in-Counter-clause-value : goal.returns-in-Counter-clause-value
returns-in-Counter-clause-value c =
    let o = c.self.inside in
    let m = c.args.self.now in
    let there : HasCounter m.shapes = subst (ClassExists m.shapes) c.in-Counter.is c.requires in
    c.class_attribute-in-Counter.ensures.value
    ∙ sym (counter_class_value o.identity (boxed_slice_items o.assemblies) (counter_values o.counter) o.application m
    c.args.attribute c.self.view_is c.self.invariant.numbered c.self.invariant.free there)
    ∙ ap (λ k. value_at m (class_number k) 0 c.args.attribute) (sym c.in-Counter.is)
