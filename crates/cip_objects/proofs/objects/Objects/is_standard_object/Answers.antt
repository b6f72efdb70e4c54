use Rattle.std.proofs.Common.{sym, ap, ◌∙◌}
use Rattle.std.specs.Box.{boxed_slice_items}
use Rattle.cip_application.specs.Configuration.{is_standard_class}
use Rattle.cip_objects.specs.Counter.{counter_values}
use Rattle.cip_objects.proofs.ObjectLemmas.{found_index, shape_here}
use Rattle.cip_objects.proofs.objects.Objects.is_standard_object.Goals as goal

pub class_at-requires : goal.class_at-requires
class_at-requires c =
    let o = c.self.inside in
    (found_index o.identity (boxed_slice_items o.assemblies) (counter_values o.counter) o.application c.args.self.now
    c.args.object_index c.self.view_is c.self.invariant.free c.requires).within

pub returns : goal.returns
returns c =
    let o = c.self.inside in
    c.is_standard_class.ensures ∙ ap is_standard_class c.class_at.ensures
    ∙ sym (ap (λ s. is_standard_class s.class) (shape_here o.identity (boxed_slice_items o.assemblies) (counter_values o.counter) o.application c.args.self.now
    c.args.object_index c.self.view_is))
