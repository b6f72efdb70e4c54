use Rattle.std.proofs.Common.{length, sym, ap, ◌∙◌}
use Rattle.std.proofs.lemmas.List.{length-map}
use Rattle.std.specs.Box.{boxed_slice_items}
use Rattle.cip_objects.specs.Counter.{counter_values}
use Rattle.cip_application.specs.Objects.{object_in}
use Rattle.cip_objects.specs.Entries.{attribute_shape_of}
use Rattle.cip_objects.proofs.ObjectLemmas.{found_index, shape_here}
use Rattle.cip_objects.proofs.objects.Objects.attribute_count.Goals as goal

pub attribute_count-requires : goal.attribute_count-requires
attribute_count-requires c =
    let o = c.self.inside in
    (found_index o.identity (boxed_slice_items o.assemblies) (counter_values o.counter) o.application c.args.self.now
    c.args.object_index c.self.view_is c.self.invariant.free c.requires).within

pub returns : goal.returns
returns c =
    let o = c.self.inside in
    c.attribute_count.ensures
    ∙ sym (ap (λ s. length s.attributes) (shape_here o.identity (boxed_slice_items o.assemblies) (counter_values o.counter) o.application c.args.self.now
    c.args.object_index c.self.view_is)
    ∙ length-map (object_in o.application c.args.object_index).attributes attribute_shape_of)
