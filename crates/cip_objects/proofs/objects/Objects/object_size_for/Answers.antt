use Rattle.std.proofs.Common.{sym, ap, ◌∙◌, option_map}
use Rattle.std.specs.Box.{boxed_slice_items}
use Rattle.cip_application.specs.Values.{size_for}
use Rattle.cip_objects.specs.Counter.{counter_values}
use Rattle.cip_objects.specs.Tables.{kind_in_object}
use Rattle.cip_objects.proofs.ObjectLemmas.{found_index, shape_here, size_in_shape}
use Rattle.cip_objects.proofs.objects.Objects.object_size_for.Goals as goal

pub size_for-requires : goal.size_for-requires
size_for-requires c =
    let o = c.self.inside in
    (found_index o.identity (boxed_slice_items o.assemblies) (counter_values o.counter) o.application c.args.self.now
    c.args.object_index c.self.view_is c.self.invariant.free c.requires).within

pub returns : goal.returns
returns c =
    let o = c.self.inside in
    c.size_for.ensures
    ∙ size_in_shape c.args.attribute c.args.data.now o.application c.args.object_index
    ∙ sym (ap (λ s. option_map (λ kind. size_for kind c.args.data.now) (kind_in_object c.args.attribute s))
    (shape_here o.identity (boxed_slice_items o.assemblies) (counter_values o.counter) o.application c.args.self.now
    c.args.object_index c.self.view_is))
