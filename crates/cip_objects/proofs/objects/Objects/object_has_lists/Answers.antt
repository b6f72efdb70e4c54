use Rattle.std.proofs.Common.{sym, ap, ◌∙◌}
use Rattle.std.specs.Box.{boxed_slice_items}
use Rattle.cip_objects.specs.Counter.{counter_values}
use Rattle.cip_objects.proofs.ObjectLemmas.{found_index, shape_here}
use Rattle.cip_objects.proofs.objects.Objects.object_has_lists.Goals as goal

pub has_lists-requires : goal.has_lists-requires
has_lists-requires c =
    let o = c.self.inside in
    (found_index o.identity (boxed_slice_items o.assemblies) (counter_values o.counter) o.application c.args.self.now
    c.args.object_index c.self.view_is c.self.invariant.free c.requires).within

pub returns : goal.returns
returns c =
    let o = c.self.inside in
    c.has_lists.ensures
    ∙ sym (ap (λ s. s.lists) (shape_here o.identity (boxed_slice_items o.assemblies) (counter_values o.counter) o.application c.args.self.now
    c.args.object_index c.self.view_is))
