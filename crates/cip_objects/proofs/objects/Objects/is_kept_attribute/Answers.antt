use Rattle.std.proofs.Common.{◌∙◌}
use Rattle.std.specs.Box.{boxed_slice_items}
use Rattle.cip_objects.specs.Counter.{counter_values}
use Rattle.cip_objects.proofs.KeptValues.{same_kept}
use Rattle.cip_objects.proofs.objects.Objects.is_kept_attribute.Goals as goal

pub returns : goal.returns
returns c =
    let o = c.self.inside in
    c.is_kept.ensures
    ∙ same_kept o.identity (boxed_slice_items o.assemblies) (counter_values o.counter) o.application c.args.self.now
    c.args.class c.args.instance c.args.attribute c.self.view_is
