use Rattle.std.proofs.Common.{eqb, length, not, sym, ap, ◌∙◌}
use Rattle.std.proofs.lemmas.List.{length-map}
use Rattle.std.specs.Box.{boxed_slice_items}
use Rattle.cip_objects.specs.Counter.{counter_values}
use Rattle.cip_objects.specs.Entries.{object_shape_of}
use Rattle.cip_objects.proofs.Shapes.{shapes-contents}
use Rattle.cip_objects.proofs.objects.Objects.has_application_objects.Goals as goal

pub returns : goal.returns
returns c =
    let o = c.self.inside in
    ap (λ n. not (eqb n 0))
    (c.count.ensures ∙ sym (length-map o.application object_shape_of)
    ∙ sym (ap (λ s. length s.objects) (shapes-contents o.identity (boxed_slice_items o.assemblies) (counter_values o.counter) o.application
    c.args.self.now c.self.view_is)))
