use Rattle.std.proofs.Common.{length, sym, ap, ◌∙◌, arith}
use Rattle.std.proofs.lemmas.List.{length-map}
use Rattle.std.specs.Box.{boxed_slice_items}
use Rattle.cip_objects.specs.Counter.{counter_values}
use Rattle.cip_application.specs.Objects.{object_in}
use Rattle.cip_objects.specs.Entries.{attribute_shape_of}
use Rattle.cip_objects.proofs.ObjectLemmas.{found_index, shape_here, value_by_number, no_attribute}
use Rattle.cip_objects.proofs.objects.Objects.value_by_index.Goals as goal

pub value_at-requires-clause-object : goal.value_at-requires-clause-object
value_at-requires-clause-object c =
    let o = c.self.inside in
    (found_index o.identity (boxed_slice_items o.assemblies) (counter_values o.counter) o.application c.args.self.now
    c.args.object_index c.self.view_is c.self.invariant.free c.requires.there).within

pub value_at-requires-clause-attribute : goal.value_at-requires-clause-attribute
value_at-requires-clause-attribute c =
    let o = c.self.inside in
    let same = ap (λ s. length s.attributes) (shape_here o.identity (boxed_slice_items o.assemblies) (counter_values o.counter) o.application c.args.self.now
    c.args.object_index c.self.view_is)
    ∙ length-map (object_in o.application c.args.object_index).attributes attribute_shape_of in
    omega (arith, same, c.requires.within)

pub returns : goal.returns
returns c =
    let o = c.self.inside in
    let same = ap (λ s. length s.attributes) (shape_here o.identity (boxed_slice_items o.assemblies) (counter_values o.counter) o.application c.args.self.now
    c.args.object_index c.self.view_is)
    ∙ length-map (object_in o.application c.args.object_index).attributes attribute_shape_of in
    c.value_at.ensures.value no_attribute
    ∙ sym (value_by_number o.identity (boxed_slice_items o.assemblies) (counter_values o.counter) o.application c.args.self.now
    c.args.object_index c.args.index no_attribute c.self.view_is c.self.invariant.numbered c.self.invariant.free
    c.requires.there (omega (arith, same, c.requires.within)))
