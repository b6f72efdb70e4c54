use Rattle.std.proofs.Common.{sym, ap, ◌∙◌, option_map, Some}
use Rattle.std.specs.Box.{boxed_slice_items}
use Rattle.cip_objects.specs.Counter.{counter_values}
use Rattle.cip_objects.specs.ObjectRef.{number_at}
use Rattle.cip_objects.specs.Entries.{shape_of}
use Rattle.cip_objects.proofs.Blocks.{first_at}
use Rattle.cip_objects.proofs.ObjectRefs.{first_at_place, place_within}
use Rattle.cip_objects.proofs.Shapes.{shape_at-contents}
use Rattle.cip_objects.proofs.Writes.{content_read}
use Rattle.cip_objects.proofs.objects.Objects.assembly.Goals as goal

pub index-requires : goal.index-requires
index-requires c = place_within c.self.inside c.args.self.now c.args.assembly_index c.self.view_is c.requires

pub returns-clause-shape : goal.returns-clause-shape
returns-clause-shape c =
    let o = c.self.inside in
    let m = c.args.self.now in
    let n = number_at m.shapes c.args.assembly_index in
    let f = first_at_place o m c.args.assembly_index c.self.view_is c.requires in
    shape_at-contents o.identity (boxed_slice_items o.assemblies) (counter_values o.counter) o.application m n c.self.view_is
    ∙ ap (option_map shape_of) (first_at (boxed_slice_items o.assemblies) n c.args.assembly_index c.index.result.now f)
    ∙ ap (λ b. Some (shape_of b)) (sym c.index.ensures)

pub returns-clause-content : goal.returns-clause-content
returns-clause-content c =
    let o = c.self.inside in
    let m = c.args.self.now in
    let n = number_at m.shapes c.args.assembly_index in
    let f = first_at_place o m c.args.assembly_index c.self.view_is c.requires in
    let numbered = c.self.invariant.numbered in
    let b = c.index.result.now in
    ap (λ x. x.content) c.index.ensures
    ∙ sym (content_read o.identity (boxed_slice_items o.assemblies) (counter_values o.counter) o.application m n c.args.assembly_index b
    c.self.view_is numbered c.self.invariant.free f)
