use Rattle.std.proofs.Common.{◌≡◌, None, Some, is_some, option_map, sym, ap, ◌∙◌}
use Rattle.std.specs.Box.{boxed_slice_items}
use Rattle.cip_objects.specs.Counter.{counter_values}
use Rattle.cip_objects.specs.Entries.{assembly_at, shape_of}
use Rattle.cip_objects.specs.FirstOf.{IsFirst}
use Rattle.cip_objects.proofs.Blocks.{first_at}
use Rattle.cip_objects.proofs.Shapes.{shape_at-contents, changes_of-contents}
use Rattle.cip_objects.proofs.objects.Objects.changes.Goals as goal

pub returns-in_err-assembly_index-clause-changes : goal.returns-in_err-assembly_index-clause-changes
returns-in_err-assembly_index-clause-changes c =
    let o = c.self.inside in
    let i = c.args.instance in
    let none : assembly_at i (boxed_slice_items o.assemblies) ≡ None =
    rw c.deref.ensures.value at c.in_err-assembly_index.ensures in
    c.from_residual.ensures
    ∙ sym (changes_of-contents o.identity (boxed_slice_items o.assemblies) (counter_values o.counter) o.application c.args.self.now i
    c.self.view_is c.self.invariant.free ∙ ap (option_map (λ b. b.changes)) none)

pub returns-in_err-assembly_index-clause-there : goal.returns-in_err-assembly_index-clause-there
returns-in_err-assembly_index-clause-there c =
    let o = c.self.inside in
    let i = c.args.instance in
    let none : assembly_at i (boxed_slice_items o.assemblies) ≡ None =
    rw c.deref.ensures.value at c.in_err-assembly_index.ensures in
    ap is_some c.from_residual.ensures
    ∙ sym (ap is_some (shape_at-contents o.identity (boxed_slice_items o.assemblies) (counter_values o.counter) o.application
    c.args.self.now i c.self.view_is ∙ ap (option_map shape_of) none))

pub returns-clause-changes : goal.returns-clause-changes
returns-clause-changes c =
    let o = c.self.inside in
    let bs = boxed_slice_items o.assemblies in
    let i = c.args.instance in
    let assembly_index = c.in_ok-assembly_index.assembly_index in
    let first : IsFirst (λ b. b.instance) bs i assembly_index = rw c.deref.ensures.value at c.in_ok-assembly_index.ensures in
    ap (λ n. Some n) (c.changes.ensures ∙ ap (λ b. b.changes) c.index.ensures)
    ∙ sym (changes_of-contents o.identity bs (counter_values o.counter) o.application c.args.self.now i c.self.view_is c.self.invariant.free
    ∙ ap (option_map (λ b. b.changes)) (first_at bs i assembly_index c.index.result.now first))

pub returns-clause-there : goal.returns-clause-there
returns-clause-there c =
    let o = c.self.inside in
    let bs = boxed_slice_items o.assemblies in
    let i = c.args.instance in
    let assembly_index = c.in_ok-assembly_index.assembly_index in
    let first : IsFirst (λ b. b.instance) bs i assembly_index = rw c.deref.ensures.value at c.in_ok-assembly_index.ensures in
    sym (ap is_some (shape_at-contents o.identity bs (counter_values o.counter) o.application c.args.self.now i c.self.view_is
    ∙ ap (option_map shape_of) (first_at bs i assembly_index c.index.result.now first)))
