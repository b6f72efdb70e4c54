use Rattle.std.proofs.Common.{◌≡◌, None, MatchOption}
use Rattle.std.specs.Box.{boxed_slice_items}
use Rattle.cip_objects.specs.Entries.{assembly_at}
use Rattle.cip_objects.specs.FirstOf.{IsFirst}
use Rattle.cip_objects.proofs.ObjectRefs.{placed}
use Rattle.cip_objects.proofs.objects.Objects.assembly_index.Goals as goal

pub returns : goal.returns
returns c =
    let i = c.args.instance in
    let first : MatchOption c.position.result (assembly_at i (boxed_slice_items c.self.inside.assemblies) ≡ None)
    (IsFirst (λ b. b.instance) (boxed_slice_items c.self.inside.assemblies) i) =
    rw c.deref.ensures.value at c.position.ensures in
    placed c.self.inside c.args.self.now i c.position.result c.self.view_is first
