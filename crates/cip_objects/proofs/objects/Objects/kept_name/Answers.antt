use Rattle.std.proofs.Common.{◌≡◌, length, Some, ap, ◌∙◌, arith}
use Rattle.std.specs.Box.{boxed_slice_items}
use Rattle.cip_objects.specs.Counter.{counter_values}
use Rattle.cip_objects.specs.Kept.{name_of}
use Rattle.cip_objects.proofs.KeptNames.{data_name, behind_data}
use Rattle.cip_objects.proofs.objects.Objects.kept_name.Goals as goal

pub returns-then-index-assemblies : goal.returns-then-index-assemblies
returns-then-index-assemblies c =
    let o = c.self.inside in
    ap (λ n. Some (name_of 4 n 3)) c.instance.ensures
    ∙ data_name o.identity (boxed_slice_items o.assemblies) (counter_values o.counter) o.application c.args.self.now c.self.view_is
    c.args.index c.index.result.now (omega (arith, c.len-assemblies.ensures, c.if-index-assemblies.true)) c.index.ensures

pub returns : goal.returns
returns c =
    let o = c.self.inside in
    let size : c.len-assemblies.result ≡ length (boxed_slice_items o.assemblies) = omega (arith, c.len-assemblies.ensures) in
    c.name_behind_assemblies.ensures
    ∙ behind_data o.identity (boxed_slice_items o.assemblies) (counter_values o.counter) o.application c.args.self.now c.self.view_is
    c.args.index c.len-assemblies.result size (omega (arith, c.if-index-assemblies.false))
