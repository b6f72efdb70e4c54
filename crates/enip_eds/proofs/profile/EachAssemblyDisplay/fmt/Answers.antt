use Rattle.std.proofs.Common.{rules, subst}
use Rattle.std.proofs.Output.{has_written_append}
use Rattle.std.specs.Fmt.{HasWritten}
use Rattle.enip_eds.specs.Profile.{assembly_line}
use Rattle.enip_eds.proofs.StepLemmas.{flat_map_next}
use Rattle.enip_eds.proofs.profile.EachAssemblyDisplay.fmt.Goals as goal

pub loop-assembly-preserved : goal.loop-assembly-preserved
loop-assembly-preserved g c =
    λ p.
    subst (λ t. HasWritten g.W.Write.write_str_gives c.args.f.now t c.write.new.self)
    (flat_map_next assembly_line c.args.self.now.0.now c.loop-assembly.assembly-index c.assembly-item.result c.loop-assembly-test.true c.assembly-item.is)
    (has_written_append _ _ _ _ _ _ (c.loop-assembly.invariant p) (search rules))
