use Rattle.std.proofs.Common.{rules, subst}
use Rattle.std.proofs.Output.{has_written_append}
use Rattle.std.specs.Fmt.{HasWritten}
use Rattle.enip_eds.specs.Profile.{object_line}
use Rattle.enip_eds.proofs.StepLemmas.{flat_map_next}
use Rattle.enip_eds.proofs.profile.ObjectLinesDisplay.fmt.Goals as goal

pub loop-object-preserved : goal.loop-object-preserved
loop-object-preserved g c =
    λ p.
    subst (λ t. HasWritten g.W.Write.write_str_gives c.args.f.now t c.write.new.self)
    (flat_map_next object_line c.args.self.now.0.now c.loop-object.object-index c.object-item.result c.loop-object-test.true c.object-item.is)
    (has_written_append _ _ _ _ _ _ (c.loop-object.invariant p) (search rules))
