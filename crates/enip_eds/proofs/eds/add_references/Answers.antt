use Rattle.enip_eds.specs.Eds.{reference_step}
use Rattle.enip_eds.specs.Steps.{Start}
use Rattle.enip_eds.proofs.StepLemmas.{more_steps_at, written_is}
use Rattle.enip_eds.proofs.eds.add_references.Goals as goal

pub loop-index-init : goal.loop-index-init
loop-index-init c = Start

pub loop-index-preserved : goal.loop-index-preserved
loop-index-preserved c =
    more_steps_at reference_step c.args.members.now c.loop-index.index 0 _ _ _ c.loop-index-test.true c.loop-index.invariant
    (written_is _ _ _ _ c.in_ok-next.ensures.next c.in_ok-next.ensures.text)
