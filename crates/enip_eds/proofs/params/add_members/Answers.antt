use Rattle.enip_eds.specs.Params.{member_step}
use Rattle.enip_eds.specs.Steps.{Start}
use Rattle.enip_eds.proofs.StepLemmas.{more_steps_at}
use Rattle.enip_eds.proofs.params.add_members.Goals as goal

pub loop-index-init : goal.loop-index-init
loop-index-init c = Start

pub loop-index-preserved : goal.loop-index-preserved
loop-index-preserved c =
    more_steps_at (member_step c.args.assembly.now) c.as_slice-members.result.now c.loop-index.index 0 _ _ _ c.loop-index-test.true c.loop-index.invariant
    c.in_ok-next.ensures
