use Rattle.enip_eds.specs.Params.{object_params}
use Rattle.enip_eds.specs.Steps.{Start}
use Rattle.enip_eds.proofs.StepLemmas.{more_steps}
use Rattle.enip_eds.proofs.params.add_object_params.Goals as goal

pub loop-index-init : goal.loop-index-init
loop-index-init c = Start

pub loop-index-preserved : goal.loop-index-preserved
loop-index-preserved c =
    more_steps (object_params c.args.types.now) c.args.objects.now c.loop-index.index c.index-objects-index.result _ _ _ c.loop-index-test.true c.index-objects-index.is c.loop-index.invariant
    (rw c.types_at-own.ensures at c.in_ok-next.ensures)
