use Rattle.enip_eds.specs.Params.{attribute_step}
use Rattle.enip_eds.specs.Steps.{Start}
use Rattle.enip_eds.proofs.StepLemmas.{more_steps}
use Rattle.enip_eds.proofs.params.add_attributes.Goals as goal

pub loop-index-init : goal.loop-index-init
loop-index-init c = Start

pub loop-index-preserved : goal.loop-index-preserved
loop-index-preserved c =
    more_steps (attribute_step c.args.object.now c.args.types.now) c.own_attributes-attributes.result.now c.loop-index.index c.index-attributes-index.result _ _ _ c.loop-index-test.true c.index-attributes-index.is c.loop-index.invariant
    (rw c.type_at-of_type.ensures at c.in_ok-next.ensures)
