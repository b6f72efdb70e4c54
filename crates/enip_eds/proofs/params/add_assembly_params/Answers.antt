use Rattle.enip_eds.specs.Params.{assembly_params}
use Rattle.enip_eds.specs.Steps.{Start}
use Rattle.enip_eds.proofs.StepLemmas.{more_steps}
use Rattle.enip_eds.proofs.params.add_assembly_params.Goals as goal

pub loop-index-init : goal.loop-index-init
loop-index-init c = Start

pub loop-index-preserved : goal.loop-index-preserved
loop-index-preserved c =
    more_steps assembly_params c.args.assemblies.now c.loop-index.index c.index-assemblies-index.result _ _ _ c.loop-index-test.true c.index-assemblies-index.is c.loop-index.invariant
    c.in_ok-next.ensures
