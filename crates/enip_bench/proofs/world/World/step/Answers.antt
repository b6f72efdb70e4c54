use Rattle.std.proofs.Common.{subst, sym, ◌∙◌, ap}
use Rattle.enip_bench.specs.Events.{Other}
use Rattle.enip_bench.specs.Stored.{world_in, event_in, IsStepDone}
use Rattle.enip_bench.proofs.world.World.step.Goals as goal

pub returns-in-Other-clause-stepped : goal.returns-in-Other-clause-stepped
returns-in-Other-clause-stepped c =
    subst (λ event. IsStepDone (world_in c.args.self.now) event (world_in c.execute_other.new.self) c.execute_other.result)
    (ap (λ bytes. Other bytes) c.deref-in-Other.ensures.value ∙ sym (ap event_in c.in-Other.is)) c.execute_other.ensures.step_kind
