use Rattle.enip_bench.specs.Stored.{world_in, event_in}
use Rattle.enip_bench.proofs.BenchLemmas.{told_reached}
use Rattle.enip_bench.proofs.bench.Bench.step.Goals as goal

pub invariant_of-self-2 : goal.invariant_of-self-2
invariant_of-self-2 c = record {
  reached = told_reached (world_in c.self.inside.world) (world_in c.step.new.self) (event_in c.args.event.now) c.in_ok-step_kind.step_kind
      c.self.invariant.reached c.in_ok-step_kind.ensures.stepped;
  counted = c.step.ensures.counted;
}
