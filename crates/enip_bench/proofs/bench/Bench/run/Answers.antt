use Rattle.std.proofs.Common.{◌∙◌}
use Rattle.enip_bench.specs.Stored.{world_in, event_in}
use Rattle.enip_bench.proofs.BenchLemmas.{ran, runs_more, stepped_reached}
use Rattle.enip_bench.proofs.ReachedLemmas.{headline_holds}
use Rattle.enip_bench.proofs.bench.Bench.run.Goals as goal

pub loop-position-init : goal.loop-position-init
loop-position-init c = record { run = c.self.view_is; is = c.self.invariant }

pub invariant_of-self : goal.invariant_of-self
invariant_of-self c = c.loop-position.invariant.is

pub step-requires-clause-reached : goal.step-requires-clause-reached
step-requires-clause-reached c = c.loop-position.invariant.is.reached

pub step-requires-clause-counted : goal.step-requires-clause-counted
step-requires-clause-counted c = c.loop-position.invariant.is.counted

pub invariant_of-self-in-Err : goal.invariant_of-self-in-Err
invariant_of-self-in-Err c = record {
  reached = stepped_reached (world_in c.loop-position.self-inside.world) (world_in c.step.new.self)
      (event_in c.index-events-position.result) c.step.result c.loop-position.invariant.is.reached c.step.ensures.stepped;
  counted = c.step.ensures.counted;
}

pub returns-in-Err-clause-moved : goal.returns-in-Err-clause-moved
returns-in-Err-clause-moved c = c.in-Err.ensures.stepped ∙ c.loop-position.invariant.run

pub returns-in-Err-clause-headline : goal.returns-in-Err-clause-headline
returns-in-Err-clause-headline c = headline_holds c.args.self.now _ _ (returns-in-Err-clause-moved c)

pub loop-position-preserved : goal.loop-position-preserved
loop-position-preserved c =
    runs_more c.args.self.now c.args.events.now c.loop-position.position c.index-events-position.result
    c.loop-position.self-inside.world c.step.new.self c.in_default.field-0 c.loop-position.invariant c.loop-position-test.true
    c.index-events-position.is c.in_default.ensures.stepped c.step.ensures.counted

pub returns-clause-moved : goal.returns-clause-moved
returns-clause-moved c =
    ran c.args.self.now c.args.events.now c.loop-position.position c.loop-position.self-inside.world c.loop-position.invariant
    c.loop-position-test.false

pub returns-clause-headline : goal.returns-clause-headline
returns-clause-headline c = headline_holds c.args.self.now _ _ (returns-clause-moved c)
