use Rattle.std.proofs.Common.{refl, ap, ap₂, subst, ◌∙◌}
use Rattle.std.specs.Option.{unwrap_or, option_map}
use Rattle.cip_class3.specs.declared.originator.Stage.TheVariants as stages
use Rattle.enip_bench.specs.Stored.{device_with}
use Rattle.enip_bench.specs.CountingWorld.{counting_seen}
use Rattle.enip_bench.specs.Stored.{world_in, acceptances_in}
use Rattle.enip_bench.proofs.BenchLemmas.{same_seen}
use Rattle.enip_bench.specs.Reached.{IsReached}
use Rattle.enip_bench.proofs.ReachedLemmas.{stage_there, shows_numbers}
use Rattle.enip_bench.proofs.bench.Bench.seen.Goals as goal

pub returns-clause-seen : goal.returns-clause-seen
returns-clause-seen c =
    same_seen _ (counting_seen (world_in c.self.inside.world))
    (ap (λ l. device_with l c.objects.result.now (option_map (λ r. r.now) c.prepared.result)
    (option_map (λ q. q.now) c.queue.result) (option_map (λ r. r.now) c.resetting.result)) c.ledger.ensures
    ∙ (ap₂ (λ m p. device_with c.self.inside.world.adapter.state.shared.objects.ledger m p
    (option_map (λ q. q.now) c.queue.result) (option_map (λ r. r.now) c.resetting.result)) c.objects.ensures c.prepared.ensures
    ∙ ap₂ (device_with c.self.inside.world.adapter.state.shared.objects.ledger
    c.self.inside.world.adapter.state.shared.objects.router.objects
    c.self.inside.world.adapter.state.shared.objects.router.prepared) c.queue.ensures c.resetting.ensures)) refl
    (ap acceptances_in c.deref.ensures.value)
    (c.unwrap_or.ensures
    ∙ ap (λ o. unwrap_or o stages.Idle) (c.stage.ensures ∙ stage_there (world_in c.self.inside.world) c.self.invariant.reached))
    ∙ ap counting_seen c.self.view_is

pub returns-clause-headline : goal.returns-clause-headline
returns-clause-headline c =
    shows_numbers c.args.self.now _ (subst IsReached c.self.view_is c.self.invariant.reached) (returns-clause-seen c)
