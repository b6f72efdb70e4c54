use Rattle.std.proofs.Common.{◌≡◌, true, [], ◌∷◌, ◌++◌, sym, subst, refl, ◌∙◌, arith, le_refl}
use Rattle.cip_commander.specs.CommanderRule.{CommanderState}
use Rattle.kept_commander.specs.Lives.{IsRun, IsNeverDropped}
use Rattle.kept_commander.proofs.Runs.{run-append, one-more, run-all_used, run-later, run-never_dropped}
use Rattle.kept_commander.proofs.lives.live.Goals as goal

pub loop-event-init : goal.loop-event-init
loop-event-init g c =
    let k = g.K.CommandKeeper in
    let client = c.args.client.now in
    let first = client.commander in
    record {
      can_next = tt;
      is_finite = tt;
      ready = c.requires.ready;
      doubt = le_refl (k.doubt client.keeper);
      never_dropped = λ clean last may. subst (λ ms. IsNeverDropped [] ms last) (sym c.requires.fresh) tt;
      one = λ clean. (first, subst (λ ms. IsRun [] ms client.is_serving first client.is_serving first) (sym c.requires.fresh) (refl, refl));
      run = λ clean last may.
          let kept = c.requires.ready clean c.requires.serving in
          let same : last ≡ first = g.met.K.CommandKeeper.settled client.keeper last clean kept.up may ∙ kept.whole in
          subst (λ ms. IsRun [] ms client.is_serving first client.is_serving last) (sym c.requires.fresh) (refl, same);
    }

pub loop-event-preserved : goal.loop-event-preserved
loop-event-preserved g c =
    let k = g.K.CommandKeeper in
    let before = c.loop-event in
    let new = c.happen.new.client in
    let first = c.args.client.now.commander in
    let serves = c.args.client.now.is_serving in
    let event = c.in-Some.event in
    let sent = c.in_ok-handed_out.handed_out in
    let pushed : c.push.new.self.items ≡ before.sent.items ++ sent ∷ [] = c.in_ok-push.ensures.items in
    let sure : k.doubt new.keeper ≡ 0 → k.doubt before.client.keeper ≡ 0 = λ clean. omega (arith, clean, c.happen.ensures.doubt) in
    let runs : k.doubt new.keeper ≡ 0 → (last : CommanderState) → k.may_leave new.keeper last → IsRun (before.yielded ++ event ∷ []) (before.sent.items ++ sent ∷ []) serves first new.is_serving last =
    λ clean last may.
    let step = c.in_ok-handed_out.ensures.step clean last may in
    run-append before.yielded before.sent.items event sent serves before.client.is_serving new.is_serving first step.0 last (before.invariant.run (sure clean) step.0 step.1) step.2 in
    let serving : k.doubt new.keeper ≡ 0 → new.is_serving ≡ true → (last : CommanderState) × IsRun (before.yielded ++ event ∷ []) (before.sent.items ++ sent ∷ []) serves first new.is_serving last =
    λ clean serves.
    let kept = c.happen.ensures.ready clean serves in
    (k.kept new.keeper, runs clean (k.kept new.keeper) (g.met.K.CommandKeeper.stays new.keeper clean kept.up)) in
    record {
      can_next = tt;
      is_finite = tt;
      ready = c.happen.ensures.ready;
      doubt = omega (arith, before.invariant.doubt, c.happen.ensures.doubt);
      one = λ clean. subst (λ ms. (last : CommanderState) × IsRun (before.yielded ++ event ∷ []) ms serves first new.is_serving last) (sym pushed)
          (one-more before.yielded before.sent.items event sent serves before.client.is_serving new.is_serving first c.in_ok-handed_out.ensures.silent (serving clean) (before.invariant.one (sure clean)));
      never_dropped = λ clean last may. subst (λ ms. IsNeverDropped (before.yielded ++ event ∷ []) ms last) (sym pushed)
          (run-never_dropped (before.yielded ++ event ∷ []) (before.sent.items ++ sent ∷ []) serves new.is_serving first last (runs clean last may));
      run = λ clean last may. subst (λ ms. IsRun (before.yielded ++ event ∷ []) ms serves first new.is_serving last) (sym pushed) (runs clean last may);
    }

pub returns-clause-later : goal.returns-clause-later
returns-clause-later g c = λ clean.
    let run = c.loop-event.invariant.one clean in
    run-later c.loop-event.yielded c.loop-event.sent.items c.args.client.now.is_serving c.loop-event.client.is_serving c.args.client.now.commander run.0 run.1

pub returns-clause-used : goal.returns-clause-used
returns-clause-used g c = λ clean last may.
    run-all_used c.loop-event.yielded c.loop-event.sent.items c.args.client.now.is_serving c.loop-event.client.is_serving c.args.client.now.commander last (c.loop-event.invariant.run clean last may)
