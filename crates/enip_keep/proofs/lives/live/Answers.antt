use Rattle.std.proofs.Common.{rules, ◌≡◌, [], ◌∷◌, ◌++◌, length, sym, ap, subst, ◌∙◌, arith, IsTrue}
use Rattle.enip_keep.specs.Lives.{AreAfter, IsKeptAfter}
use Rattle.enip_keep.proofs.LivesLemmas.{one_more_each, made_after, left_after}
use Rattle.enip_keep.proofs.lives.live.Goals as goal

pub loop-event-preserved : goal.loop-event-preserved
loop-event-preserved g c =
    let d = g.D.Device in
    let k = g.K.Keeper in
    let before = c.loop-event in
    let after = c.happen-well in
    let first = d.contents c.args.server.now.device in
    let IsServed : d.Contents → Type 0 = λ x. IsTrue before.server.is_serving × (x ≡ d.contents before.server.device) in
    let MayFind = k.may_leave before.server.keeper in
    let counted : length before.yielded ≡ length before.went.items = sym before.invariant.count in
    let sure : k.doubt after.new.server.keeper ≡ 0 → k.doubt before.server.keeper ≡ 0 = λ clean. omega (arith, clean, after.ensures.doubt) in
    let pushed : c.push.new.self.items ≡ before.went.items ++ after.result ∷ [] = c.in_ok-push.ensures.items in
    let served : k.doubt after.new.server.keeper ≡ 0 → (x : d.Contents) → IsServed x → AreAfter d.brings d.executed d.kept_part d.started before.yielded before.went.items first x =
    λ clean x is. subst (AreAfter d.brings d.executed d.kept_part d.started before.yielded before.went.items first) (sym is.1) (before.invariant.contents (sure clean) is.0) in
    record {
      can_next = search rules;
      is_finite = search rules;
      count = ap length pushed ∙ one_more_each before.went.items before.yielded after.result c.in-Some.event before.invariant.count;
      ready = after.ensures.ready;
      doubt = omega (arith, before.invariant.doubt, after.ensures.doubt);
      kept = λ clean x may.
          subst (λ went. IsKeptAfter d.brings d.executed d.kept_part d.started (before.yielded ++ c.in-Some.event ∷ []) went first x) (sym pushed)
          (left_after d.brings d.executed d.kept_part d.started before.yielded before.went.items c.in-Some.event after.result IsServed MayFind first (d.contents after.new.server.device) x counted
          (served clean) (before.invariant.kept (sure clean)) (after.ensures.made clean) (λ well. after.ensures.settled clean well x may) (after.ensures.crash clean x may));
      contents = λ clean serving.
          subst (λ went. AreAfter d.brings d.executed d.kept_part d.started (before.yielded ++ c.in-Some.event ∷ []) went first (d.contents after.new.server.device)) (sym pushed)
          (made_after d.brings d.executed d.kept_part d.started before.yielded before.went.items c.in-Some.event after.result IsServed MayFind first (d.contents after.new.server.device) counted
          (served clean) (before.invariant.kept (sure clean)) (after.ensures.made clean (after.ensures.serves.1 serving)));
    }
