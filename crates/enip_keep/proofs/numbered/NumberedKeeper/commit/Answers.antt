use Rattle.std.proofs.Common.{ℕ, ◌≡◌, ap, sym, ◌∙◌, arith}
use Rattle.enip_keep.specs.Kept.{pairs_of, set_all}
use Rattle.enip_keep.specs.Rounds.{without_round, round_bytes_in, round_bytes, round_in}
use Rattle.enip_keep.proofs.WholeLemmas.{round_kept, whole_kept}
use Rattle.enip_keep.proofs.numbered.NumberedKeeper.commit.Goals as goal

pub returns-in-Ok-clause-done : goal.returns-in-Ok-clause-done
returns-in-Ok-clause-done g c sure =
    let kept = g.K.Keeper.kept in
    let round = c.saturating_add-round.result in
    let device = pairs_of c.set_all.new.entries.items in
    let old : g.K.Keeper.doubt c.args.self.now.keeper ≡ 0 = omega (arith, sure, c.commit_with.ensures.doubt) in
    let held = c.in_ok-commit_with.ensures.done sure in
    let is : device ≡ without_round (kept c.commit_with.new.keeper)
    = c.in_ok-set_all.ensures ∙ ap (set_all (pairs_of c.args.changes.now)) (c.requires.up old).1.entries ∙ sym held.1 in
    let own : round_bytes_in (kept c.commit_with.new.keeper) ≡ round_bytes round device
    = c.in_ok-commit_with.ensures.own sure ∙ ap (λ (p : ℕ × _). p.1) c.in_ok-own.ensures.pair
    ∙ ap (λ es. round_bytes round (pairs_of es)) c.deref.ensures.value in
    let same : round_in (kept c.commit_with.new.keeper) ≡ round
    = round_kept (kept c.commit_with.new.keeper) device round c.saturating_add-round.type_inv is own in (
      (
        held.0,
        record {
          entries = is;
          round = omega (arith, same);
          whole = sym (whole_kept (kept c.commit_with.new.keeper) device round c.saturating_add-round.type_inv is own);
        },
      ),
      held.1,
    )

pub returns-in-Ok-clause-whole : goal.returns-in-Ok-clause-whole
returns-in-Ok-clause-whole g c sure = sym (returns-in-Ok-clause-done g c sure).0.1.whole
