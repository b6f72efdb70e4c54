use Rattle.std.proofs.Common.{◌≡◌, ℕ, IfOk, IsTrue, ap, ◌∙◌, arith}
use Rattle.std.proofs.lemmas.Result.{IfOk-weaker, IfErr-weaker}
use Rattle.sqlite_trees.specs.Tree.{Trees}
use Rattle.sqlite_trees.specs.View.{doubt}
use Rattle.enip_keep_sqlite.specs.Pairs.{pairs_in}
use Rattle.std.specs.List.{AllByRecursion}
use Rattle.enip_keep_sqlite.specs.Pairs.{IsOurs}
use Rattle.enip_keep_sqlite.proofs.CauseLemmas.{plain_cause, not_broken}
use Rattle.enip_keep_sqlite.proofs.RowsLemmas.{shown}
use Rattle.enip_keep_sqlite.proofs.rows.RowsKeeper.load.Goals as goal

pub returns-clause-pairs : goal.returns-clause-pairs
returns-clause-pairs g c clean =
    let sure : doubt (g.S.Store.view c.args.self.now.store).is_clean ≡ 0 = omega (arith, clean, c.read_all.ensures.calm.clean) in
    IfOk-weaker c.read_all.result _ _ (λ all h. shown all.items _ h ∙ ap (λ (t : Trees). pairs_in (t 0)) (c.requires sure).same) (c.read_all.ensures.rows clean)

pub returns-clause-cause : goal.returns-clause-cause
returns-clause-cause g c clean =
    let old = g.S.Store.view c.args.self.now.store in
    let sure : doubt old.is_clean ≡ 0 = omega (arith, clean, c.read_all.ensures.calm.clean) in
    let up = c.requires sure in
    IfErr-weaker c.read_all.result _ _
    (λ e cause. plain_cause (IsTrue old.is_broken) (¬ AllByRecursion IsOurs (old.trees 0)) (g.S.Store.faults c.args.self.now.store) (g.S.Store.faults c.read_all.new.store) e
    (not_broken old.is_broken up.sound) (λ no. no up.ours) cause)
    (c.read_all.ensures.cause clean)
