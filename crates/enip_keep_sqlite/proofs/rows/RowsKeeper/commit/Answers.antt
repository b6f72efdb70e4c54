use Rattle.std.proofs.Common.{rules, ◌≡◌, ◌⊎◌, inl, inr, ℕ, IsTrue, ◌∙◌, subst, sym, arith}
use Rattle.sqlite_trees.specs.Tree.{Trees}
use Rattle.sqlite_trees.specs.View.{doubt}
use Rattle.enip_keep.specs.Kept.{Kept, pairs_of}
use Rattle.enip_keep.specs.Causes.{IsCause}
use Rattle.enip_keep_sqlite.specs.Causes.{IsRowCause}
use Rattle.enip_keep_sqlite.proofs.CauseLemmas.{row_cause, cause_within, plain_cause, not_broken}
use Rattle.enip_keep_sqlite.proofs.RowsLemmas.{commits, may_commit, before_put}
use Rattle.enip_keep_sqlite.proofs.rows.RowsKeeper.commit.Goals as goal

pub returns-in-Ok-clause-done : goal.returns-in-Ok-clause-done
returns-in-Ok-clause-done g c clean =
    let view = g.S.Store.view in
    let mid : doubt (view c.put_all.new.store).is_clean ≡ 0 = omega (arith, clean, c.commit.ensures.clean) in
    let old : doubt (view c.args.self.now.store).is_clean ≡ 0 = omega (arith, mid, c.put_all.ensures.calm.clean) in
    commits (view c.args.self.now.store) (view c.put_all.new.store) (view c.commit.new.self) (pairs_of c.args.changes.now) (c.requires.up old) (c.in_ok-put_all.ensures.ok mid) (c.in-Ok.ensures.ok clean)

pub returns-in-Ok-clause-crash : goal.returns-in-Ok-clause-crash
returns-in-Ok-clause-crash g c clean d left =
    let view = g.S.Store.view in
    let mid : doubt (view c.put_all.new.store).is_clean ≡ 0 = omega (arith, clean, c.commit.ensures.clean) in
    let old : doubt (view c.args.self.now.store).is_clean ≡ 0 = omega (arith, mid, c.put_all.ensures.calm.clean) in
    before_put (g.S.Store.recovers c.args.self.now.store) (g.S.Store.recovers c.put_all.new.store) (view c.args.self.now.store) (view c.put_all.new.store) (pairs_of c.args.changes.now) left.0 d (c.requires.up old) (c.in_ok-put_all.ensures.ok mid) left.2 c.put_all.ensures.calm.outcomes (c.commit.ensures.crash left.0 left.1)

pub returns-in-Err-clause-crash : goal.returns-in-Err-clause-crash
returns-in-Err-clause-crash g c clean d left =
    let view = g.S.Store.view in
    let mid : doubt (view c.put_all.new.store).is_clean ≡ 0 = omega (arith, clean, c.commit.ensures.clean) in
    let old : doubt (view c.args.self.now.store).is_clean ≡ 0 = omega (arith, mid, c.put_all.ensures.calm.clean) in
    before_put (g.S.Store.recovers c.args.self.now.store) (g.S.Store.recovers c.put_all.new.store) (view c.args.self.now.store) (view c.put_all.new.store) (pairs_of c.args.changes.now) left.0 d (c.requires.up old) (c.in_ok-put_all.ensures.ok mid) left.2 c.put_all.ensures.calm.outcomes (c.commit.ensures.crash left.0 left.1)

pub returns-in_err-put_all-clause-cause : goal.returns-in_err-put_all-clause-cause
returns-in_err-put_all-clause-cause g c clean =
    let view = g.S.Store.view in
    let faults = g.S.Store.faults in
    let old = view c.args.self.now.store in
    let sure : doubt old.is_clean ≡ 0 = omega (arith, clean, c.put_all.ensures.calm.clean) in
    let whole : IsCause (faults c.args.self.now.store) (faults c.put_all.new.store) c.in_err-put_all.field-0.0 =
    plain_cause (IsTrue old.is_broken) ⊥ (faults c.args.self.now.store) (faults c.put_all.new.store) c.in_err-put_all.field-0.0 (not_broken old.is_broken (c.requires.up sure).sound) (λ no. no)
    (c.in_err-put_all.ensures.cause clean) in
    search rules

pub returns-in-Err-clause-cause : goal.returns-in-Err-clause-cause
returns-in-Err-clause-cause g c clean =
    let view = g.S.Store.view in
    let faults = g.S.Store.faults in
    let mid = view c.put_all.new.store in
    let sure : doubt mid.is_clean ≡ 0 = omega (arith, clean, c.commit.ensures.clean) in
    let old : doubt (view c.args.self.now.store).is_clean ≡ 0 = omega (arith, sure, c.put_all.ensures.calm.clean) in
    let sound = (c.in_ok-put_all.ensures.ok sure).sound ∙ (c.requires.up old).sound in
    let here = row_cause mid ⊥ ⊥ (faults c.put_all.new.store) (faults c.commit.new.self) c.in-Err.error (λ no. no) (c.in-Err.ensures.cause clean) in
    let wide = cause_within (IsTrue mid.is_broken) (IsTrue mid.is_broken) ⊥ ⊥ (faults c.put_all.new.store) (faults c.args.self.now.store) (faults c.commit.new.self) (faults c.commit.new.self) _
    c.put_all.ensures.calm.counts (omega arith) (λ is. is) (λ no. no) here in
    subst (IsCause (faults c.args.self.now.store) (faults c.commit.new.self)) (sym c.keep_error.ensures)
    (plain_cause (IsTrue mid.is_broken) ⊥ (faults c.args.self.now.store) (faults c.commit.new.self) _ (not_broken mid.is_broken sound) (λ no. no) wide)
