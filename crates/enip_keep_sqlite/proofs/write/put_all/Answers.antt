use Rattle.std.proofs.Common.{rules, ◌≡◌, ◌≤◌, ℕ, List, [], ◌∷◌, ◌++◌, take, sym, subst, arith, inl, inr, IsTrue}
use Rattle.sqlite_trees.specs.View.{IsClean}
use Rattle.enip_keep.specs.Kept.{Kept, pair_of, pairs_of}
use Rattle.enip_keep_sqlite.specs.Rows.{Puts}
use Rattle.enip_keep_sqlite.proofs.RowsLemmas.{puts_then, pairs_more, calm_then}
use Rattle.enip_keep_sqlite.specs.Causes.{IsRowCause}
use Rattle.enip_keep_sqlite.proofs.CauseLemmas.{cause_within}
use Rattle.enip_keep_sqlite.proofs.write.put_all.Goals as goal

pub loop-entry-preserved : goal.loop-entry-preserved
loop-entry-preserved g c =
    let s = g.S.Store in
    record {
      puts = λ clean.
          let sure : IsClean (s.view c.loop-entry.store) = omega (arith, clean, c.put_one.ensures.calm.clean) in
          let both = puts_then (s.view c.args.store.now) (s.view c.loop-entry.store) (s.view c.put_one.new.store) _ _ (c.loop-entry.invariant.puts sure) (c.in_ok-put_one.ensures.ok clean) in
          subst (Puts (s.view c.args.store.now) (s.view c.put_one.new.store)) (sym (pairs_more c.args.changes.now c.loop-entry.entry-index c.entry-item.result c.loop-entry-test.true c.entry-item.is)) both;
      calm = calm_then _ _ _ _ _ _ c.loop-entry.invariant.calm c.put_one.ensures.calm;
    }

pub returns-in_err-put_one-clause-cause : goal.returns-in_err-put_one-clause-cause
returns-in_err-put_one-clause-cause g c clean =
    let view = g.S.Store.view in
    let faults = g.S.Store.faults in
    let old = view c.args.store.now in
    let mid = view c.loop-entry.store in
    let sure : IsClean mid = omega (arith, clean, c.put_one.ensures.calm.clean) in
    let broken : mid.is_broken ≡ old.is_broken = (c.loop-entry.invariant.puts sure).sound in
    let whole : IsRowCause (IsTrue old.is_broken) ⊥ (faults c.args.store.now) (faults c.put_one.new.store) c.in_err-put_one.field-0.0 =
    cause_within (IsTrue mid.is_broken) (IsTrue old.is_broken) ⊥ ⊥ (faults c.loop-entry.store) (faults c.args.store.now) (faults c.put_one.new.store) (faults c.put_one.new.store)
    c.in_err-put_one.field-0.0 c.loop-entry.invariant.calm.counts (omega arith) (λ is. subst IsTrue broken is) (λ no. no) (c.in_err-put_one.ensures.cause clean) in
    search rules
