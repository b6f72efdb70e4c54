use Rattle.std.proofs.Common.{rules, ◌≡◌, ◌≤◌, map, List, Some, IsTrue, IfErr, ℕ, ◌++◌, ap, sym, subst, arith}
use Rattle.std.specs.List.{AllByRecursion}
use Rattle.sqlite_value.specs.Order.{Row}
use Rattle.sqlite_trees.specs.View.{View, IsClean}
use Rattle.enip_keep.specs.declared.entry.Entry.{Entry}
use Rattle.enip_keep.specs.Kept.{pair_of}
use Rattle.enip_keep_sqlite.specs.Pairs.{row_of, IsOurs}
use Rattle.enip_keep_sqlite.specs.Rows.{Gives, IsForeignAt}
use Rattle.enip_keep_sqlite.specs.Causes.{IsRowCause}
use Rattle.enip_keep_sqlite.proofs.CauseLemmas.{cause_within, foreign_among, rows_more}
use Rattle.enip_keep_sqlite.proofs.read.read_all.Goals as goal

pub returns-in_err-entry-clause-cause : goal.returns-in_err-entry-clause-cause
returns-in_err-entry-clause-cause g c clean =
    let view = g.S.Store.view in
    let faults = g.S.Store.faults in
    let old = view c.args.store.now in
    let mid = view c.entries.store in
    let sure : IsClean mid = omega (arith, clean, c.next_entry.ensures.calm.clean) in
    let rows = c.entries.invariant.rows sure in
    let broken : mid.is_broken ≡ old.is_broken = ap (λ (v : View). v.is_broken) (c.entries.invariant.looks sure) in
    let foreign : IsForeignAt mid → AllByRecursion IsOurs (old.trees 0) → ⊥ =
    λ at. foreign_among (map (λ (e : Entry). row_of (pair_of e)) c.entries.all.items) (old.trees 0) at.1 rows.0 at.0 (mid.cursors 0) rows.1 at.2 rows.2 at.3 in
    let whole : IsRowCause (IsTrue old.is_broken) (¬ AllByRecursion IsOurs (old.trees 0)) (faults c.args.store.now) (faults c.next_entry.new.store) c.in_err-entry.field-0.0 =
    cause_within (IsTrue mid.is_broken) (IsTrue old.is_broken) (IsForeignAt mid) (¬ AllByRecursion IsOurs (old.trees 0)) (faults c.entries.store) (faults c.args.store.now)
    (faults c.next_entry.new.store) (faults c.next_entry.new.store) c.in_err-entry.field-0.0 c.entries.invariant.calm.counts (omega arith)
    (λ is. subst IsTrue broken is) foreign (c.in_err-entry.ensures.cause clean) in
    search rules

pub entries-preserved : goal.entries-preserved
entries-preserved g c =
    let view = g.S.Store.view in
    let mid = view c.entries.store in
    let new = view c.next_entry.new.store in
    let sure : IsClean new → IsClean mid = λ clean. omega (arith, clean, c.next_entry.ensures.calm.clean) in
    record {
      live = search rules;
      rows = λ clean.
          let rows = c.entries.invariant.rows (sure clean) in
          let gives : Gives mid new (Some c.in-Some.entry) = subst (Gives mid new) c.in-Some.is (c.in_ok-entry.ensures.ok clean) in
          (gives.0, gives.2, rows_more c.entries.all.items c.push.new.self.items c.in-Some.entry ((view c.args.store.now).trees 0) gives.0 rows.0 (mid.cursors 0) c.in_ok-push.ensures.items rows.1 gives.1 rows.2);
      looks = search rules;
      sound = search rules;
      calm = search rules;
    }
