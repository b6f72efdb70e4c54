use Rattle.std.proofs.Common.{rules, ◌≡◌, ℕ, IsTrue, subst, sym, arith}
use Rattle.sqlite_value.specs.Order.{Row}
use Rattle.sqlite_trees.specs.View.{View, IsClean, IsStorableRow}
use Rattle.enip_keep.specs.declared.entry.KeepError.{KeepError}
use Rattle.enip_keep.specs.Kept.{pair_of}
use Rattle.enip_keep_sqlite.specs.Causes.{IsRowCause}
use Rattle.enip_keep_sqlite.proofs.CauseLemmas.{row_cause}
use Rattle.enip_keep_sqlite.proofs.StorableLemmas.{storable_in}
use Rattle.enip_keep_sqlite.specs.Pairs.{row_of}
use Rattle.enip_keep_sqlite.proofs.write.put_one.Goals as goal

pub returns-clause-cause : goal.returns-clause-cause
returns-clause-cause g c clean =
    let old = g.S.Store.view c.args.store.now in
    let sure : IsClean old = omega (arith, clean, c.put.ensures.quiet.clean) in
    let stored : IsStorableRow (old.reals 0) c.in_ok-row.row =
    subst (IsStorableRow (old.reals 0)) (sym c.in_ok-row.ensures) (storable_in (old.reals 0) (pair_of c.args.entry.now) (c.requires.reals sure) c.requires.keepable.1) in
    subst (IsRowCause (IsTrue old.is_broken) ⊥ (g.S.Store.faults c.args.store.now) (g.S.Store.faults c.put.new.self)) (sym c.keep_error.ensures)
    (row_cause old ⊥ (¬ IsStorableRow (old.reals 0) c.in_ok-row.row) (g.S.Store.faults c.args.store.now) (g.S.Store.faults c.put.new.self) c.in-Err.error (λ un. un stored) (c.in-Err.ensures.cause clean))
