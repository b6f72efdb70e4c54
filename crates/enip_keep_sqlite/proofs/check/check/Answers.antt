use Rattle.std.proofs.Common.{rules, ◌≡◌, IsTrue, arith}
use Rattle.sqlite_trees.specs.View.{IsClean}
use Rattle.sqlite_trees.specs.declared.store.Shape.TheVariants as kinds
use Rattle.enip_keep_sqlite.proofs.RowsLemmas.{at_rest}
use Rattle.enip_keep_sqlite.proofs.check.check.Goals as goal

pub returns-clause-rest : goal.returns-clause-rest
returns-clause-rest g c clean =
    let old = g.S.Store.view c.args.store.now in
    let sure : IsClean old = omega (arith, clean, c.read_all.ensures.calm.clean) in
    let shape : old.shape 0 ≡ kinds.Table = search rules in
    let reals : old.reals 0 ≡ 0 = search rules in
    at_rest old (g.S.Store.view c.read_all.new.store) c.in_ok-read_all.field-0.items (c.in_ok-read_all.ensures.looks clean) (c.in_ok-read_all.ensures.sound clean) (g.met.S.Store.broken_if_shut c.args.store.now) (c.requires.same sure) shape reals (c.in_ok-read_all.ensures.rows clean)
