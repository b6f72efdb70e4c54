use Rattle.std.proofs.Common.{rules, ◌≡◌, List, [], Some, ap, sym, subst, ◌∙◌}
use Rattle.sqlite_value.specs.Order.{Row}
use Rattle.sqlite_trees.specs.Tree.{order_of, from_key}
use Rattle.sqlite_trees.specs.View.{View}
use Rattle.enip_keep_sqlite.proofs.RowsLemmas.{from_nothing}
use Rattle.enip_keep_sqlite.proofs.read.start.Goals as goal

pub returns-in-Ok-clause-ok : goal.returns-in-Ok-clause-ok
returns-in-Ok-clause-ok g c clean =
    let v = g.S.Store.view c.args.store.now in
    ap (λ (w : View). w.cursors 0) (c.in-Ok.ensures.ok clean) ∙ ap (λ (key : Row). Some (from_key (order_of (v.shape 0)) key (v.trees 0))) c.new-first.ensures ∙ ap Some (from_nothing (order_of (v.shape 0)) (v.trees 0))
