use Rattle.std.proofs.Common.{ap, sym, ◌∙◌, ◌||◌, get_or, arith}
use Rattle.std.proofs.lemmas.List.Folds.{list_any_at, list_any_more}
use Rattle.cip_manager.specs.Table.{is_in}
use Rattle.cip_manager.proofs.table.Table.has_any.Goals as goal

pub returns-then-has : goal.returns-then-has
returns-then-has c =
    let found = ap (is_in c.args.selection.now) (sym (c.at.ensures c.at.result.now)) ∙ (sym c.has.ensures ∙ c.if-has.true) in
    sym (list_any_at (is_in c.args.selection.now) c.args.self.now.connections c.loop-position.position c.at.result.now (omega arith) found)

pub loop-position-preserved : goal.loop-position-preserved
loop-position-preserved c =
    let none = ap (is_in c.args.selection.now) (sym (c.at.ensures c.at.result.now)) ∙ (sym c.has.ensures ∙ c.if-has.false) in
    list_any_more (is_in c.args.selection.now) c.args.self.now.connections c.loop-position.position c.at.result.now (omega arith)
    ∙ (ap (λ b. b || is_in c.args.selection.now (get_or c.args.self.now.connections c.loop-position.position c.at.result.now)) c.loop-position.invariant ∙ none)
