use Rattle.std.proofs.Common.{◌+◌, ◌≤◌, length, ap, subst, sym, ◌∙◌}
use Rattle.std.specs.Prelude.{is_some}
use Rattle.std.specs.List.{list_any}
use Rattle.cip_manager.specs.Connection.{has_id}
use Rattle.cip_manager.specs.Index.{binary_digits}
use Rattle.cip_manager.specs.Table.{listed}
use Rattle.cip_manager.proofs.SlotLemmas.{length-listed}
use Rattle.cip_manager.proofs.FindLemmas.{found-listed, is_some-position}
use Rattle.cip_manager.proofs.table.Table.find.Goals as goal

-- the entries' IDs are those of the connections
pub returns-clause-found : goal.returns-clause-found
returns-clause-found c =
    let cs = listed c.self.inside.connections c.self.inside.index in
    c.is_some.ensures
    ∙ (ap is_some (sym (found-listed c.self.inside.connections c.self.inside.index c.args.id c.position_of.result c.self.invariant.named c.position_of.ensures.found))
    ∙ (sym (is_some-position (has_id c.args.id) cs) ∙ ap (λ t. list_any (has_id c.args.id) t.connections) c.self.view_is))

pub returns-clause-bound : goal.returns-clause-bound
returns-clause-bound c =
    subst (λ n. c.position_of.new.steps.count ≤ c.args.steps.now.count + binary_digits n)
    (sym (length-listed c.self.inside.connections c.self.inside.index c.self.invariant.named) ∙ ap (λ t. length t.connections) c.self.view_is)
    c.position_of.ensures.bound
