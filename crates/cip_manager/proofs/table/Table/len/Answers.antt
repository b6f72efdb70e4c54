use Rattle.std.proofs.Common.{length, ap, sym, ◌∙◌}
use Rattle.cip_manager.proofs.SlotLemmas.{length-listed}
use Rattle.cip_manager.proofs.table.Table.len.Goals as goal

-- an entry for each connection
pub returns-clause-count : goal.returns-clause-count
returns-clause-count c =
    c.len.ensures.count ∙ (sym (length-listed c.self.inside.connections c.self.inside.index c.self.invariant.named) ∙ ap (λ t. length t.connections) c.self.view_is)
