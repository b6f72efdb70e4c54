use Rattle.std.proofs.Common.{get_or, ap, subst, sym, ◌∙◌}
use Rattle.slab.specs.Slab.{ContainsKey}
use Rattle.cip_manager.proofs.SlotLemmas.{within, has-key, listed-at}
use Rattle.cip_manager.proofs.table.Table.at.Goals as goal

pub key-requires : goal.key-requires
key-requires c =
    within c.self.inside.connections c.self.inside.index c.args.self.now.connections c.args.position c.self.invariant.named (ap (λ t. t.connections) c.self.view_is) c.requires

pub at-requires : goal.at-requires
at-requires c =
    let inside = within c.self.inside.connections c.self.inside.index c.args.self.now.connections c.args.position c.self.invariant.named (ap (λ t. t.connections) c.self.view_is) c.requires in
    subst (ContainsKey c.self.inside.connections) (sym c.key.ensures.key)
    (has-key c.self.inside.connections c.self.inside.index c.args.position c.self.invariant.named inside)

pub returns : goal.returns
returns c = λ d.
    let inside = within c.self.inside.connections c.self.inside.index c.args.self.now.connections c.args.position c.self.invariant.named (ap (λ t. t.connections) c.self.view_is) c.requires in
    sym (listed-at c.self.inside.connections c.self.inside.index c.args.position c.key.result c.at.result.now d c.self.invariant.named inside c.key.ensures.key c.at.ensures)
    ∙ ap (λ t. get_or t.connections c.args.position d) c.self.view_is
