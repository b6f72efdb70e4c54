use Rattle.std.proofs.Common.{subst, sym}
use Rattle.cip_manager.specs.Index.{ids, Rises}
use Rattle.cip_manager.proofs.IndexLemmas.{Rises-remove}
use Rattle.cip_manager.proofs.index.Index.remove.Goals as goal

pub invariant_of-self : goal.invariant_of-self
invariant_of-self c =
    subst (λ entries. Rises (ids entries)) (sym c.remove.ensures.items) (Rises-remove c.self.inside.entries.items c.args.position c.self.invariant)
