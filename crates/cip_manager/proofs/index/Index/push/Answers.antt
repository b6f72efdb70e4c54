use Rattle.std.proofs.Common.{◌<◌, subst, sym}
use Rattle.std.specs.List.{AllByRecursion}
use Rattle.cip_manager.specs.Index.{ids, Rises}
use Rattle.cip_manager.proofs.IndexLemmas.{Rises-push}
use Rattle.cip_manager.proofs.index.Index.push.Goals as goal

pub invariant_of-self : goal.invariant_of-self
invariant_of-self c =
    subst (λ entries. Rises (ids entries)) (sym c.push.ensures.items)
    (
    Rises-push c.self.inside.entries.items (record { id = c.args.id; key = c.args.key }) c.self.invariant
    (subst (λ entries. AllByRecursion (λ other. other < c.args.id) (ids entries)) (sym c.self.view_is) c.requires.above)
    )
