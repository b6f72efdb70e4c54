use Rattle.std.proofs.Common.{subst, sym}
use Rattle.cip_manager.specs.Table.{AreOpenUntil}
use Rattle.cip_manager.proofs.DeadlineLemmas.{none-overdue}
use Rattle.cip_manager.proofs.table.Table.expire.Goals as goal

-- before the earliest deadline none is overdue
pub returns-then-now-self-clause-ended : goal.returns-then-now-self-clause-ended
returns-then-now-self-clause-ended c =
    let until = subst (λ t. AreOpenUntil c.self.inside.earliest t.connections) c.self.view_is c.self.invariant.until in
    let all = none-overdue c.args.now c.self.inside.earliest c.args.self.now.connections c.if-now-self.true until in
    λ j. record { places = c.args.self.now.places; connections = sym all j }
