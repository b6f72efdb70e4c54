use Rattle.std.proofs.Common.{arith}
use Rattle.cip_manager.proofs.DeadlineLemmas.{earliest_deadline-more}
use Rattle.cip_manager.proofs.table.Table.deadline.Goals as goal

pub loop-position-preserved : goal.loop-position-preserved
loop-position-preserved c =
    earliest_deadline-more c.args.self.now.connections c.loop-position.position c.at.result.now c.loop-position.earliest c.earlier.result
    (omega arith) (c.at.ensures c.at.result.now) c.loop-position.invariant c.earlier.ensures
