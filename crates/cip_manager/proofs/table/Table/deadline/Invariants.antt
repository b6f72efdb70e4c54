use Rattle.std.proofs.Common.{◌≡◌, take}
use Rattle.cip_manager.specs.Connection.{earliest_deadline}
use Rattle.cip_manager.proofs.table.Table.deadline.Given as goal

-- it is the earliest of those so far
abbrev pub invariant-loop-position : goal.invariant-loop-position
invariant-loop-position l = l.earliest ≡ earliest_deadline (take l.position l.self.connections)
