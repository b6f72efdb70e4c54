use Rattle.std.proofs.Common.{◌≡◌, ◌≤◌, length, take}
use Rattle.std.specs.Prelude.{filter}
use Rattle.cip_manager.specs.Table.{is_in}
use Rattle.cip_manager.proofs.table.Table.count.Given as goal

-- it counts those so far
abbrev pub invariant-loop-position : goal.invariant-loop-position
invariant-loop-position l =
    (l.count ≡ length (filter (is_in l.selection) (take l.position l.self.connections))) × (l.count ≤ l.position)
