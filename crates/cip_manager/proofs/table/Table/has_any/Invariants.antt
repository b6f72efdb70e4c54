use Rattle.std.proofs.Common.{◌≡◌, false, take}
use Rattle.std.specs.List.{list_any}
use Rattle.cip_manager.specs.Table.{is_in}
use Rattle.cip_manager.proofs.table.Table.has_any.Given as goal

-- none so far is selected
abbrev pub invariant-loop-position : goal.invariant-loop-position
invariant-loop-position l = list_any (is_in l.selection) (take l.position l.self.connections) ≡ false
