use Rattle.std.proofs.Common.{◌≡◌, not}
use Rattle.cip_manager.specs.Table.{is_in}
use Rattle.cip_manager.proofs.WalkLemmas.{IsKeptFrom}
use Rattle.cip_manager.proofs.table.Table.end.Given as goal

-- from the position on, those that are not selected are kept
abbrev pub invariant-loop-position : goal.invariant-loop-position
invariant-loop-position l =
    (l.self.places ≡ l.fn.self.places)
    × IsKeptFrom (λ c. not (is_in l.selection c)) l.fn.self.connections l.self.connections l.position
