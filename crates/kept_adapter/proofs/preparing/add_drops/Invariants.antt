use Rattle.std.proofs.Common.{◌≡◌, ◌++◌, drop}
use Rattle.std.specs.Prelude.{All}
use Rattle.enip_keep.specs.Kept.{IsKeepable, pairs_of}
use Rattle.kept_adapter.specs.Preparing.{drops}
use Rattle.kept_adapter.proofs.preparing.add_drops.Given as goal

abbrev pub invariant-loop-entry : goal.invariant-loop-entry
invariant-loop-entry l =
    (pairs_of l.changes.items ++ drops (pairs_of (drop l.entry-index l.entries))
    ≡ pairs_of l.fn.changes.items ++ drops (pairs_of l.entries))
    × All IsKeepable l.changes.items
