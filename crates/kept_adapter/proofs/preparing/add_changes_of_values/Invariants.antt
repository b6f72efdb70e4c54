use Rattle.std.proofs.Common.{◌≡◌, ◌++◌, drop}
use Rattle.std.specs.Prelude.{All}
use Rattle.enip_keep.specs.Kept.{IsKeepable, pairs_of}
use Rattle.kept_adapter.specs.Preparing.{changes_of_values}
use Rattle.kept_adapter.proofs.preparing.add_changes_of_values.Given as goal

abbrev pub invariant-loop-value : goal.invariant-loop-value
invariant-loop-value l =
    (pairs_of l.changes.items
    ++ changes_of_values l.config l.wishes (pairs_of l.entries) (pairs_of (drop l.value-index l.values))
    ≡ pairs_of l.fn.changes.items ++ changes_of_values l.config l.wishes (pairs_of l.entries) (pairs_of l.values))
    × All IsKeepable l.changes.items
