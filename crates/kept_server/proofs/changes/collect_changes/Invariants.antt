use Rattle.std.proofs.Common.{take}
use Rattle.enip_keep.specs.Kept.{pairs_of}
use Rattle.kept_server.specs.Changes.{AreChanges}
use Rattle.kept_server.proofs.changes.collect_changes.Given as goal

abbrev pub invariant-loop-index : goal.invariant-loop-index
invariant-loop-index l =
    AreChanges (pairs_of (take l.index l.kept)) (pairs_of (take l.index l.current)) (pairs_of l.changed.items)
