use Rattle.std.proofs.Common.{◌≡◌, ◌++◌, drop}
use Rattle.enip_keep.specs.Kept.{pairs_of}
use Rattle.kept_server.specs.Changes.{without_waiting}
use Rattle.kept_server.proofs.waits.copy_without_waiting.Given as goal

abbrev pub invariant-loop-index : goal.invariant-loop-index
invariant-loop-index l =
    pairs_of l.copies.items ++ without_waiting (drop l.index l.waits) (pairs_of (drop l.index l.entries))
    ≡ without_waiting l.waits (pairs_of l.entries)
