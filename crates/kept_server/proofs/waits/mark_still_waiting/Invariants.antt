use Rattle.std.proofs.Common.{◌≡◌, ◌++◌, drop}
use Rattle.enip_keep.specs.Kept.{pairs_of}
use Rattle.kept_server.specs.Changes.{still_waiting}
use Rattle.kept_server.proofs.waits.mark_still_waiting.Given as goal

abbrev pub invariant-loop-index : goal.invariant-loop-index
invariant-loop-index l =
    l.marks.items ++ still_waiting (drop l.index l.waits) (pairs_of (drop l.index l.old)) (pairs_of (drop l.index l.new))
    ≡ still_waiting l.waits (pairs_of l.old) (pairs_of l.new)
