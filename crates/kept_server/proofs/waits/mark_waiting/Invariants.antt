use Rattle.std.proofs.Common.{◌≡◌, take}
use Rattle.enip_keep.specs.Kept.{pairs_of}
use Rattle.kept_server.specs.Changes.{waiting_for}
use Rattle.kept_server.proofs.waits.mark_waiting.Given as goal

abbrev pub invariant-loop-entry : goal.invariant-loop-entry
invariant-loop-entry l = l.marks.items ≡ waiting_for l.keys (pairs_of (take l.entry-index l.entries))
