use Rattle.std.proofs.Common.{◌≡◌, take}
use Rattle.enip_keep.specs.Kept.{pairs_of}
use Rattle.kept_server.proofs.changes.copy_all.Given as goal

abbrev pub invariant-loop-entry : goal.invariant-loop-entry
invariant-loop-entry l = pairs_of l.copies.items ≡ pairs_of (take l.entry-index l.entries)
