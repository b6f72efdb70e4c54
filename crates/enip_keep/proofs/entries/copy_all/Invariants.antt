use Rattle.std.proofs.Common.{◌≡◌, ◌++◌, take}
use Rattle.enip_keep.specs.Kept.{pairs_of}
use Rattle.enip_keep.proofs.entries.copy_all.Given as goal

-- copies of the entries so far
abbrev pub invariant-loop-entry : goal.invariant-loop-entry
invariant-loop-entry l =
    pairs_of l.into.items ≡ pairs_of l.fn.into.items ++ pairs_of (take l.entry-index l.entries)
