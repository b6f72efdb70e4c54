use Rattle.std.proofs.Common.{◌≡◌, All, take}
use Rattle.enip_keep.specs.Kept.{pairs_of, IsKeepable}
use Rattle.enip_keep.proofs.rounds.with_entry.Given as goal

-- copies of the changes so far
abbrev pub invariant-loop-change : goal.invariant-loop-change
invariant-loop-change l =
    (pairs_of l.all.items ≡ pairs_of (take l.change-index l.changes)) × All IsKeepable l.all.items
