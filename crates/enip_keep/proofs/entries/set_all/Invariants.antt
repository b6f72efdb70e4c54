use Rattle.std.proofs.Common.{◌≡◌, drop}
use Rattle.enip_keep.specs.Kept.{pairs_of, set_all}
use Rattle.enip_keep.proofs.entries.set_all.Given as goal

-- the changes that are left lead to all of them
abbrev pub invariant-loop-change : goal.invariant-loop-change
invariant-loop-change l =
    set_all (pairs_of (drop l.change-index l.changes)) (pairs_of l.entries.items)
    ≡ set_all (pairs_of l.changes) (pairs_of l.fn.entries.items)
