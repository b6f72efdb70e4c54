use Rattle.std.proofs.Common.{◌≡◌, ◌++◌, List, ℕ, take, drop}
use Rattle.enip_keep.specs.Kept.{pairs_of, set}
use Rattle.enip_keep.proofs.entries.index_of.Given as goal

-- the keys so far are below this one
abbrev pub invariant-loop-index : goal.invariant-loop-index
invariant-loop-index l =
    (bytes : List ℕ) → set l.key bytes (pairs_of l.entries)
    ≡ pairs_of (take l.index l.entries) ++ set l.key bytes (pairs_of (drop l.index l.entries))
