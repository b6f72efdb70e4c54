use Rattle.std.proofs.Common.{◌≡◌, ◌++◌, drop}
use Rattle.enip_keep.specs.Kept.{pairs_of}
use Rattle.kept_adapter.specs.Hindrances.{disallowed}
use Rattle.kept_adapter.proofs.hindrances.add_disallowed.Given as goal

abbrev pub invariant-loop-value : goal.invariant-loop-value
invariant-loop-value l =
    l.all.items ++ disallowed l.config (pairs_of l.entries) (pairs_of (drop l.value-index l.values))
    ≡ l.fn.all.items ++ disallowed l.config (pairs_of l.entries) (pairs_of l.values)
