use Rattle.std.proofs.Common.{◌≡◌, ◌++◌, drop}
use Rattle.enip_keep.specs.Kept.{pairs_of}
use Rattle.kept_adapter.specs.Hindrances.{without_service}
use Rattle.kept_adapter.proofs.hindrances.add_without_service.Given as goal

abbrev pub invariant-loop-entry : goal.invariant-loop-entry
invariant-loop-entry l =
    l.all.items ++ without_service l.config (pairs_of (drop l.entry-index l.entries))
    ≡ l.fn.all.items ++ without_service l.config (pairs_of l.entries)
