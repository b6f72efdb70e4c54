use Rattle.std.proofs.Common.{◌≡◌, drop}
use Rattle.enip_keep.specs.Kept.{pairs_of}
use Rattle.kept_adapter.specs.Origins.{kept_at}
use Rattle.kept_adapter.proofs.origins.kept_at.Given as goal

abbrev pub invariant-loop-entry : goal.invariant-loop-entry
invariant-loop-entry l =
    kept_at l.key (pairs_of (drop l.entry-index l.entries)) ≡ kept_at l.key (pairs_of l.entries)
