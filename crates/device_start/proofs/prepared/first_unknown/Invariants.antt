use Rattle.std.proofs.Common.{◌≡◌, drop}
use Rattle.enip_keep.specs.Kept.{pairs_of}
use Rattle.device_start.specs.Preparing.{first_unknown}
use Rattle.device_start.proofs.prepared.first_unknown.Given as goal

abbrev pub invariant-loop-key : goal.invariant-loop-key
invariant-loop-key l =
    first_unknown (pairs_of l.values) (drop l.key-index l.keys) ≡ first_unknown (pairs_of l.values) l.keys
