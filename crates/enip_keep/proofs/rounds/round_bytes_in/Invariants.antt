use Rattle.std.proofs.Common.{◌≡◌, drop}
use Rattle.enip_keep.specs.Kept.{pairs_of}
use Rattle.enip_keep.specs.Rounds.{round_bytes_in}
use Rattle.enip_keep.proofs.rounds.round_bytes_in.Given as goal

-- no entry so far is that of the round
abbrev pub invariant-loop-entry : goal.invariant-loop-entry
invariant-loop-entry l =
    round_bytes_in (pairs_of (drop l.entry-index l.entries)) ≡ round_bytes_in (pairs_of l.entries)
