use Rattle.std.proofs.Common.{◌≡◌, ◌++◌, take}
use Rattle.std.specs.List.{flat_map}
use Rattle.byteorder.specs.Endian.{little_bytes}
use Rattle.saved_state.specs.Checksum.{checksum}
use Rattle.enip_keep.specs.Kept.{pairs_of}
use Rattle.enip_keep.specs.Rounds.{entry_bytes}
use Rattle.enip_keep.proofs.rounds.checksum_of.Given as goal

-- the checksum of the entries so far
abbrev pub invariant-loop-entry : goal.invariant-loop-entry
invariant-loop-entry l =
    l.sum ≡ checksum (little_bytes 8 l.round ++ flat_map entry_bytes (pairs_of (take l.entry-index l.entries)))
