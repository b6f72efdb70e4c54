use Rattle.std.proofs.Common.{◌≡◌, take, fold}
use Rattle.saved_state.specs.Checksum.{hashed}
use Rattle.saved_state.proofs.fnv.checksum_more.Given as goal

abbrev pub invariant-loop-byte : goal.invariant-loop-byte
invariant-loop-byte l = l.hash ≡ fold hashed l.earlier (take l.byte-index l.bytes)
