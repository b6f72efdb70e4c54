use Rattle.std.proofs.Common.{◌≡◌, ℕ, ◌≤◌, List, length, Some, refl}
use Rattle.std.proofs.lemmas.Bool.{le-leb}
use Rattle.byteorder.specs.Endian.{little_number}
use Rattle.cip_objects.specs.Contents.{Contents, value_at, udint_at}
use Rattle.enip_replay.specs.Outcome.{counter_number}

-- An attribute of the counter with four bytes or more.
pub counter_number-known : (m : Contents) (attribute : ℕ) (bytes : List ℕ) → Some bytes ≡ value_at m 100 1 attribute → 4 ≤ length bytes
    → little_number 4 bytes ≡ counter_number m attribute
unfolding udint_at
counter_number-known m attribute bytes known long = rw (← known, le-leb 4 (length bytes) long) refl
