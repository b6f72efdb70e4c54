-- When a read of a socket has read all there is.
use Rattle.std.specs.Prelude.{ℕ, ◌≡◌, ◌<◌, ◌≤◌, ◌⊎◌, ⊤}
use Rattle.enip_server.specs.declared.wire.ReadOutcome.{ReadOutcome}
use Rattle.enip_server.specs.declared.wire.ReadOutcome.TheVariants.{Bytes, Drained, WouldBlock, End, Failed}

-- A read that fills its buffer may leave bytes behind, and one that is shorter than a header is not relied on. Any other
-- read has read all there is.
abbrev pub IsDrainedOnlyIfShort : ℕ → ReadOutcome → Type 0
IsDrainedOnlyIfShort capacity (Bytes size) = (size ≡ capacity) ⊎ (size < 24)
IsDrainedOnlyIfShort capacity (Drained size) = (size < capacity) × (24 ≤ size)
IsDrainedOnlyIfShort capacity WouldBlock = ⊤
IsDrainedOnlyIfShort capacity End = ⊤
IsDrainedOnlyIfShort capacity Failed = ⊤
