-- What the calls of a wire do to the bytes that are left to read and those that were written, if they are known, and to
-- the counts of how they went.
use Rattle.std.specs.Prelude.{Bool, true, false, ℕ, zero, suc, ◌+◌, ◌%◌, ◌^◌, ◌≡◌, ◌<◌, ◌≤◌, List, [], take, length, Option, Some, None}
use Rattle.std.specs.Io.KnownBytes.{Consumes, Keeps, IsAtEnd}
use Rattle.enip_server.specs.declared.wire_counts.WireCounts.{WireCounts}
use Rattle.enip_server.specs.declared.wire.ReadOutcome.{ReadOutcome}
use Rattle.enip_server.specs.declared.wire.ReadOutcome.TheVariants.{Bytes, Drained, WouldBlock, End, Failed}

-- What a wire knows of its calls: the size of the slice that its last read was given, and whether its writing side was
-- shut down. A wire that holds back what is written to it also knows the bytes that it released, which no call of a wire
-- changes.
pub record KnownCalls : Type 0 where
  pub asked : ℕ
  pub is_shut : Bool
  pub released : Option (List ℕ)

-- After a read into a slice of this size, and after the writing side was shut down.
abbrev pub with_asked : ℕ → KnownCalls → KnownCalls
with_asked size known = record known { asked = size }

abbrev pub with_shut : KnownCalls → KnownCalls
with_shut known = record known { is_shut = true }

-- What a read does.
abbrev pub IsRead : Option (List ℕ) → Option (List ℕ) → ReadOutcome → List ℕ → Type 0
IsRead before after (Bytes size) into = (0 < size) × (size ≤ length into) × Consumes before after (take size into)
IsRead before after (Drained size) into = (0 < size) × (size ≤ length into) × Consumes before after (take size into)
IsRead before after WouldBlock into = Keeps before after
IsRead before after End into = Keeps before after × IsAtEnd after
IsRead before after Failed into = Keeps before after

-- The read gave bytes.
abbrev pub has_given : ReadOutcome → Bool
has_given (Bytes size) = true
has_given (Drained size) = true
has_given WouldBlock = false
has_given End = false
has_given Failed = false

-- The number of bytes that a write took.
abbrev pub size_taken : Option ℕ → ℕ
size_taken (Some size) = size
size_taken None = 0

-- A read that gives bytes gives at least one. Any other gives none.
abbrev pub AreReadBy : ReadOutcome → List ℕ → Type 0
AreReadBy (Bytes size) bytes = (0 < length bytes) × (length bytes ≡ size)
AreReadBy (Drained size) bytes = (0 < length bytes) × (length bytes ≡ size)
AreReadBy WouldBlock bytes = bytes ≡ []
AreReadBy End bytes = bytes ≡ []
AreReadBy Failed bytes = bytes ≡ []

-- One more, modulo 2^64.
abbrev pub one_more : ℕ → ℕ
one_more n = (n + 1) % 2 ^ 64

-- A read is counted, and so is its outcome: that the wire was drained, that it would have blocked, or that the stream
-- is over.
abbrev pub after_read : ReadOutcome → WireCounts → WireCounts
after_read (Bytes size) t = record t { reads = one_more t.reads }
after_read (Drained size) t = record t { reads = one_more t.reads; drained = one_more t.drained }
after_read WouldBlock t = record t {
  reads = one_more t.reads;
  drained = one_more t.drained;
  waits = one_more t.waits;
}
after_read End t = record t { reads = one_more t.reads; ends = one_more t.ends }
after_read Failed t = record t { reads = one_more t.reads; ends = one_more t.ends }

-- A write is counted if it took nothing: it would have blocked, or it failed.
abbrev pub after_write : Option ℕ → WireCounts → WireCounts
after_write None t = record t { ends = one_more t.ends }
after_write (Some zero) t = record t { waits = one_more t.waits }
after_write (Some (suc n)) t = t
