-- The item of a class 3 connection: a sequence count and a message (Volume 2, connected data item).
use Rattle.std.specs.Prelude.{◌≢◌, ℕ, List, [], ◌∷◌, ◌++◌, drop}
use Rattle.cip_bytes.specs.Numbers.{le, number_at}

-- A sequence count in two bytes, least first, then a request or a reply.
abbrev pub item : ℕ → List ℕ → List ℕ
item sequence_count message = le 2 sequence_count ++ message

abbrev pub sequence_count_of : List ℕ → ℕ
sequence_count_of bytes = number_at 0 2 bytes

abbrev pub message_of : List ℕ → List ℕ
message_of bytes = drop 2 bytes

-- No two neighboring counts are the same.
abbrev pub NeighboursDiffer : List ℕ → Type 0
NeighboursDiffer [] = Unit {0}
NeighboursDiffer (sequence_count ∷ []) = Unit {0}
NeighboursDiffer (sequence_count ∷ next ∷ counts) = (sequence_count ≢ next) × NeighboursDiffer (next ∷ counts)
