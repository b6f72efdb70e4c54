use Rattle.std.specs.Prelude.{if◌then◌else◌, nat_lt, ◌==◌, ◌+◌, ◌-◌, min, ℕ, List, [], ◌∷◌, ◌≡◌, ◌<◌, ◌≤◌, ◌++◌, ◌⊎◌}
use Rattle.std.specs.Prelude.{length, take, drop}
use Rattle.std.specs.List.{flat_map, AllByRecursion}
use Rattle.enip_wire.specs.declared.reader.FrameView.{FrameView}
use Rattle.enip_wire.specs.declared.reader.Held.{Held}
use Rattle.enip_wire.specs.declared.reader.Held.TheVariants.{More, Frame as Whole, TooLong}
use Rattle.enip_wire.specs.declared.header.Header.{Header}
use Rattle.cip_bytes.specs.Numbers.{number_at}
use Rattle.enip_wire.specs.Headers.{header_at}
use Rattle.enip_wire.specs.Frames.{Frame, frame, IsFrame, IsTooLong, IsComplete, end_after}

-- A stream is these frames, one after another, and a rest that does not begin with a frame. This speaks of the
-- whole stream, not of a buffer or pieces. (Volume 2, encapsulation over TCP.)
pub record Cut (stream : List ℕ) (frames : List Frame) (rest : List ℕ) : Type 0 where
  pub parts : stream ≡ flat_map frame frames ++ rest
  pub each : AllByRecursion IsFrame frames
  pub no_more : (f : Frame) (more : List ℕ) → IsFrame f → rest ≡ frame f ++ more → ⊥

-- No shorter prefix of these bytes is a whole frame or a too long header.
pub record IsAtMostOneFrame (held : List ℕ) : Type 0 where
  pub running : (k : ℕ) → k < length held → IsComplete (take k held) → ⊥

-- n is the least number of bytes of the piece that completes a frame or a too long header. If there is none, n is
-- the whole piece.
pub record Takes (held piece : List ℕ) (n : ℕ) : Type 0 where
  pub within : n ≤ length piece
  pub least : (k : ℕ) → k < n → IsComplete (held ++ take k piece) → ⊥
  pub ends : IsComplete (held ++ take n piece) ⊎ (n ≡ length piece)

-- A frame of the code, as one of the specification.
abbrev pub frame_of : FrameView → Frame
frame_of view = record { header = view.header; body = view.body.now }

-- What a reader shows of the bytes that it holds: a whole frame, a too long header, or neither.
abbrev pub Shows : List ℕ → Held → Type 0
Shows held More = IsComplete held → ⊥
Shows held (Whole view) = IsFrame (frame_of view) × (held ≡ frame (frame_of view))
Shows held (TooLong header) = IsTooLong held × (header ≡ header_at held)

-- The rest states the same by numbers alone, to compute with.

-- How many bytes of a piece are taken.
abbrev pub bytes_taken : List ℕ → List ℕ → ℕ
bytes_taken held piece =
    if nat_lt (length held + length piece) 24
    then length piece
    else min (end_after (number_at 2 2 (held ++ piece)) - length held) (length piece)

-- What bytes parse as.
pub data Parsed : Type 0 where
  Incomplete : Parsed
  WholeFrame : Frame → Parsed
  TooLongHeader : Header → Parsed

-- Parses bytes as a frame.
abbrev pub parsed : List ℕ → Parsed
parsed bytes =
    if nat_lt (length bytes) 24
    then Incomplete
    else if nat_lt 65511 (number_at 2 2 bytes)
    then TooLongHeader (header_at bytes)
    else if length bytes == 24 + number_at 2 2 bytes
    then WholeFrame (record { header = header_at bytes; body = drop 24 bytes })
    else Incomplete

-- What a reader shows, in the same form.
abbrev pub parsed_frame : Held → Parsed
parsed_frame More = Incomplete
parsed_frame (Whole view) = WholeFrame (frame_of view)
parsed_frame (TooLong header) = TooLongHeader header

-- What a reader holds of these bytes after it showed them: all of them, but nothing of a frame that was whole in
-- the piece, as that is lent from the piece.
abbrev pub held_after_parse : List ℕ → List ℕ → Parsed → List ℕ
held_after_parse held bytes Incomplete = bytes
held_after_parse held bytes (TooLongHeader h) = bytes
held_after_parse [] bytes (WholeFrame f) = []
held_after_parse (x ∷ xs) bytes (WholeFrame f) = bytes

-- The bytes that are held, and then those that are taken of a piece.
abbrev pub held_and_taken : List ℕ → List ℕ → List ℕ
held_and_taken held piece = held ++ take (bytes_taken held piece) piece

-- n bytes are taken of a piece if nothing is held, and they fit into a reader.
pub record IsTakenFirst (piece : List ℕ) (n : ℕ) : Type 0 where
  pub takes : Takes [] piece n
  pub number : n ≡ bytes_taken [] piece
  pub bound : n ≤ 65535

-- What a reader of these bytes holds after `next` with a piece.
abbrev pub held_after_next : List ℕ → List ℕ → List ℕ
held_after_next held piece = held_after_parse held (held_and_taken held piece) (parsed (held_and_taken held piece))

-- What is held of these bytes after a frame that was shown is cleared.
abbrev pub cleared : Parsed → List ℕ → List ℕ
cleared Incomplete bytes = bytes
cleared (WholeFrame f) bytes = []
cleared (TooLongHeader h) bytes = bytes
