-- Where a frame ends in a stream that is given out piece by piece. A frame has a header of 24 bytes, whose bytes 2 and 3
-- are the length of the data that follow it, the low byte first.
use Rattle.std.specs.Prelude.{ℕ, ◌+◌, ◌-◌, ◌*◌, ◌^◌, min, nat_lt, nat_le, if◌then◌else◌, List, length, slice_get, unwrap_or, Option, Some, None}
use Rattle.std.specs.Option.{option_and_then}
use Rattle.enip_server.specs.declared.frame_cursor.FrameCursor.{FrameCursor}

-- Nothing of the frame was given out.
abbrev pub start_of_frame : FrameCursor
start_of_frame = record { given = 0; low = 0; high = 0 }

abbrev pub size_of : ℕ → ℕ → ℕ
size_of low high = 24 + low + 256 * high

-- The two bytes of the length, each if it was given out or is among the bytes that come next.
abbrev pub low_in : FrameCursor → List ℕ → Option ℕ
low_in c bytes = if nat_lt 2 c.given then Some c.low else slice_get bytes (2 - c.given)

abbrev pub high_in : FrameCursor → List ℕ → Option ℕ
high_in c bytes = if nat_lt 3 c.given then Some c.high else slice_get bytes (3 - c.given)

-- How many of the bytes that come next are up to the end of the frame, if it ends in them.
abbrev pub end_at : ℕ → List ℕ → Option ℕ
end_at left bytes = if nat_le left (length bytes) then Some left else None

abbrev pub end_by : FrameCursor → List ℕ → Option ℕ → Option ℕ → Option ℕ
end_by c bytes None high = None
end_by c bytes (Some low) None = None
end_by c bytes (Some low) (Some high) = end_at (size_of low high - c.given) bytes

abbrev pub frame_end : FrameCursor → List ℕ → Option ℕ
frame_end c bytes = end_by c bytes (low_in c bytes) (high_in c bytes)

-- After these bytes were given out.
abbrev pub given_further : FrameCursor → List ℕ → FrameCursor
given_further c bytes = record {
  given = min (c.given + length bytes) (2 ^ 64 - 1);
  low = unwrap_or (low_in c bytes) 0;
  high = unwrap_or (high_in c bytes) 0;
}
