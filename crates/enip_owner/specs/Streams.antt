-- The lines of a stream of bytes.
use Rattle.std.specs.Prelude.{◌≡◌, ℕ, ◌==◌, nat_lt, if◌then◌else◌, Bool, true, false, List, [], ◌∷◌, ◌++◌, length, map}
use Rattle.enip_owner.specs.declared.line_buffer.TheConstants.{LINE_LIMIT}
use Rattle.enip_owner.specs.declared.line_buffer.LineOutcome.{LineOutcome}
use Rattle.enip_owner.specs.declared.line_buffer.LineOutcome.TheVariants.{Unfinished, Whole, TooLong}

-- ---- the lines of a stream

-- A byte, and then the first of these texts. If none of them has ended, the text of the byte has not ended either.
abbrev pub in_first : ℕ → List (List ℕ) → List (List ℕ)
in_first byte [] = []
in_first byte (text ∷ texts) = (byte ∷ text) ∷ texts

-- The texts that have ended, each with a newline. What follows the last newline is not one of them.
unfoldable pub ended_texts : List ℕ → List (List ℕ)
ended_texts [] = []
ended_texts (byte ∷ bytes) = if byte == 10 then [] ∷ ended_texts bytes else in_first byte (ended_texts bytes)

-- A line: its text, or nothing but that it is too long.
pub data StreamLine : Type 0 where
  Line : (text : List ℕ) → StreamLine
  LongLine : StreamLine

-- A text of more than 64 KiB is too long.
abbrev pub line_of : List ℕ → StreamLine
line_of text = if nat_lt LINE_LIMIT (length text) then LongLine else Line text

-- The lines of a stream.
abbrev pub lines_of : List ℕ → List StreamLine
lines_of bytes = map line_of (ended_texts bytes)

-- ---- a stream that is taken piece by piece

-- A line of a stream: its bytes so far, none if it is too long, and whether it has ended.
pub record BufferedLine : Type 0 where
  pub text : List ℕ
  pub is_long : Bool
  pub has_ended : Bool

abbrev pub no_line : BufferedLine
no_line = record { text = []; is_long = false; has_ended = false }

-- The line that the next byte is part of.
abbrev pub begun : BufferedLine → BufferedLine
begun line = if line.has_ended then no_line else line

-- The line, too long, without its bytes.
abbrev pub overlong : BufferedLine → BufferedLine
overlong line = record line { text = []; is_long = true }

-- The line with one more byte.
abbrev pub with_byte : BufferedLine → ℕ → BufferedLine
with_byte line byte =
    if line.is_long then line
    else if nat_lt (length line.text) LINE_LIMIT then record line { text = line.text ++ byte ∷ [] } else overlong line

abbrev pub with_bytes : BufferedLine → List ℕ → BufferedLine
with_bytes line [] = line
with_bytes line (byte ∷ bytes) = with_bytes (with_byte line byte) bytes

-- The line once it has ended.
abbrev pub closed : BufferedLine → BufferedLine
closed line = record line { has_ended = true }

abbrev pub ended_line : BufferedLine → StreamLine
ended_line line = if line.is_long then LongLine else Line line.text

-- The lines that end in these bytes, which follow the bytes of a line that has not ended.
unfoldable pub lines_after : BufferedLine → List ℕ → List StreamLine
lines_after line [] = []
lines_after line (byte ∷ bytes) =
    if byte == 10 then ended_line line ∷ lines_after no_line bytes else lines_after (with_byte line byte) bytes

-- The line that these bytes leave.
unfoldable pub line_after : BufferedLine → List ℕ → BufferedLine
line_after line [] = line
line_after line (byte ∷ bytes) = if byte == 10 then line_after no_line bytes else line_after (with_byte line byte) bytes

-- The lines that end in the pieces of a stream, one piece after the other.
abbrev pub lines_of_pieces : BufferedLine → List (List ℕ) → List StreamLine
lines_of_pieces line [] = []
lines_of_pieces line (piece ∷ pieces) = lines_after line piece ++ lines_of_pieces (line_after line piece) pieces

-- ---- what one call takes

-- What the end of a line leads to, by whether it is too long.
abbrev pub outcome_of : Bool → LineOutcome
outcome_of true = TooLong
outcome_of false = Whole

-- The line that has ended, if one has.
abbrev pub lines_in : LineOutcome → BufferedLine → List StreamLine
lines_in Unfinished line = []
lines_in Whole line = Line line.text ∷ []
lines_in TooLong line = LongLine ∷ []

-- The bytes were taken up to `rest`. The lines that end in them are the one that has ended, and those that end in `rest`.
pub record IsFed (old : BufferedLine) (bytes : List ℕ) (outcome : LineOutcome) (rest : List ℕ) (new : BufferedLine) : Type 0 where
  pub lines : lines_after (begun old) bytes ≡ lines_in outcome new ++ lines_after (begun new) rest
  pub left : line_after (begun old) bytes ≡ line_after (begun new) rest
  pub unfinished : outcome ≡ Unfinished → rest ≡ []
