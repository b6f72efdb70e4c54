use Rattle.std.specs.Prelude.{if◌then◌else◌, nat_lt, ◌+◌, ℕ, List, ◌≡◌, ◌<◌, ◌≤◌, ◌++◌, ◌⊎◌, length}
use Rattle.enip_wire.specs.declared.header.Header.{Header}
use Rattle.cip_bytes.specs.Numbers.{number_at}
use Rattle.enip_wire.specs.Headers.{header_spelling, IsHeader}

-- A message of the encapsulation: a header and the data that follow it. (Volume 2, encapsulation message.)
pub record Frame : Type 0 where
  pub header : Header
  pub body : List ℕ

-- The bytes of a frame.
abbrev pub frame : Frame → List ℕ
frame f = header_spelling f.header ++ f.body

-- The data have as many bytes as the header says, at most 65,511. So header and data are at most 65,535 bytes.
-- (Volume 2, encapsulation header, length.)
pub record IsFrame (f : Frame) : Type 0 where
  pub fields : IsHeader f.header
  pub counted : length f.body ≡ f.header.length
  pub within : f.header.length ≤ 65511

-- One whole frame, and nothing more.
pub record IsWhole (bytes : List ℕ) : Type 0 where
  pub of : Frame
  pub is_frame : IsFrame of
  pub spelled : bytes ≡ frame of

-- A header whose length is more than a frame may have.
pub record IsTooLong (bytes : List ℕ) : Type 0 where
  pub header : 24 ≤ length bytes
  pub over : 65511 < number_at 2 2 bytes

-- These bytes are a whole frame or a header that is too long: no further byte is needed to know which.
abbrev pub IsComplete : List ℕ → Type 0
IsComplete bytes = IsWhole bytes ⊎ IsTooLong bytes

-- Where a frame with a header of this length ends: after its data, or after the header if the length is too long.
abbrev pub end_after : ℕ → ℕ
end_after n = if nat_lt 65511 n then 24 else 24 + n
