use Rattle.std.specs.Prelude.{ℕ, List, ◌≡◌, ◌<◌, ◌^◌, ◌++◌, length, slice_range}
use Rattle.enip_wire.specs.declared.header.Header.{Header}
use Rattle.cip_bytes.specs.Numbers.{le, number_at}

-- The six fields in their order. (Volume 2, encapsulation header.)
abbrev pub header_spelling : Header → List ℕ
header_spelling h =
    le 2 h.command ++ le 2 h.length ++ le 4 h.session ++ le 4 h.status ++ h.context ++ le 4 h.options

-- The header that 24 bytes spell: each field at its offset.
abbrev pub header_at : List ℕ → Header
header_at bytes =
    record {
      command = number_at 0 2 bytes;
      length = number_at 2 2 bytes;
      session = number_at 4 4 bytes;
      status = number_at 8 4 bytes;
      context = slice_range bytes 12 20;
      options = number_at 20 4 bytes;
    }

-- Each field fits its size on the wire.
pub record IsHeader (h : Header) : Type 0 where
  pub command : h.command < 2 ^ 16
  pub data_length : h.length < 2 ^ 16
  pub session : h.session < 2 ^ 32
  pub status : h.status < 2 ^ 32
  pub context : length h.context ≡ 8
  pub options : h.options < 2 ^ 32
