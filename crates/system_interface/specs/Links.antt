-- The interface flags of a link (Volume 2, Ethernet Link object, attribute 2).
use Rattle.std.specs.Prelude.{ℕ, ◌+◌, ◌==◌, List, Bool, bytes_eq, codes, if◌then◌else◌}
use Rattle.std.specs.Str.{trim}

-- whether a text says that there is a link, and that it is full duplex
abbrev pub is_active : List ℕ → Bool
is_active carrier = bytes_eq (trim carrier) (codes "1")

abbrev pub is_full_duplex : List ℕ → Bool
is_full_duplex duplex = bytes_eq (trim duplex) (codes "full")

-- Bit 0 is an active link, and bit 1 full duplex. Bits 2 to 4 are 3 if it was negotiated, and 4 if not. Without a link there
-- are none.
abbrev pub flags_of : Bool → ℕ → Bool → ℕ
flags_of active speed full =
    if active then (1 + (if full then 2 else 0)) + (if speed == 0 then 16 else 12) else 0
