-- Reading a hop from left to right. `Hop` defines what is read, without an order of steps.
use Rattle.std.specs.Prelude.{ℕ, ◌-◌, ◌%◌, ◌==◌, List, [], ◌∷◌, length, take, drop, Result, Ok, Err, nat_lt, nat_le}
use Rattle.std.specs.Prelude.{if◌then◌else◌}
use Rattle.std.specs.Borrow.{Bor}
use Rattle.cip_bytes.specs.Numbers.{number_at}
use Rattle.cip_bytes.specs.Reading.{◌>>=◌}
use Rattle.cip_route.specs.declared.hop.HopView.{HopView}
use Rattle.cip_route.specs.declared.hop.HopFault.{HopFault}
use Rattle.cip_route.specs.declared.hop.HopFault.TheVariants as fault
use Rattle.cip_route.specs.Hop.{Hop, view}

-- The port behind the first byte, if its four bits are 15: two bytes, and not below 15.
abbrev pub extended_port_of : List ℕ → Result (ℕ × List ℕ) HopFault
extended_port_of b =
    if nat_lt (length b) 2 then Err fault.Cut
    else if nat_lt (number_at 0 2 b) 15 then Err fault.Port
    else Ok (number_at 0 2 b, drop 2 b)

-- The port by the four bits of the first byte.
unfoldable pub port_of : ℕ → List ℕ → Result (ℕ × List ℕ) HopFault
port_of bits b =
    if bits == 0 then Err fault.Port
    else if nat_lt bits 15 then Ok (bits, b)
    else extended_port_of b

-- What is left of a segment after its link address: a pad byte of 0.
abbrev pub unpadded : List ℕ → List ℕ → Result (List ℕ × List ℕ) HopFault
unpadded link [] = Err fault.Cut
unpadded link (pad ∷ rest) = if pad == 0 then Ok (link, rest) else Err fault.Pad

-- A link address of this size. A pad byte follows an odd size.
unfoldable pub link_of : ℕ → List ℕ → Result (List ℕ × List ℕ) HopFault
link_of size b =
    if nat_lt (length b) size then Err fault.Cut
    else if size % 2 == 0 then Ok (take size b, drop size b)
    else unpadded (take size b) (drop size b)

-- A link address of one byte, without a size and a pad byte.
abbrev pub one_of : List ℕ → Result (List ℕ × List ℕ) HopFault
one_of [] = Err fault.Cut
one_of (link ∷ rest) = Ok (link ∷ [], rest)

unfoldable pub short_hop_of : ℕ → List ℕ → Result (Hop × List ℕ) HopFault
short_hop_of bits b = do
  port ← port_of bits b
  link ← one_of port.1
  Ok (record { port = port.0; link = link.0 }, link.1)

unfoldable pub long_hop_of : ℕ → List ℕ → Result (Hop × List ℕ) HopFault
long_hop_of bits [] = Err fault.Cut
long_hop_of bits (size ∷ b) =
    if nat_lt size 2 then Err fault.Size
    else (do
      port ← port_of bits b
      link ← link_of size port.1
      Ok (record { port = port.0; link = link.0 }, link.1))

-- Reads the hop at the front, and returns it with the rest. Bits 7 to 5 of the first byte are the segment type, 0 for a
-- port segment.
unfoldable pub hop_of : List ℕ → Result (Hop × List ℕ) HopFault
hop_of [] = Err fault.Cut
hop_of (first ∷ b) =
    if nat_le 0x20 first then Err fault.Kind
    else if nat_lt first 16 then short_hop_of first b
    else long_hop_of (first - 16) b

-- What a reader returned, without where it lies in memory.
abbrev pub first_view : HopView × Bor (List ℕ) → Hop × List ℕ
first_view x = (view x.0, x.1.now)
