-- The port segment, which is one hop of a route (Volume 1, appendix on segments: port segment).
use Rattle.std.specs.Prelude.{◌≡◌, ℕ, ◌+◌, ◌%◌, ◌<◌, ◌≤◌, ◌^◌, Bool, ◌==◌, List, [], ◌∷◌, ◌++◌, length, nat_lt}
use Rattle.std.specs.Prelude.{if◌then◌else◌}
use Rattle.std.specs.List.{flat_map}
use Rattle.cip_bytes.specs.Numbers.{le, AreBytes}
use Rattle.cip_route.specs.declared.hop.HopView.{HopView}
use Rattle.cip_route.specs.declared.hop.HopFault.{HopFault}
use Rattle.cip_route.specs.declared.hop.HopFault.TheVariants as fault

-- A hop: the port by which a router passes the message on, and the link address of the next node behind that port.
pub record Hop : Type 0 where
  pub port : ℕ
  pub link : List ℕ

-- The hops that have a spelling: port 0 is reserved, and a link address is 1 to 255 bytes.
pub record IsHop (h : Hop) : Type 0 where
  pub port_from : 1 ≤ h.port
  pub port_to : h.port < 2 ^ 16
  pub link_from : 1 ≤ length h.link
  pub link_to : length h.link < 2 ^ 8
  pub link : AreBytes h.link

-- A port above 14 does not fit the four bits of the first byte, which are then 15.
abbrev pub is_small : ℕ → Bool
is_small port = nat_lt port 15

abbrev pub port_bits : ℕ → ℕ
port_bits port = if is_small port then port else 15

abbrev pub extended_port : ℕ → List ℕ
extended_port port = if is_small port then [] else le 2 port

-- The size of a link address is written if it is more than one byte. Bit 4 of the first byte says so.
abbrev pub is_long : List ℕ → Bool
is_long link = nat_lt 1 (length link)

-- First byte, size of the link address, port above 14, link address.
abbrev pub hop_fields : Hop → List ℕ
hop_fields h =
    if is_long h.link
    then (16 + port_bits h.port) ∷ length h.link ∷ (extended_port h.port ++ h.link)
    else port_bits h.port ∷ (extended_port h.port ++ h.link)

-- A pad byte of 0 makes a segment whole words.
abbrev pub padded : List ℕ → List ℕ
padded b = if length b % 2 == 0 then b else b ++ 0 ∷ []

-- The spelling of a hop.
unfoldable pub hop_bytes : Hop → List ℕ
hop_bytes h = padded (hop_fields h)

-- The spelling of a route: its hops, one after the other.
abbrev pub route_bytes : List Hop → List ℕ
route_bytes hops = flat_map hop_bytes hops

-- b is a spelling of the hop h, and the rest follows it.
pub record IsHopFirst (h : Hop) (rest b : List ℕ) : Type 0 where
  pub is_hop : IsHop h
  pub spelled : b ≡ hop_bytes h ++ rest

-- At most one hop spells a prefix of some bytes.
abbrev pub OneHop : Type 0
OneHop = (h k : Hop) (x y b : List ℕ) → IsHopFirst h x b → IsHopFirst k y b → (h ≡ k) × (x ≡ y)

-- A hop of the code, as one of the specification.
abbrev pub view : HopView → Hop
view v = record { port = v.port; link = v.link.now }

-- The number of a fault, as printed.
abbrev pub hop_fault_number : HopFault → ℕ
hop_fault_number fault.Kind = 1
hop_fault_number fault.Port = 2
hop_fault_number fault.Size = 3
hop_fault_number fault.Pad = 4
hop_fault_number fault.Cut = 5
