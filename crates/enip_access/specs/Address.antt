-- An address as a number.
use Rattle.std.specs.Prelude.{◌≡◌, ℕ, ◌+◌, Bool, if◌then◌else◌, List, [], ◌∷◌, take, drop, bytes_eq, Option, Some, None, option_map, ◌↔◌}
use Rattle.std.specs.Int.{w128, to_be_bytes}
use Rattle.std.specs.declared.net.ipv4_addr.Ipv4Addr.{Ipv4Addr}
use Rattle.std.specs.declared.net.ipv6_addr.Ipv6Addr.{Ipv6Addr}
use Rattle.std.specs.declared.net.ip_addr.IpAddr.{IpAddr}
use Rattle.std.specs.declared.net.ip_addr.IpAddr.TheVariants.{V4, V6}
use Rattle.std.specs.Net.Grammar.{IsIpText}
use Rattle.std.specs.Net.Reader.{whole_value, read_ipv4, read_ipv6}
use Rattle.std.specs.Net.Addr.{ipv4_bits, ipv6_bits, ipv6_segments, segments_of, octets_of, embedded_segments, IsIpv4Addr}

-- The address as a number of 128 bits. That of an IPv4 address is that of ::ffff:a.b.c.d.
abbrev pub number_of : IpAddr → ℕ
number_of (V4 address) = 0xffff00000000 + ipv4_bits address
number_of (V6 address) = ipv6_bits address

abbrev pub ipv4_of : List ℕ → IpAddr
ipv4_of octets = V4 (record { octets = octets })

abbrev pub ipv6_of : List ℕ → IpAddr
ipv6_of segments = V6 (record { segments = segments })

-- The first, or the second if there is no first.
abbrev pub or_else : Option IpAddr → Option IpAddr → Option IpAddr
or_else (Some address) other = Some address
or_else None other = other

-- The address that a text is, if it is one: four decimal numbers with dots between them, or hexadecimal groups with colons.
unfoldable pub address_in : List ℕ → Option IpAddr
address_in text = or_else (option_map ipv4_of (whole_value (read_ipv4 text))) (option_map ipv6_of (whole_value (read_ipv6 text)))

-- A text is read as an address exactly if the grammar has it as one.
abbrev pub AddressesAreTexts : Type 0
AddressesAreTexts = (text : List ℕ) (address : IpAddr) → (address_in text ≡ Some address) ↔ IsIpText text address

-- The eight segments of a number, 16 bits each.
abbrev pub segments_in : ℕ → List ℕ
segments_in number = segments_of (to_be_bytes w128 number)

-- The number is that of an IPv4-mapped address.
abbrev pub is_mapped : ℕ → Bool
is_mapped number = bytes_eq (take 6 (segments_in number)) (0 ∷ 0 ∷ 0 ∷ 0 ∷ 0 ∷ 0xffff ∷ [])

-- The address that has a number, an IPv4 address if the number is that of an IPv4-mapped one.
unfoldable pub address_of : ℕ → IpAddr
address_of number =
    if is_mapped number
    then ipv4_of (octets_of (drop 6 (segments_in number)))
    else ipv6_of (segments_in number)

-- An IPv4 address and the IPv4-mapped address of it are one.
abbrev pub MappedIsOne : Type 0
MappedIsOne =
    (address : Ipv4Addr) (mapped : Ipv6Addr) → IsIpv4Addr address → ipv6_segments mapped ≡ embedded_segments 0xffff address
    → number_of (V6 mapped) ≡ number_of (V4 address)
