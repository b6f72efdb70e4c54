-- Addresses and their numbers.
use Rattle.std.proofs.Common.{◌≡◌, ℕ, ◌+◌, ◌*◌, ◌/◌, ◌%◌, ◌<◌, ◌^◌, Bool, true, false, cond, List, [], ◌∷◌, get_or, take, drop, refl, sym, ap, ◌∙◌, subst, arith}
use Rattle.std.proofs.lemmas.Slice.Eq.{bytes_eq-Decides}
use Rattle.std.specs.Bool.{Decides}
use Rattle.std.specs.Str.{bytes_eq}
use Rattle.std.specs.Int.{w32, w128, from_be_bytes, to_be_bytes}
use Rattle.std.specs.declared.net.ipv4_addr.Ipv4Addr.{Ipv4Addr}
use Rattle.std.specs.declared.net.ipv6_addr.Ipv6Addr.{Ipv6Addr}
use Rattle.std.specs.declared.net.ip_addr.IpAddr.{IpAddr}
use Rattle.std.specs.declared.net.ip_addr.IpAddr.TheVariants.{V4, V6}
use Rattle.std.specs.Net.Addr.{ipv4_bits, ipv6_bits, ipv4_octets, ipv6_segments, segments_of, octets_of, embedded_segments, IsIpv4Addr, IsIpv6OfBits, IsCanonicalOf, IsIpv4Mapped}
use Rattle.std.proofs.NetLemmas.Arrays.{four_items}
use Rattle.enip_access.specs.Address.{number_of, address_of, segments_in, is_mapped, MappedIsOne}

abbrev mapped_front : List ℕ
mapped_front = 0 ∷ 0 ∷ 0 ∷ 0 ∷ 0 ∷ 0xffff ∷ []

false_if : {P : Type 0} (r : Bool) → Decides r P → (P → ⊥) → r ≡ false
false_if true d never = absurd (never (d.0 refl))
false_if false d never = refl

-- what `to_canonical` gives of the address of a number
pub canonical : (n : ℕ) (a : Ipv6Addr) (c : IpAddr) → IsIpv6OfBits a n → IsCanonicalOf a c → c ≡ address_of n
unfolding address_of IsIpv6OfBits
canonical n a (V4 ip) e h =
    let front : take 6 (segments_in n) ≡ mapped_front = ap (take 6) (sym e) ∙ h.0 in
    rw ((bytes_eq-Decides (take 6 (segments_in n)) mapped_front).1 front)
    (λ i. V4 (record { octets = (h.1 ∙ ap (λ s. octets_of (drop 6 s)) e) i }))
canonical n a (V6 ip) e h =
    let other : take 6 (segments_in n) ≡ mapped_front → ⊥ = λ front. h.0 (ap (take 6) e ∙ front) in
    rw (false_if _ (bytes_eq-Decides (take 6 (segments_in n)) mapped_front) other)
    (ap V6 (h.1 ∙ λ i. record { segments = e i }))

four : (a b c d : ℕ) → a < 256 → b < 256 → c < 256 → d < 256
    → from_be_bytes w128 (octets_of (0 ∷ 0 ∷ 0 ∷ 0 ∷ 0 ∷ 0xffff ∷ (a * 256 + b) ∷ (c * 256 + d) ∷ []))
    ≡ 0xffff00000000 + from_be_bytes w32 (a ∷ b ∷ c ∷ d ∷ [])
four a b c d p q r s = omega arith

pub mapped_is_one : MappedIsOne
unfolding ipv4_bits ipv6_bits
mapped_is_one address mapped h e =
    let o = ipv4_octets address in
    let items = four_items o h.0 in
    ap (λ s. from_be_bytes w128 (octets_of s)) e
    ∙ ap (λ s. from_be_bytes w128 (octets_of (0 ∷ 0 ∷ 0 ∷ 0 ∷ 0 ∷ 0xffff ∷ segments_of s))) items
    ∙ four (get_or o 0 0) (get_or o 1 0) (get_or o 2 0) (get_or o 3 0) (h.1 0) (h.1 1) (h.1 2) (h.1 3)
    ∙ ap (λ s. 0xffff00000000 + from_be_bytes w32 s) (sym items)
