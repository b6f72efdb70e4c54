-- Reading an address, and the grammar of addresses.
use Rattle.std.proofs.Common.{◌≡◌, ℕ, List, [], ◌∷◌, ◌++◌, length, Option, Some, None, Result, Ok, Err, refl, sym, ap, ◌∙◌, subst, append-nil, lit≤, ne_eqb, arith}
use Rattle.std.proofs.lemmas.Option.{none-some, same_Some}
use Rattle.std.specs.Prelude.{option_map}
use Rattle.std.specs.Result.{result_ok}
use Rattle.std.specs.Net.Reader.{Read, whole_value, read_ipv4, read_ipv6}
use Rattle.std.specs.Net.Grammar.{Parses, IsIpText, IsDotted, IsColonHex}
use Rattle.std.proofs.NetLemmas.Ipv4.{read_ipv4_sound, read_ipv4_complete}
use Rattle.std.proofs.NetLemmas.Ipv6.{read_ipv6_sound, read_ipv6_complete, EndsGroups-nil, IsDotted-not_colon_hex}
use Rattle.std.specs.declared.net.ip_addr.IpAddr.{IpAddr}
use Rattle.std.specs.declared.net.ip_addr.IpAddr.TheVariants.{V4, V6}
use Rattle.enip_access.specs.Address.{address_in, ipv4_of, ipv6_of, or_else, AddressesAreTexts}

whole : {B : Type 0} (read : Read B) (x : B) → whole_value read ≡ Some x → read ≡ Some (x, [])
whole None x e = absurd (none-some x e)
whole (Some (b, [])) x e = ap (λ y. Some (y, [])) (same_Some b x e)
whole (Some (b, c ∷ rest)) x e = absurd (none-some x (rw (ne_eqb (length (c ∷ rest)) 0 (omega arith)) at e))

dotted : (text octets : List ℕ) → whole_value (read_ipv4 text) ≡ Some octets → IsDotted text octets
dotted text octets e =
    let (front, split, is) = read_ipv4_sound text octets [] (whole (read_ipv4 text) octets e) in
    subst (λ t. IsDotted t octets) (sym (split ∙ append-nil front)) is

colon_hex : (text segments : List ℕ) → whole_value (read_ipv6 text) ≡ Some segments → IsColonHex text segments
colon_hex text segments e =
    let (front, split, is) = read_ipv6_sound text segments [] (whole (read_ipv6 text) segments e) in
    subst (λ t. IsColonHex t segments) (sym (split ∙ append-nil front)) is

sound_by : (text : List ℕ) (a : IpAddr) (four six : Option (List ℕ)) → whole_value (read_ipv4 text) ≡ four → whole_value (read_ipv6 text) ≡ six
    → or_else (option_map ipv4_of four) (option_map ipv6_of six) ≡ Some a → IsIpText text a
sound_by text a (Some octets) six e4 e6 h = subst (IsIpText text) (same_Some _ a h) (dotted text octets e4)
sound_by text a None (Some segments) e4 e6 h = subst (IsIpText text) (same_Some _ a h) (colon_hex text segments e6)
sound_by text a None None e4 e6 h = absurd (none-some a h)

pub sound : (text : List ℕ) (a : IpAddr) → address_in text ≡ Some a → IsIpText text a
unfolding address_in
sound text a h = sound_by text a (whole_value (read_ipv4 text)) (whole_value (read_ipv6 text)) refl refl h

not_dotted : (text segments : List ℕ) (four : Option (List ℕ)) → IsColonHex text segments → whole_value (read_ipv4 text) ≡ four → four ≡ None
not_dotted text segments None h e = refl
not_dotted text segments (Some octets) h e = absurd (IsDotted-not_colon_hex text octets segments (dotted text octets e) h)

pub complete : (text : List ℕ) (a : IpAddr) → IsIpText text a → address_in text ≡ Some a
unfolding address_in
complete text (V4 a) h =
    let read : read_ipv4 text ≡ Some (a.octets, []) = rw append-nil at (read_ipv4_complete text a.octets [] h (lit≤ tt)) in
    rw read refl
complete text (V6 a) h =
    let read : read_ipv6 text ≡ Some (a.segments, []) = rw append-nil at (read_ipv6_complete text a.segments [] h EndsGroups-nil) in
    let none : whole_value (read_ipv4 text) ≡ None = not_dotted text a.segments (whole_value (read_ipv4 text)) h refl in
    rw (none, read) refl

parsed_by : (text : List ℕ) (o : Option IpAddr) → ((a : IpAddr) → IsIpText text a → ⊥) → address_in text ≡ o → None ≡ o
parsed_by text None none e = refl
parsed_by text (Some a) none e = absurd (none a (sound text a e))

-- what `parse_ascii` gives
pub parsed : {E : Type 0} (text : List ℕ) (r : Result IpAddr E) → Parses IsIpText text r → result_ok r ≡ address_in text
parsed text (Ok a) h = sym (complete text a h)
parsed text (Err e) h = parsed_by text (address_in text) h refl

pub addresses_are_texts : AddressesAreTexts
addresses_are_texts text a = (sound text a, complete text a)
