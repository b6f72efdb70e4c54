-- A hop that is read is the one spelled.
use Rattle.std.proofs.Common.{◌≡◌, ◌↔◌, ℕ, ◌+◌, ◌-◌, ◌%◌, ◌<◌, ◌≤◌, ◌^◌, true, false, eqb, ltb, leb, List, [], ◌∷◌, ◌++◌, length, take, drop, Result, Ok, Err, refl, sym, ap, subst, ◌∙◌, arith, inl, inr, append_assoc, rules}
use Rattle.std.specs.Prelude.{IfOk}
use Rattle.std.specs.Borrow.{Bor}
use Rattle.std.proofs.lemmas.Bool.{ltb-true, ltb-false, leb-false, eqb-true, eqb-false}
use Rattle.std.proofs.lemmas.List.{length-append, length-take, take-append-drop}
use Rattle.cip_bytes.specs.Numbers.{number_at, AreBytes}
use Rattle.cip_bytes.specs.Reading.{Gives}
use Rattle.cip_bytes.proofs.Bytes.{AreBytes-take, AreBytes-tail, AreBytes-second, at2}
use Rattle.cip_bytes.proofs.Steps.{bind_ok, chosen, ok_is, gives_iff, iff_then}
use Rattle.cip_route.specs.declared.hop.HopView.{HopView}
use Rattle.cip_route.specs.declared.hop.HopFault.{HopFault}
use Rattle.cip_route.specs.declared.hop.HopFault.TheVariants as fault
use Rattle.cip_route.specs.Hop.{Hop, IsHopFirst, port_bits, extended_port, hop_bytes}
use Rattle.cip_route.specs.HopReading.{port_of, extended_port_of, link_of, unpadded, one_of, short_hop_of, long_hop_of, hop_of, first_view}
use Rattle.cip_route.proofs.Hops.{hop, pad_for, short_form, long_form, hop_again}

-- ---- the port

-- these bits and bytes spell the port, and the rest follows it
record PortFound (bits : ℕ) (b : List ℕ) (port : ℕ) (rest : List ℕ) : Type 0 where
  from : 1 ≤ port
  to : port < 2 ^ 16
  bits_are : bits ≡ port_bits port
  spelled : b ≡ extended_port port ++ rest

small_port : (bits : ℕ) (b : List ℕ) → eqb bits 0 ≡ false → ltb bits 15 ≡ true → PortFound bits b bits b
small_port bits b some small =
    let lt : bits < 15 = ltb-true _ _ small in
    let not : bits ≡ 0 → ⊥ = eqb-false bits 0 some in
    record { from = omega (arith, not); to = omega arith; bits_are = rw small refl; spelled = rw small refl }

extended_found : (b : List ℕ) → AreBytes b → ltb (length b) 2 ≡ false → ltb (number_at 0 2 b) 15 ≡ false
    → PortFound 15 b (number_at 0 2 b) (drop 2 b)
extended_found b fits long large =
    let all : 2 ≤ length b = ltb-false _ _ long in
    let low : 15 ≤ number_at 0 2 b = ltb-false _ _ large in
    record {
      from = omega arith;
      to = omega (arith, fits 0, fits 1);
      bits_are = rw large refl;
      spelled = rw large ((at2 0 b fits (omega arith)).is);
    }

extended_taken : (b : List ℕ) (port : ℕ) (rest : List ℕ) → AreBytes b → extended_port_of b ≡ Ok (port, rest) → PortFound 15 b port rest
extended_taken b port rest fits e =
    elim (chosen (ltb (length b) 2) (Err fault.Cut) _ _ e) [
      | inl cut ↦ absurd (let k = cut.1 in cc)
      | inr long ↦ elim (chosen (ltb (number_at 0 2 b) 15) (Err fault.Port) _ _ long.1) [
        | inl low ↦ absurd (let k = low.1 in cc)
        | inr large ↦
            let same : (number_at 0 2 b, drop 2 b) ≡ (port, rest) = ok_is _ _ large.1 in
            subst (λ (p : ℕ × List ℕ). PortFound 15 b p.0 p.1) same (extended_found b fits long.0 large.0)
      ]
    ]

port_taken : (bits : ℕ) (b : List ℕ) (port : ℕ) (rest : List ℕ) → AreBytes b → bits < 16 → port_of bits b ≡ Ok (port, rest) → PortFound bits b port rest
unfolding port_of
port_taken bits b port rest fits low e =
    elim (chosen (eqb bits 0) (Err fault.Port) _ _ e) [
      | inl none ↦ absurd (let k = none.1 in cc)
      | inr some ↦ elim (chosen (ltb bits 15) (Ok (bits, b)) _ _ some.1) [
        | inl small ↦
            let same : (bits, b) ≡ (port, rest) = ok_is _ _ small.1 in
            subst (λ (p : ℕ × List ℕ). PortFound bits b p.0 p.1) same (small_port bits b some.0 small.0)
        | inr large ↦
            let ge : 15 ≤ bits = ltb-false _ _ large.0 in
            let is : 15 ≡ bits = omega arith in
            subst (λ (n : ℕ). PortFound n b port rest) is (extended_taken b port rest fits large.1)
      ]
    ]

-- ---- the link address

-- these bytes are the link address, of this size, and the rest follows its pad byte
record LinkFound (size : ℕ) (b link rest : List ℕ) : Type 0 where
  len : length link ≡ size
  bytes : AreBytes link
  spelled : b ≡ link ++ (pad_for size ++ rest)

unpadded_taken : (link more found rest : List ℕ) → unpadded link more ≡ Ok (found, rest) → (link ≡ found) × (more ≡ 0 ∷ rest)
unpadded_taken link [] found rest e = absurd cc
unpadded_taken link (pad ∷ more) found rest e =
    elim (chosen (eqb pad 0) (Ok (link, more)) _ _ e) [
      | inl zero ↦
          let same : (link, more) ≡ (found, rest) = ok_is _ _ zero.1 in
          let pad_is : pad ≡ 0 = eqb-true _ _ zero.0 in (
            ap (λ (p : List ℕ × List ℕ). p.0) same,
            ap (λ (n : ℕ). n ∷ more) pad_is ∙ ap (λ (p : List ℕ × List ℕ). 0 ∷ p.1) same,
          )
      | inr other ↦ absurd (let k = other.1 in cc)
    ]

link_found : (size : ℕ) (b more : List ℕ) → AreBytes b → ltb (length b) size ≡ false → drop size b ≡ pad_for size ++ more → LinkFound size b (take size b) more
link_found size b more fits long padded =
    let all : size ≤ length b = ltb-false _ _ long in
    record {
      len = omega (arith, length-take size b);
      bytes = AreBytes-take size b fits;
      spelled = sym (take-append-drop size b) ∙ ap (λ (t : List ℕ). take size b ++ t) padded;
    }

link_taken : (size : ℕ) (b link rest : List ℕ) → AreBytes b → link_of size b ≡ Ok (link, rest) → LinkFound size b link rest
unfolding link_of
link_taken size b link rest fits e =
    elim (chosen (ltb (length b) size) (Err fault.Cut) _ _ e) [
      | inl cut ↦ absurd (let k = cut.1 in cc)
      | inr long ↦ elim (chosen (eqb (size % 2) 0) (Ok (take size b, drop size b)) _ _ long.1) [
        | inl even ↦
            let same : (take size b, drop size b) ≡ (link, rest) = ok_is _ _ even.1 in
            subst (λ (p : List ℕ × List ℕ). LinkFound size b p.0 p.1) same
            (link_found size b (drop size b) fits long.0 (rw even.0 refl))
        | inr odd ↦
            let found = unpadded_taken (take size b) (drop size b) link rest odd.1 in
            subst (λ (l : List ℕ). LinkFound size b l rest) found.0
            (link_found size b rest fits long.0 (rw odd.0 found.1))
      ]
    ]

-- ---- a hop

short_spelled : (bits : ℕ) (b : List ℕ) (port link : ℕ) (more : List ℕ) → AreBytes (link ∷ more) → PortFound bits b port (link ∷ more)
    → IsHopFirst (hop port (link ∷ [])) more (bits ∷ b)
short_spelled bits b port link more fits found = record {
  is_hop = record { port_from = found.from; port_to = found.to; link_from = omega arith; link_to = omega arith; link = AreBytes-take 1 (link ∷ more) fits };
  spelled =
      ap (λ (n : ℕ). n ∷ b) found.bits_are
      ∙ ap (λ (t : List ℕ). port_bits port ∷ t) (found.spelled ∙ sym (append_assoc (extended_port port) (link ∷ []) more))
      ∙ ap (λ (t : List ℕ). t ++ more) (sym (short_form port link));
}

ports_fit : (bits : ℕ) (b : List ℕ) (port : ℕ) (rest : List ℕ) → AreBytes b → PortFound bits b port rest → AreBytes rest
ports_fit bits b port rest fits found = AreBytes-second (extended_port port) rest (subst AreBytes found.spelled fits)

short_one : (bits : ℕ) (b : List ℕ) (port : ℕ) (more link rest : List ℕ) → AreBytes b → PortFound bits b port more → one_of more ≡ Ok (link, rest)
    → IsHopFirst (hop port link) rest (bits ∷ b)
short_one bits b port [] link rest fits found e = absurd cc
short_one bits b port (l ∷ more) link rest fits found e =
    let same : (l ∷ [], more) ≡ (link, rest) = ok_is _ _ e in
    subst (λ (p : List ℕ × List ℕ). IsHopFirst (hop port p.0) p.1 (bits ∷ b)) same
    (short_spelled bits b port l more (ports_fit bits b port (l ∷ more) fits found) found)

short_taken : (bits : ℕ) (b : List ℕ) (h : Hop) (rest : List ℕ) → AreBytes b → bits < 16 → short_hop_of bits b ≡ Ok (h, rest) → IsHopFirst h rest (bits ∷ b)
unfolding short_hop_of
short_taken bits b h rest fits low e =
    let (port, port_is, more) = bind_ok (port_of bits b) _ (h, rest) e in
    let (link, link_is, last) = bind_ok (one_of port.1) _ (h, rest) more in
    let same : (hop port.0 link.0, link.1) ≡ (h, rest) = ok_is _ _ last in
    subst (λ (p : Hop × List ℕ). IsHopFirst p.0 p.1 (bits ∷ b)) same
    (short_one bits b port.0 port.1 link.0 link.1 fits (port_taken bits b port.0 port.1 fits low port_is) link_is)

long_spelled : (bits size : ℕ) (b : List ℕ) (port : ℕ) (more link rest : List ℕ) → size < 256 → 2 ≤ size → PortFound bits b port more → LinkFound size more link rest
    → IsHopFirst (hop port link) rest ((16 + bits) ∷ size ∷ b)
long_spelled bits size b port more link rest small large found linked =
    let len : length link ≡ size = linked.len in
    let long : 1 < length link = omega arith in
    let pads : pad_for size ≡ pad_for (length link) = ap pad_for (sym len) in
    record {
      is_hop = record { port_from = found.from; port_to = found.to; link_from = omega arith; link_to = omega arith; link = linked.bytes };
      spelled =
          ap (λ (n : ℕ). (16 + n) ∷ size ∷ b) found.bits_are
          ∙ ap (λ (n : ℕ). (16 + port_bits port) ∷ n ∷ b) (sym len)
          ∙ ap (λ (t : List ℕ). (16 + port_bits port) ∷ length link ∷ t)
          (found.spelled
          ∙ ap (λ (t : List ℕ). extended_port port ++ t)
          (linked.spelled ∙ ap (λ (p : List ℕ). link ++ (p ++ rest)) pads ∙ sym (append_assoc link (pad_for (length link)) rest))
          ∙ sym (append_assoc (extended_port port) (link ++ pad_for (length link)) rest))
          ∙ ap (λ (t : List ℕ). t ++ rest) (sym (long_form port link long));
    }

long_taken : (bits : ℕ) (b : List ℕ) (h : Hop) (rest : List ℕ) → AreBytes b → bits < 16 → long_hop_of bits b ≡ Ok (h, rest) → IsHopFirst h rest ((16 + bits) ∷ b)
unfolding long_hop_of
long_taken bits [] h rest fits low e = absurd cc
long_taken bits (size ∷ b) h rest fits low e =
    elim (chosen (ltb size 2) (Err fault.Size) _ _ e) [
      | inl small ↦ absurd (let k = small.1 in cc)
      | inr large ↦
          let ge : 2 ≤ size = ltb-false _ _ large.0 in
          let fits_b : AreBytes b = AreBytes-tail size b fits in
          let (port, port_is, more) = bind_ok (port_of bits b) _ (h, rest) large.1 in
          let (link, link_is, last) = bind_ok (link_of size port.1) _ (h, rest) more in
          let same : (hop port.0 link.0, link.1) ≡ (h, rest) = ok_is _ _ last in
          let found = port_taken bits b port.0 port.1 fits_b low port_is in
          let linked = link_taken size port.1 link.0 link.1 (ports_fit bits b port.0 port.1 fits_b found) link_is in
          subst (λ (p : Hop × List ℕ). IsHopFirst p.0 p.1 ((16 + bits) ∷ size ∷ b)) same
          (long_spelled bits size b port.0 port.1 link.0 link.1 (fits 0) ge found linked)
    ]

pub hop_taken : (b : List ℕ) (h : Hop) (rest : List ℕ) → AreBytes b → hop_of b ≡ Ok (h, rest) → IsHopFirst h rest b
unfolding hop_of
hop_taken [] h rest fits e = absurd cc
hop_taken (first ∷ b) h rest fits e =
    let fits_b : AreBytes b = AreBytes-tail first b fits in
    elim (chosen (leb 32 first) (Err fault.Kind) _ _ e) [
      | inl other ↦ absurd (let k = other.1 in cc)
      | inr kind ↦ elim (chosen (ltb first 16) (short_hop_of first b) _ _ kind.1) [
        | inl short ↦ short_taken first b h rest fits_b (ltb-true _ _ short.0) short.1
        | inr long ↦
            let below : first < 32 = leb-false _ _ kind.0 in
            let ge : 16 ≤ first = ltb-false _ _ long.0 in
            let is : 16 + (first - 16) ≡ first = omega arith in
            subst (λ (n : ℕ). IsHopFirst h rest (n ∷ b)) is (long_taken (first - 16) b h rest fits_b (omega arith) long.1)
      ]
    ]

-- ---- what a reader returned

hop_iff : (b : List ℕ) (h : Hop) (rest : List ℕ) → AreBytes b → (hop_of b ≡ Ok (h, rest)) ↔ IsHopFirst h rest b
hop_iff b h rest fits = (hop_taken b h rest fits, hop_again h rest b)

pub reads_hop : (b : List ℕ) (r : Result (HopView × Bor (List ℕ)) HopFault) → AreBytes b → Gives first_view r (hop_of b)
    → (h : Hop) (rest : List ℕ) → Gives first_view r (Ok (h, rest)) ↔ IsHopFirst h rest b
reads_hop b r fits e h rest = iff_then (gives_iff first_view r (hop_of b) (Ok (h, rest)) e) (hop_iff b h rest fits)

some_bytes : (port : ℕ) (link : List ℕ) → 1 ≤ length link → 1 ≤ length (hop_bytes (hop port link))
some_bytes port [] linked = absurd (omega arith)
some_bytes port (l ∷ []) linked = rw (short_form port l) (omega arith)
some_bytes port (l ∷ m ∷ ls) linked = rw (long_form port (l ∷ m ∷ ls) (omega arith)) (omega arith)

less : (h : Hop) (rest b : List ℕ) → IsHopFirst h rest b → length rest < length b
less h rest b is =
    omega (arith, ap length is.spelled, length-append (hop_bytes h) rest, some_bytes h.port h.link is.is_hop.link_from)

pub leaves_less : (b : List ℕ) (r : Result (HopView × Bor (List ℕ)) HopFault) → AreBytes b → Gives first_view r (hop_of b)
    → IfOk r (λ x. length x.1.now < length b)
leaves_less b (Ok x) fits e = less (first_view x).0 (first_view x).1 b (hop_taken b (first_view x).0 (first_view x).1 fits e)
leaves_less b (Err why) fits e = search rules
