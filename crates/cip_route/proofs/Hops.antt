-- A hop that is spelled is read again, whatever follows it.
use Rattle.std.proofs.Common.{◌≡◌, ℕ, ◌+◌, ◌-◌, ◌%◌, ◌<◌, ◌≤◌, ◌^◌, Bool, true, false, cond, eqb, ltb, leb, List, [], ◌∷◌, ◌++◌, length, Result, Ok, refl, sym, ap, ◌∙◌, arith, append_assoc, append-nil}
use Rattle.std.proofs.lemmas.Bool.{ltb-true, le-ltb, lt-ltb, lt-leb, eq-eqb, ne_eqb}
use Rattle.std.proofs.lemmas.List.{length-append, take_at, drop_at}
use Rattle.cip_bytes.specs.Numbers.{le}
use Rattle.cip_bytes.proofs.Bytes.{le2_again}
use Rattle.cip_bytes.proofs.Steps.{ok_is}
use Rattle.cip_route.specs.declared.hop.HopFault.{HopFault}
use Rattle.cip_route.specs.Hop.{Hop, IsHopFirst, OneHop, port_bits, extended_port, padded, hop_bytes}
use Rattle.cip_route.specs.HopReading.{port_of, link_of, short_hop_of, long_hop_of, hop_of}

-- a hop by its two parts
abbrev pub hop : ℕ → List ℕ → Hop
hop port link = record { port = port; link = link }

-- the pad byte after a link address of this size
abbrev pub pad_for : ℕ → List ℕ
pad_for size = cond (eqb (size % 2) 0) [] (0 ∷ [])

-- ---- the port

ports_again : (t : Bool) (p : ℕ) (rest : List ℕ) → 1 ≤ p → p < 2 ^ 16 → ltb p 15 ≡ t
    → port_of (cond t p 15) (cond t [] (le 2 p) ++ rest) ≡ Ok (p, rest)
unfolding port_of
ports_again true p rest some fits small =
    let other : eqb p 0 ≡ false = ne_eqb p 0 (λ e. omega arith) in
    rw (other, small) refl
ports_again false p rest some fits small =
    let all : ltb (length (le 2 p ++ rest)) 2 ≡ false = le-ltb _ _ (omega arith) in
    rw (all, le2_again p fits rest, small) refl

pub port_again : (p : ℕ) (rest : List ℕ) → 1 ≤ p → p < 2 ^ 16 → port_of (port_bits p) (extended_port p ++ rest) ≡ Ok (p, rest)
port_again p rest some fits = ports_again (ltb p 15) p rest some fits refl

bits_low : (t : Bool) (p : ℕ) → ltb p 15 ≡ t → cond t p 15 < 16
bits_low true p e = let lt : p < 15 = ltb-true _ _ e in omega arith
bits_low false p e = omega arith

pub bits_small : (p : ℕ) → port_bits p < 16
bits_small p = bits_low (ltb p 15) p refl

even_by : (t : Bool) (p : ℕ) → length (cond t [] (le 2 p)) % 2 ≡ 0
even_by true p = refl
even_by false p = refl

even_port : (p : ℕ) → length (extended_port p) % 2 ≡ 0
even_port p = even_by (ltb p 15) p

-- ---- the link address

links_again : (t : Bool) (link rest : List ℕ) → eqb (length link % 2) 0 ≡ t
    → link_of (length link) (link ++ (cond t [] (0 ∷ []) ++ rest)) ≡ Ok (link, rest)
unfolding link_of
links_again true link rest even =
    let all : ltb (length (link ++ rest)) (length link) ≡ false = le-ltb _ _ (omega (arith, length-append link rest)) in
    rw (all, even, take_at link rest (length link) refl, drop_at link rest (length link) refl) refl
links_again false link rest odd =
    let all : ltb (length (link ++ (0 ∷ rest))) (length link) ≡ false = le-ltb _ _ (omega (arith, length-append link (0 ∷ rest))) in
    rw (all, odd, take_at link (0 ∷ rest) (length link) refl, drop_at link (0 ∷ rest) (length link) refl) refl

pub link_again : (link rest : List ℕ) → link_of (length link) (link ++ (pad_for (length link) ++ rest)) ≡ Ok (link, rest)
link_again link rest = links_again (eqb (length link % 2) 0) link rest refl

-- ---- the two forms of a spelling

pub short_form : (port link : ℕ) → hop_bytes (hop port (link ∷ [])) ≡ port_bits port ∷ (extended_port port ++ (link ∷ []))
unfolding hop_bytes
short_form port link =
    let even = even_port port in
    let whole : length (port_bits port ∷ (extended_port port ++ (link ∷ []))) % 2 ≡ 0
    = omega (arith, length-append (extended_port port) (link ∷ []), even) in
    rw (eq-eqb _ _ whole) refl

padded_by : (t : Bool) (fields link : List ℕ) → eqb (length fields % 2) 0 ≡ t → eqb (length link % 2) 0 ≡ t
    → padded fields ≡ fields ++ pad_for (length link)
padded_by true fields link e f = rw (e, f) (sym (append-nil fields))
padded_by false fields link e f = rw (e, f) refl

same_rest : (m n k : ℕ) → m ≡ 2 + (k + n) → k % 2 ≡ 0 → eqb (m % 2) 0 ≡ eqb (n % 2) 0
same_rest m n k e even = let same : m % 2 ≡ n % 2 = omega arith in ap (λ (r : ℕ). eqb r 0) same

pub long_form : (port : ℕ) (link : List ℕ) → 1 < length link
    → hop_bytes (hop port link)
    ≡ (16 + port_bits port) ∷ length link ∷ (extended_port port ++ (link ++ pad_for (length link)))
unfolding hop_bytes
long_form port link long =
    let test : ltb 1 (length link) ≡ true = lt-ltb _ _ long in
    let fields : List ℕ = (16 + port_bits port) ∷ length link ∷ (extended_port port ++ link) in
    let same : eqb (length fields % 2) 0 ≡ eqb (length link % 2) 0
    = same_rest (length fields) (length link) (length (extended_port port)) (omega (arith, length-append (extended_port port) link)) (even_port port) in
    rw test (padded_by (eqb (length link % 2) 0) fields link same refl
    ∙ ap (λ (t : List ℕ). (16 + port_bits port) ∷ length link ∷ t) (append_assoc (extended_port port) link (pad_for (length link))))

-- ---- a hop

short_again : (port link : ℕ) (rest : List ℕ) → 1 ≤ port → port < 2 ^ 16
    → hop_of (port_bits port ∷ (extended_port port ++ (link ∷ rest))) ≡ Ok (hop port (link ∷ []), rest)
unfolding hop_of short_hop_of
short_again port link rest some fits =
    let low : port_bits port < 16 = bits_small port in
    let kind : leb 32 (port_bits port) ≡ false = lt-leb _ _ (omega arith) in
    let short : ltb (port_bits port) 16 ≡ true = lt-ltb _ _ low in
    rw (kind, short, port_again port (link ∷ rest) some fits) refl

long_again : (port : ℕ) (link rest : List ℕ) → 1 ≤ port → port < 2 ^ 16 → 1 < length link
    → hop_of ((16 + port_bits port) ∷ length link ∷ (extended_port port ++ (link ++ (pad_for (length link) ++ rest)))) ≡ Ok (hop port link, rest)
unfolding hop_of long_hop_of
long_again port link rest some fits long =
    let low : port_bits port < 16 = bits_small port in
    let kind : leb 32 (16 + port_bits port) ≡ false = lt-leb _ _ (omega arith) in
    let other : ltb (16 + port_bits port) 16 ≡ false = le-ltb _ _ (omega arith) in
    let size : ltb (length link) 2 ≡ false = le-ltb _ _ (omega arith) in
    let bits : (16 + port_bits port) - 16 ≡ port_bits port = omega arith in
    rw (kind, other, size, bits, port_again port (link ++ (pad_for (length link) ++ rest)) some fits, link_again link rest) refl

hops_again : (port : ℕ) (link rest : List ℕ) → 1 ≤ port → port < 2 ^ 16 → 1 ≤ length link
    → hop_of (hop_bytes (hop port link) ++ rest) ≡ Ok (hop port link, rest)
hops_again port [] rest some fits linked = absurd (omega arith)
hops_again port (link ∷ []) rest some fits linked =
    ap (λ (t : List ℕ). hop_of (t ++ rest)) (short_form port link)
    ∙ ap (λ (t : List ℕ). hop_of (port_bits port ∷ t)) (append_assoc (extended_port port) (link ∷ []) rest)
    ∙ short_again port link rest some fits
hops_again port (l ∷ m ∷ ls) rest some fits linked =
    let link : List ℕ = l ∷ m ∷ ls in
    let long : 1 < length (l ∷ m ∷ ls) = omega arith in
    ap (λ (t : List ℕ). hop_of (t ++ rest)) (long_form port (l ∷ m ∷ ls) long)
    ∙ ap (λ (t : List ℕ). hop_of ((16 + port_bits port) ∷ length (l ∷ m ∷ ls) ∷ t))
    (append_assoc (extended_port port) ((l ∷ m ∷ ls) ++ pad_for (length (l ∷ m ∷ ls))) rest
    ∙ ap (λ (t : List ℕ). extended_port port ++ t) (append_assoc (l ∷ m ∷ ls) (pad_for (length (l ∷ m ∷ ls))) rest))
    ∙ long_again port (l ∷ m ∷ ls) rest some fits long

pub hop_again : (h : Hop) (rest b : List ℕ) → IsHopFirst h rest b → hop_of b ≡ Ok (h, rest)
hop_again h rest b is = ap hop_of is.spelled ∙ hops_again h.port h.link rest is.is_hop.port_from is.is_hop.port_to is.is_hop.link_from

pairs : (h k : Hop) (x y : List ℕ) (r : Result (Hop × List ℕ) HopFault) → r ≡ Ok (h, x) → r ≡ Ok (k, y) → (h ≡ k) × (x ≡ y)
pairs h k x y r e f =
    let same : (h, x) ≡ (k, y) = ok_is (h, x) (k, y) (sym e ∙ f) in
    (ap (λ (p : Hop × List ℕ). p.0) same, ap (λ (p : Hop × List ℕ). p.1) same)

pub hop_is_one : OneHop
hop_is_one h k x y b p q = pairs h k x y (hop_of b) (hop_again h x b p) (hop_again k y b q)
