-- Both ways: an identity that is read has this spelling, and each spelling is read.
use Rattle.std.proofs.Common.{◌≡◌, ◌↔◌, ℕ, zero, suc, ◌+◌, ◌*◌, ◌/◌, ◌%◌, ◌^◌, ◌-◌, ◌<◌, ◌≤◌, Bool, true, false, List, [], ◌∷◌, ◌++◌, length, slice_index, get_or, take, drop, Option, Some, None, refl, sym, ap, subst, ◌∙◌, arith, add-zero, append-nil, length-append, length-drop, length-take}
use Rattle.std.specs.Prelude.{◌==◌, if◌then◌else◌, slice_range}
use Rattle.std.specs.Option.{option_map}
use Rattle.std.proofs.lemmas.Bool.{eqb-true, eq-eqb}
use Rattle.std.proofs.lemmas.List.{take_at, drop_all, take-append-drop, drop-drop, get_or-drop}
use Rattle.byteorder.specs.Endian.{big_bytes, big_from, big_number}
use Rattle.byteorder.specs.Numbers.{big_number-reads_back}
use Rattle.cip_bytes.specs.Numbers.{le, AreBytes}
use Rattle.cip_bytes.proofs.Bytes.{AreBytes-drop, cells, drop-cells, le2_again, le4_again, rest_slice, at1, at2, at4, Parts, parts_then}
use Rattle.enip_wire.proofs.FrameLemmas.{number-two, number-four}
use Rattle.enip_client.specs.declared.identity.IdentityView.{IdentityView}
use Rattle.enip_client.specs.Identity.{Identity, IsIdentity, SpellsIdentity, identity_with, socket_with, identity_fields, identity_of, identity_in}

abbrev pub made : ℕ → ℕ → ℕ → List ℕ → ℕ → ℕ → ℕ → ℕ → ℕ → ℕ → ℕ → List ℕ → ℕ → Identity
made version family port address vendor device_type product_code major minor status serial name state = record {
  version = version;
  family = family;
  port = port;
  address = address;
  vendor = vendor;
  device_type = device_type;
  product_code = product_code;
  major = major;
  minor = minor;
  status = status;
  serial = serial;
  name = name;
  state = state;
}

-- the fields, one by one
pub same_identity : (i : Identity) (v f p : ℕ) (a : List ℕ) (n t c x y s e : ℕ) (m : List ℕ) (z : ℕ) → v ≡ i.version → f ≡ i.family → p ≡ i.port → a ≡ i.address → n ≡ i.vendor → t ≡ i.device_type
    → c ≡ i.product_code → x ≡ i.major → y ≡ i.minor → s ≡ i.status → e ≡ i.serial → m ≡ i.name → z ≡ i.state → made v f p a n t c x y s e m z ≡ i
same_identity i v f p a n t c x y s e m z ev ef ep ea en et ec ex ey es ee em ez =
    rw (ev, ef, ep, ea, en, et, ec, ex, ey, es, ee, em, ez) refl

-- ---- big-endian numbers

big_from-drop : (n i k : ℕ) (b : List ℕ) → big_from i n (drop k b) ≡ big_from (k + i) n b
big_from-drop zero i k b = refl
big_from-drop (suc n) i k b =
    let place : k + suc i ≡ suc (k + i) = omega arith in
    let rest = big_from-drop n (suc i) k b ∙ ap (λ p. big_from p n b) place in
    rw (get_or-drop, rest) refl

-- the number that is read from `&b[k..]` is the one at that offset
pub big_behind : (n k : ℕ) (b : List ℕ) → big_number n (take (length b - k) (drop k b)) ≡ big_from k n b
big_behind n k b = ap (big_number n) (rest_slice k b) ∙ big_from-drop n 0 k b ∙ ap (λ p. big_from p n b) (add-zero k)

big_two : (a b : ℕ) → a < 256 → b < 256 → big_bytes 2 (a * 256 + (b * 1 + 0)) ≡ a ∷ b ∷ []
big_two a b p q =
    let first : (a * 256 + (b * 1 + 0)) / 256 % 256 ≡ a = omega arith in
    let second : (a * 256 + (b * 1 + 0)) % 256 ≡ b = omega arith in
    rw (first, second) refl

big2_at : (k : ℕ) (b : List ℕ) → AreBytes b → k + 2 ≤ length b → Parts (drop k b) (big_bytes 2 (big_from k 2 b)) (drop (k + 2) b)
big2_at k b fits h =
    record { is = drop-cells 2 k b h ∙ ap (λ (t : List ℕ). t ++ drop (k + 2) b) (sym (big_two (get_or b k 0) (get_or b (suc k) 0) (fits k) (fits (suc k)))) }

big2_again : (v : ℕ) → v < 2 ^ 16 → big_from 0 2 (big_bytes 2 v ++ []) ≡ v
big2_again v h = big_number-reads_back 2 v [] h

-- ---- a part of a text

part_at : (n k : ℕ) (b : List ℕ) → Parts (drop k b) (take n (drop k b)) (drop (k + n) b)
part_at n k b =
    record { is = sym (take-append-drop n (drop k b)) ∙ ap (λ (r : List ℕ). take n (drop k b) ++ r) (drop-drop n k b) }

front_of : (n : ℕ) (t : List ℕ) → Parts t (take n t) (drop n t)
front_of n t = record { is = sym (take-append-drop n t) }

-- as many items as a list has
all_cells_four : (l : List ℕ) → length l ≡ 4 → l ≡ cells 4 0 l
all_cells_four l e = drop-cells 4 0 l (omega arith) ∙ ap (λ (r : List ℕ). cells 4 0 l ++ r) (drop_all 4 l (omega arith))

all_cells_eight : (l : List ℕ) → length l ≡ 8 → l ≡ cells 8 0 l
all_cells_eight l e = drop-cells 8 0 l (omega arith) ∙ ap (λ (r : List ℕ). cells 8 0 l ++ r) (drop_all 8 l (omega arith))

at_end : (xs : List ℕ) (x : ℕ) → get_or (xs ++ x ∷ []) (length xs) 0 ≡ x
at_end [] x = refl
at_end (y ∷ xs) x = at_end xs x

-- ---- what is read is spelled so

-- the spelling with any number instead of the name's length
abbrev identity_by : ℕ → List ℕ → Identity → List ℕ
identity_by size filling i =
    le 2 i.version ++ socket_with filling i ++ le 2 i.vendor ++ le 2 i.device_type ++ le 2 i.product_code
    ++ i.major ∷ i.minor ∷ [] ++ le 2 i.status ++ le 4 i.serial ++ size ∷ [] ++ i.name ++ i.state ∷ []

text_by : (b : List ℕ) → AreBytes b → length b ≡ 34 + slice_index b 32 → b ≡ identity_by (slice_index b 32) (slice_range b 10 18) (identity_fields b)
unfolding identity_fields
text_by b fits h =
    let n = slice_index b 32 in
    let t = drop 33 b in
    let counted : length t ≡ suc n = omega (arith, length-drop 33 b) in
    let s1 = parts_then (big2_at 2 b fits (omega arith)) (big2_at 4 b fits (omega arith)) in
    let s2 = parts_then s1 (part_at 4 6 b) in
    let s3 = parts_then s2 (part_at 8 10 b) in
    let p0 = parts_then (at2 0 b fits (omega arith)) s3 in
    let p1 = parts_then p0 (at2 18 b fits (omega arith)) in
    let p2 = parts_then p1 (at2 20 b fits (omega arith)) in
    let p3 = parts_then p2 (at2 22 b fits (omega arith)) in
    let p4 = parts_then p3 (parts_then (at1 24 b (omega arith)) (at1 25 b (omega arith))) in
    let p5 = parts_then p4 (at2 26 b fits (omega arith)) in
    let p6 = parts_then p5 (at4 28 b fits (omega arith)) in
    let p7 = parts_then p6 (at1 32 b (omega arith)) in
    let p8 = parts_then p7 (front_of n t) in
    let p9 = parts_then p8 (at1 n t (omega arith)) in
    p9.is ∙ ap (λ (r : List ℕ). identity_by n (slice_range b 10 18) (identity_fields b) ++ r) (drop_all (suc n) t (omega arith))
    ∙ append-nil (identity_by n (slice_range b 10 18) (identity_fields b))

fields_fit : (b : List ℕ) → AreBytes b → length b ≡ 34 + slice_index b 32 → IsIdentity (identity_fields b)
unfolding identity_fields
fields_fit b fits h =
    record {
      version = number-two 0 b fits;
      family = omega (arith, fits 2, fits 3);
      port = omega (arith, fits 4, fits 5);
      address = omega (arith, length-take 4 (drop 6 b), length-drop 6 b);
      vendor = number-two 18 b fits;
      device_type = number-two 20 b fits;
      product_code = number-two 22 b fits;
      major = fits 24;
      minor = fits 25;
      status = number-two 26 b fits;
      serial = number-four 28 b fits;
      name = omega (arith, length-take (slice_index b 32) (drop 33 b), fits 32);
      state = AreBytes-drop 33 b fits (slice_index b 32);
    }

identity_text : (b : List ℕ) → AreBytes b → length b ≡ 34 + slice_index b 32 → SpellsIdentity (identity_fields b) b
unfolding identity_fields
identity_text b fits h =
    let n = slice_index b 32 in
    let counted : length (take n (drop 33 b)) ≡ n = omega (arith, length-take n (drop 33 b), length-drop 33 b) in
    record {
      filling = slice_range b 10 18;
      eight = omega (arith, length-take 8 (drop 10 b), length-drop 10 b);
      is_identity = fields_fit b fits h;
      spelled = text_by b fits h ∙ ap (λ (k : ℕ). identity_by k (slice_range b 10 18) (identity_fields b)) (sym counted);
    }

-- ---- what is spelled is read

-- with the bytes of its address, one by one
abbrev spread : Identity → Identity
spread i = record i { address = cells 4 0 i.address }

spread_same : (i : Identity) → IsIdentity i → spread i ≡ i
spread_same i h = ap (λ (a : List ℕ). record i { address = a }) (sym (all_cells_four i.address h.address))

length_spread : (f : List ℕ) (i : Identity) → length (identity_with (cells 8 0 f) (spread i)) ≡ 34 + length i.name
length_spread f i = omega (arith, length-append i.name (i.state ∷ []))

fields_spread : (f : List ℕ) (i : Identity) → IsIdentity i → identity_fields (identity_with (cells 8 0 f) (spread i)) ≡ spread i
unfolding identity_fields
fields_spread f i h =
    same_identity (spread i) _ _ _ _ _ _ _ _ _ _ _ _ _ (le2_again i.version h.version []) (big2_again i.family h.family) (big2_again i.port h.port) refl
    (le2_again i.vendor h.vendor []) (le2_again i.device_type h.device_type []) (le2_again i.product_code h.product_code []) refl refl
    (le2_again i.status h.status []) (le4_again i.serial h.serial [])
    (take_at i.name (i.state ∷ []) (length i.name) refl) (at_end i.name i.state)

of_fields : (b : List ℕ) (i : Identity) → length b ≡ 34 + slice_index b 32 → identity_fields b ≡ i → identity_of b ≡ Some i
unfolding identity_of
of_fields b i len e = rw (eq-eqb (length b) (34 + slice_index b 32) len) (ap (λ (x : Identity). Some x) e)

of_spread : (f : List ℕ) (i : Identity) → IsIdentity i → identity_of (identity_with (cells 8 0 f) (spread i)) ≡ Some (spread i)
of_spread f i h = of_fields (identity_with (cells 8 0 f) (spread i)) (spread i) (length_spread f i) (fields_spread f i h)

pub identity_again : (b : List ℕ) (i : Identity) → SpellsIdentity i b → identity_of b ≡ Some i
identity_again b i h =
    let same = spread_same i h.is_identity in
    ap identity_of (h.spelled ∙ ap (λ (f : List ℕ). identity_with f i) (all_cells_eight h.filling h.eight)
    ∙ ap (λ (j : Identity). identity_with (cells 8 0 h.filling) j) (sym same))
    ∙ of_spread h.filling i h.is_identity ∙ ap (λ (j : Identity). Some j) same

-- ---- both

guarded_some : {A : Type 0} (t : Bool) (x y : A) → (if t then Some x else None) ≡ Some y → (t ≡ true) × (x ≡ y)
guarded_some true x y e = (refl, cc)
guarded_some false x y e = absurd cc

pub identity_taken : (b : List ℕ) (i : Identity) → AreBytes b → identity_of b ≡ Some i → SpellsIdentity i b
unfolding identity_of
identity_taken b i fits e =
    let g = guarded_some (length b == 34 + slice_index b 32) (identity_fields b) i e in
    subst (λ (j : Identity). SpellsIdentity j b) g.1 (identity_text b fits (eqb-true _ _ g.0))

-- of what a reader returned
pub reads_identity : (b : List ℕ) (r : Option IdentityView) → AreBytes b → option_map identity_in r ≡ identity_of b → (i : Identity)
    → (option_map identity_in r ≡ Some i) ↔ SpellsIdentity i b
reads_identity b r fits e i = ((λ h. identity_taken b i fits (sym e ∙ h)), (λ h. e ∙ identity_again b i h))
