-- A key that is read is the one spelled, and what is spelled is read. A device's answer to a key follows its tests.
use Rattle.std.proofs.Common.{◌≡◌, ◌⊎◌, ◌↔◌, ℕ, ◌+◌, ◌*◌, ◌-◌, ◌^◌, ◌<◌, ◌≤◌, Bool, true, false, cond, ltb, leb, eqb, List, [], ◌∷◌, ◌++◌, length, slice_index, Option, Some, None, refl, sym, ap, subst, ◌∙◌, arith, inl, inr}
use Rattle.std.specs.Prelude.{◌&&◌, ◌||◌, IsTrue, IsNone}
use Rattle.std.proofs.lemmas.Bool.{le-ltb, lt-ltb, eqb-true, cases_lt}
use Rattle.std.proofs.lemmas.Bool.Decides.{nat_tests}
use Rattle.std.proofs.Common.{eq-eqb, leb-true, le-leb}
use Rattle.cip_message.specs.declared.key.Key.{Key}
use Rattle.cip_message.specs.declared.key.Device.{Device}
use Rattle.cip_bytes.specs.declared.protocol.ExtendedStatus.{ExtendedStatus}
use Rattle.cip_bytes.specs.declared.protocol.ExtendedStatus.TheVariants.{VendorOrProduct, DeviceType, Revision}
use Rattle.cip_bytes.specs.Numbers.{le, AreBytes, number_at}
use Rattle.cip_message.specs.Key.{IsKey, key, IsMet, MeetsVendor, MeetsType, MeetsRevision, is_met, refusal, key_of}
use Rattle.cip_bytes.proofs.Bytes.{le2_back, le2_again}

-- ---- reading

abbrev made : ℕ → ℕ → ℕ → ℕ → Bool → ℕ → Key
made v d p m c i = record { vendor = v; device_type = d; product_code = p; major = m; compatible = c; minor = i }

-- the numbers in the ten bytes of a key
abbrev fields : List ℕ → Key
fields b =
    made (number_at 2 2 b) (number_at 4 2 b) (number_at 6 2 b)
    (cond (ltb (slice_index b 8) 128) (slice_index b 8) (slice_index b 8 - 128)) (leb 128 (slice_index b 8)) (slice_index b 9)

some_if : (b : Bool) (x k : Key) → cond b (Some x) None ≡ Some k → (b ≡ true) × (x ≡ k)
some_if true x k e = (refl, cc)
some_if false x k e = absurd cc

both_true : (a b : Bool) → (a && b) ≡ true → (a ≡ true) × (b ≡ true)
both_true true b e = (refl, e)
both_true false b e = absurd cc

-- the byte of a revision, split and joined
revision_fits : (h : ℕ) → h < 256 → cond (ltb h 128) h (h - 128) < 2 ^ 7
revision_fits h lt =
    elim (cases_lt h 128) [
      | inl low ↦ rw (lt-ltb h 128 low) (omega arith)
      | inr high ↦ rw (le-ltb h 128 high) (omega arith)
    ]

revision_back : (h : ℕ) → cond (ltb h 128) h (h - 128) + cond (leb 128 h) 128 0 ≡ h
revision_back h = grind (arith, nat_tests)

major_again : (m : ℕ) (c : Bool) → m < 128 → cond (ltb (m + cond c 128 0) 128) (m + cond c 128 0) (m + cond c 128 0 - 128) ≡ m
major_again m true lt = grind (arith, nat_tests)
major_again m false lt = grind (arith, nat_tests)

compatible_again : (m : ℕ) (c : Bool) → m < 128 → leb 128 (m + cond c 128 0) ≡ c
compatible_again m true lt = grind (arith, nat_tests)
compatible_again m false lt = grind (arith, nat_tests)

join_key : (a c d e f g h i r : ℕ) (x y z : List ℕ) → x ≡ a ∷ c ∷ [] → y ≡ d ∷ e ∷ [] → z ≡ f ∷ g ∷ [] → r ≡ h
    → 0x34 ∷ 0x04 ∷ (x ++ y ++ z ++ r ∷ i ∷ []) ≡ 0x34 ∷ 0x04 ∷ a ∷ c ∷ d ∷ e ∷ f ∷ g ∷ h ∷ i ∷ []
join_key a c d e f g h i r x y z ex ey ez er = rw (ex, ey, ez, er) refl

number_back : (a b : ℕ) → a < 256 → b < 256 → le 2 (a + 256 * (b + 0)) ≡ a ∷ b ∷ []
number_back a b ha hb = ap (le 2) (let e : a + 256 * (b + 0) ≡ a + 256 * b = omega arith in e) ∙ le2_back a b ha hb

pub key_taken : (b : List ℕ) (k : Key) → AreBytes b → key_of b ≡ Some k → IsKey k × (b ≡ key k)
unfolding key_of
key_taken (x ∷ y ∷ a ∷ c ∷ d ∷ e ∷ f ∷ g ∷ h ∷ i ∷ []) k fits q =
    let b = x ∷ y ∷ a ∷ c ∷ d ∷ e ∷ f ∷ g ∷ h ∷ i ∷ [] in
    let s = some_if ((eqb x 0x34) && (eqb y 0x04)) (fields b) k q in
    let t = both_true (eqb x 0x34) (eqb y 0x04) s.0 in
    let is : IsKey (fields b) = record {
      vendor = omega (arith, fits 2, fits 3);
      device_type = omega (arith, fits 4, fits 5);
      product_code = omega (arith, fits 6, fits 7);
      major = revision_fits h (fits 8);
      minor = fits 9;
    } in
    let joined = join_key a c d e f g h i _ _ _ _ (number_back a c (fits 2) (fits 3)) (number_back d e (fits 4) (fits 5)) (number_back f g (fits 6) (fits 7)) (revision_back h) in
    let front : b ≡ 0x34 ∷ 0x04 ∷ a ∷ c ∷ d ∷ e ∷ f ∷ g ∷ h ∷ i ∷ [] = rw (eqb-true x 0x34 t.0, eqb-true y 0x04 t.1) refl in
    subst (λ (j : Key). IsKey j × (b ≡ key j)) s.1 (is, front ∙ sym joined)
key_taken (x ∷ y ∷ a ∷ c ∷ d ∷ e ∷ f ∷ g ∷ h ∷ i ∷ j ∷ rest) k fits q =
    let b = x ∷ y ∷ a ∷ c ∷ d ∷ e ∷ f ∷ g ∷ h ∷ i ∷ j ∷ rest in
    let s = some_if (((eqb (length b) 10) && (eqb x 0x34)) && (eqb y 0x04)) (fields b) k q in
    let t = both_true (eqb (length b) 10) (eqb x 0x34) (both_true ((eqb (length b) 10) && (eqb x 0x34)) (eqb y 0x04) s.0).0 in
    let len : length b ≡ 10 = eqb-true (length b) 10 t.0 in
    absurd (omega arith)
key_taken b k fits q = absurd cc

key_same : (k : Key) (v d p m i : ℕ) (c : Bool) → v ≡ k.vendor → d ≡ k.device_type → p ≡ k.product_code → m ≡ k.major → c ≡ k.compatible → i ≡ k.minor → made v d p m c i ≡ k
key_same k v d p m i c ev ed ep em ec ei = rw (ev, ed, ep, em, ec, ei) refl

pub key_again : (k : Key) → IsKey k → key_of (key k) ≡ Some k
unfolding key_of
key_again k h =
    ap (λ (j : Key). Some j)
    (key_same k _ _ _ _ _ _ (le2_again k.vendor h.vendor []) (le2_again k.device_type h.device_type []) (le2_again k.product_code h.product_code [])
    (major_again k.major k.compatible h.major) (compatible_again k.major k.compatible h.major) refl)

pub key_iff : (b : List ℕ) (r : Option Key) → AreBytes b → r ≡ key_of b → (k : Key) → (r ≡ Some k) ↔ (IsKey k × (b ≡ key k))
key_iff b r fits e k = ((λ q. key_taken b k fits (sym e ∙ q)), (λ h. e ∙ ap key_of h.1 ∙ key_again k h.0))

-- ---- a device's answer

met_iff : (asked has : ℕ) → (is_met asked has ≡ true) ↔ IsMet asked has
met_iff asked has = either (eqb asked 0) (eqb asked has) (eqb-true asked 0) (eqb-true asked has) (eq-eqb asked 0) (eq-eqb asked has)
  where
    either : (a b : Bool) → (a ≡ true → asked ≡ 0) → (b ≡ true → asked ≡ has) → (asked ≡ 0 → a ≡ true) → (asked ≡ has → b ≡ true) → ((a || b) ≡ true) ↔ IsMet asked has
    either true b p q r s = ((λ e. inl (p refl)), (λ h. refl))
    either false true p q r s = ((λ e. inr (q refl)), (λ h. refl))
    either false false p q r s = ((λ e. absurd cc), (λ h. elim h [ inl e ↦ r e | inr e ↦ s e ]))

or_iff : (a b : Bool) {P Q : Type 0} → (a ≡ true) ↔ P → (b ≡ true) ↔ Q → ((a || b) ≡ true) ↔ (P ⊎ Q)
or_iff true b p q = ((λ e. inl (p.0 refl)), (λ h. refl))
or_iff false b p q = ((λ e. inr (q.0 e)), (λ h. elim h [ inl x ↦ absurd (let f = p.1 x in cc) | inr y ↦ q.1 y ]))

and_iff : (a b : Bool) {P Q : Type 0} → (a ≡ true) ↔ P → (b ≡ true) ↔ Q → ((a && b) ≡ true) ↔ (P × Q)
and_iff true b p q = ((λ e. (p.0 refl, q.0 e)), (λ h. q.1 h.1))
and_iff false b p q = ((λ e. absurd cc), (λ h. absurd (let f = p.1 h.0 in cc)))

le_iff : (a b : ℕ) → (leb a b ≡ true) ↔ (a ≤ b)
le_iff a b = (leb-true a b, le-leb a b)

vendor_iff : (d : Device) (k : Key) → ((is_met k.vendor d.vendor && is_met k.product_code d.product_code) ≡ true) ↔ MeetsVendor d k
vendor_iff d k =
    let b = and_iff (is_met k.vendor d.vendor) (is_met k.product_code d.product_code) (met_iff k.vendor d.vendor) (met_iff k.product_code d.product_code) in
    ((λ e. let h = b.0 e in record { vendor = h.0; product_code = h.1 }), (λ h. b.1 (h.vendor, h.product_code)))

revision_iff : (d : Device) (k : Key) → ((is_met k.major d.major && (is_met k.minor d.minor || (k.compatible && leb k.minor d.minor))) ≡ true) ↔ MeetsRevision d k
revision_iff d k =
    let up = and_iff k.compatible (leb k.minor d.minor) {P = IsTrue k.compatible} ((λ e. e), (λ e. e)) (le_iff k.minor d.minor) in
    let minor = or_iff (is_met k.minor d.minor) (k.compatible && leb k.minor d.minor) (met_iff k.minor d.minor) up in
    let b = and_iff (is_met k.major d.major) (is_met k.minor d.minor || (k.compatible && leb k.minor d.minor)) (met_iff k.major d.major) minor in
    ((λ e. let h = b.0 e in record { major = h.0; minor = h.1 }), (λ h. b.1 (h.major, h.minor)))

-- the first of three tests that fails
abbrev first_failed : Bool → Bool → Bool → Option ExtendedStatus
first_failed v t r = cond v (cond t (cond r None (Some Revision)) (Some DeviceType)) (Some VendorOrProduct)

none_failed : (v t r : Bool) {V T R : Type 0} → (v ≡ true) ↔ V → (t ≡ true) ↔ T → (r ≡ true) ↔ R → IsNone (first_failed v t r) ↔ (V × T × R)
none_failed true true true p q s = ((λ e. (p.0 refl, q.0 refl, s.0 refl)), (λ h. refl))
none_failed true true false p q s = ((λ e. absurd cc), (λ h. absurd (let f = s.1 h.2 in cc)))
none_failed true false r p q s = ((λ e. absurd cc), (λ h. absurd (let f = q.1 h.1 in cc)))
none_failed false t r p q s = ((λ e. absurd cc), (λ h. absurd (let f = p.1 h.0 in cc)))

first_is : (v t r : Bool) {V : Type 0} → (v ≡ true) ↔ V → (first_failed v t r ≡ Some VendorOrProduct) ↔ (V → ⊥)
first_is true true true p = ((λ e. absurd cc), (λ n. absurd (n (p.0 refl))))
first_is true true false p = ((λ e. absurd cc), (λ n. absurd (n (p.0 refl))))
first_is true false r p = ((λ e. absurd cc), (λ n. absurd (n (p.0 refl))))
first_is false t r p = ((λ e h. let f = p.1 h in absurd cc), (λ n. refl))

second_is : (v t r : Bool) {V T : Type 0} → (v ≡ true) ↔ V → (t ≡ true) ↔ T → (first_failed v t r ≡ Some DeviceType) ↔ (V × (T → ⊥))
second_is true true true p q = ((λ e. absurd cc), (λ n. absurd (n.1 (q.0 refl))))
second_is true true false p q = ((λ e. absurd cc), (λ n. absurd (n.1 (q.0 refl))))
second_is true false r p q = ((λ e. (p.0 refl, λ h. let f = q.1 h in absurd cc)), (λ n. refl))
second_is false t r p q = ((λ e. absurd cc), (λ n. absurd (let f = p.1 n.0 in cc)))

third_is : (v t r : Bool) {V T R : Type 0} → (v ≡ true) ↔ V → (t ≡ true) ↔ T → (r ≡ true) ↔ R → (first_failed v t r ≡ Some Revision) ↔ (V × T × (R → ⊥))
third_is true true true p q s = ((λ e. absurd cc), (λ n. absurd (n.2 (s.0 refl))))
third_is true true false p q s = ((λ e. (p.0 refl, q.0 refl, λ h. let f = s.1 h in absurd cc)), (λ n. refl))
third_is true false r p q s = ((λ e. absurd cc), (λ n. absurd (let f = q.1 n.1 in cc)))
third_is false t r p q s = ((λ e. absurd cc), (λ n. absurd (let f = p.1 n.0 in cc)))

abbrev vendor_test : Device → Key → Bool
vendor_test d k = is_met k.vendor d.vendor && is_met k.product_code d.product_code

abbrev type_test : Device → Key → Bool
type_test d k = is_met k.device_type d.device_type

abbrev revision_test : Device → Key → Bool
revision_test d k = is_met k.major d.major && (is_met k.minor d.minor || (k.compatible && leb k.minor d.minor))

pub accepted_iff : (d : Device) (k : Key) → IsNone (refusal d k) ↔ (MeetsVendor d k × MeetsType d k × MeetsRevision d k)
accepted_iff d k = none_failed (vendor_test d k) (type_test d k) (revision_test d k) (vendor_iff d k) (met_iff k.device_type d.device_type) (revision_iff d k)

pub vendor_refused : (d : Device) (k : Key) → (refusal d k ≡ Some VendorOrProduct) ↔ (MeetsVendor d k → ⊥)
vendor_refused d k = first_is (vendor_test d k) (type_test d k) (revision_test d k) (vendor_iff d k)

pub type_refused : (d : Device) (k : Key) → (refusal d k ≡ Some DeviceType) ↔ (MeetsVendor d k × (MeetsType d k → ⊥))
type_refused d k = second_is (vendor_test d k) (type_test d k) (revision_test d k) (vendor_iff d k) (met_iff k.device_type d.device_type)

pub revision_refused : (d : Device) (k : Key) → (refusal d k ≡ Some Revision) ↔ (MeetsVendor d k × MeetsType d k × (MeetsRevision d k → ⊥))
revision_refused d k = third_is (vendor_test d k) (type_test d k) (revision_test d k) (vendor_iff d k) (met_iff k.device_type d.device_type) (revision_iff d k)
