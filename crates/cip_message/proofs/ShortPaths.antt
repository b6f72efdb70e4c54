-- The shortest spelling of a path is a spelling, none is shorter, and different paths have different ones.
use Rattle.std.proofs.Common.{◌≡◌, ◌⊎◌, ℕ, ◌+◌, ◌^◌, ◌<◌, ◌≤◌, List, [], ◌∷◌, ◌++◌, length, take, Option, Some, None, Ok, refl, sym, ap, subst, ◌∙◌, append_assoc, arith, inl, inr}
use Rattle.std.specs.Prelude.{IfSome}
use Rattle.std.proofs.lemmas.Bool.{le-ltb, lt-ltb, cases_lt}
use Rattle.std.proofs.lemmas.List.{length-append, append-nil, take_at}
use Rattle.cip_message.specs.declared.path.Segment.{Segment}
use Rattle.cip_message.specs.declared.path.Segment.TheVariants.{Instance, Member, Attribute}
use Rattle.cip_message.specs.declared.path.Path.{Path}
use Rattle.cip_message.specs.declared.path.PathFault.{PathFault}
use Rattle.cip_bytes.specs.Numbers.{le}
use Rattle.cip_message.specs.Path.{In8, In16, IsSegment, AreSegments, optional, IsPath}
use Rattle.cip_message.specs.PathReading.{segment_of, path_of}
use Rattle.cip_message.specs.PathWriting.{short16, short32, short_optional, short, FitsPath, IsShortest, OneSegment}
use Rattle.cip_bytes.proofs.Steps.{ok_is}
use Rattle.cip_message.proofs.Segments.{segment_again}
use Rattle.cip_message.proofs.Paths.{path_again}

-- ---- one value

short16_low : (first v : ℕ) → v < 2 ^ 8 → short16 first v ≡ first ∷ v ∷ []
short16_low first v lt = rw (lt-ltb v (2 ^ 8) lt) refl

short16_high : (first v : ℕ) → 2 ^ 8 ≤ v → short16 first v ≡ (first + 1) ∷ 0 ∷ le 2 v
short16_high first v le_ = rw (le-ltb v (2 ^ 8) le_) refl

short32_low : (first v : ℕ) → v < 2 ^ 16 → short32 first v ≡ short16 first v
short32_low first v lt = rw (lt-ltb v (2 ^ 16) lt) refl

short32_high : (first v : ℕ) → 2 ^ 16 ≤ v → short32 first v ≡ (first + 2) ∷ 0 ∷ le 4 v
short32_high first v le_ = rw (le-ltb v (2 ^ 16) le_) refl

spells16 : (first v : ℕ) → v < 2 ^ 16 → In8 first v (short16 first v) ⊎ In16 (first + 1) v (short16 first v)
spells16 first v fits =
    elim (cases_lt v (2 ^ 8)) [
      | inl lt ↦ inl (record { fits = lt; spelled = short16_low first v lt })
      | inr ge ↦ inr (record { fits = fits; pad = 0; pad_fits = omega arith; spelled = short16_high first v ge })
    ]

spells32 : (v : ℕ) → v < 2 ^ 32 → IsSegment (Instance v) (short32 0x24 v)
spells32 v fits =
    elim (cases_lt v (2 ^ 16)) [
      | inl lt ↦ subst (λ (t : List ℕ). IsSegment (Instance v) t) (sym (short32_low 0x24 v lt))
          (elim (spells16 0x24 v lt) as (λ _. IsSegment (Instance v) (short16 0x24 v)) [ inl h ↦ inl h | inr h ↦ inr (inl h) ])
      | inr ge ↦ inr (inr (record { fits = fits; pad = 0; pad_fits = omega arith; spelled = short32_high 0x24 v ge }))
    ]

short16_at_most : (first v : ℕ) → length (short16 first v) ≤ 4
short16_at_most first v =
    elim (cases_lt v (2 ^ 8)) [
      | inl lt ↦ omega (arith, ap length (short16_low first v lt))
      | inr ge ↦ omega (arith, ap length (short16_high first v ge))
    ]

least16 : (first x y v : ℕ) (s : List ℕ) → In8 x v s ⊎ In16 y v s → length (short16 first v) ≤ length s
least16 first x y v s (inl h) = omega (arith, ap length h.spelled, ap length (short16_low first v h.fits))
least16 first x y v s (inr h) = omega (arith, ap length h.spelled, short16_at_most first v)

least32 : (v : ℕ) (s : List ℕ) → IsSegment (Instance v) s → length (short32 0x24 v) ≤ length s
least32 v s (inl h) = omega (arith, ap length h.spelled, ap length (short32_low 0x24 v (omega (arith, h.fits))), ap length (short16_low 0x24 v h.fits))
least32 v s (inr (inl h)) = omega (arith, ap length h.spelled, ap length (short32_low 0x24 v h.fits), short16_at_most 0x24 v)
least32 v s (inr (inr h)) =
    elim (cases_lt v (2 ^ 16)) [
      | inl lt ↦ omega (arith, ap length h.spelled, ap length (short32_low 0x24 v lt), short16_at_most 0x24 v)
      | inr ge ↦ omega (arith, ap length h.spelled, ap length (short32_high 0x24 v ge))
    ]

-- ---- attribute and member

spells_tail : (a m : Option ℕ) → IfSome a (λ v. v < 2 ^ 16) → IfSome m (λ v. v < 2 ^ 16) → AreSegments (optional Attribute a ++ optional Member m) (short_optional 0x30 a ++ short_optional 0x28 m)
spells_tail None None fa fm = refl
spells_tail None (Some m) fa fm = (short16 0x28 m, [], spells16 0x28 m fm, refl, sym (append-nil (short16 0x28 m)))
spells_tail (Some a) None fa fm = (short16 0x30 a, [], spells16 0x30 a fa, refl, refl)
spells_tail (Some a) (Some m) fa fm =
    (short16 0x30 a, short16 0x28 m, spells16 0x30 a fa, (short16 0x28 m, [], spells16 0x28 m fm, refl, sym (append-nil (short16 0x28 m))), refl)

least_tail : (a m : Option ℕ) (t : List ℕ) → AreSegments (optional Attribute a ++ optional Member m) t → length (short_optional 0x30 a) + length (short_optional 0x28 m) ≤ length t
least_tail None None t h = omega arith
least_tail None (Some m) t h = omega (arith, ap length h.4, length-append h.0 h.1, least16 0x28 0x28 0x29 m h.0 h.2)
least_tail (Some a) None t h = omega (arith, ap length h.4, length-append h.0 h.1, least16 0x30 0x30 0x31 a h.0 h.2)
least_tail (Some a) (Some m) t h =
    let q = h.3 in
    omega (arith, ap length h.4, length-append h.0 h.1, least16 0x30 0x30 0x31 a h.0 h.2, ap length q.4, length-append q.0 q.1, least16 0x28 0x28 0x29 m q.0 q.2)

-- ---- a path

short_is_path : (p : Path) → FitsPath p → IsPath p (short p)
unfolding short IsPath
short_is_path p f =
    let c = short16 0x20 p.class in
    let i = short32 0x24 p.instance in
    let a = short_optional 0x30 p.attribute in
    let m = short_optional 0x28 p.member in (
      c,
      i ++ (a ++ m),
      spells16 0x20 p.class f.class,
      (i, a ++ m, spells32 p.instance f.instance, spells_tail p.attribute p.member f.attribute f.member, refl),
      append_assoc (c ++ i) a m ∙ append_assoc c i (a ++ m),
    )

short_is_least : (p : Path) (b : List ℕ) → IsPath p b → length (short p) ≤ length b
unfolding short IsPath
short_is_least p b h =
    let c = short16 0x20 p.class in
    let i = short32 0x24 p.instance in
    let a = short_optional 0x30 p.attribute in
    let m = short_optional 0x28 p.member in
    let q = h.3 in
    let l1 = least16 0x20 0x20 0x21 p.class h.0 h.2 in
    let l2 = least32 p.instance q.0 q.2 in
    let l3 = least_tail p.attribute p.member q.1 q.3 in
    omega (arith, l1, l2, l3, ap length h.4, length-append h.0 h.1, ap length q.4, length-append q.0 q.1, length-append ((c ++ i) ++ a) m, length-append (c ++ i) a, length-append c i)

short_read : (p : Path) → FitsPath p → path_of (short p) ≡ Ok p
short_read p f = path_again (short p) p (short_is_path p f)

pub is_shortest : (p : Path) → FitsPath p → IsShortest p
is_shortest p f = record {
  is_path = short_is_path p f;
  least = short_is_least p;
  only = λ q g. ((λ e. ok_is {E = PathFault} p q (sym (short_read p f) ∙ ap path_of e ∙ short_read q g)), (λ e. ap short e));
}

-- ---- one segment

cancel_right : (a b x : List ℕ) → a ++ x ≡ b ++ x → a ≡ b
cancel_right a b x e =
    let lens : length b ≡ length a = omega (arith, ap length e, length-append a x, length-append b x) in
    sym (take_at a x (length a) refl) ∙ ap (take (length a)) e ∙ take_at b x (length a) lens

pub segment_is_one : OneSegment
segment_is_one g h a b x y p q e =
    let same : segment_of (a ++ x) ≡ segment_of (b ++ y) = ap segment_of e in
    let both = ok_is {E = PathFault} (g, x) (h, y) (sym (segment_again g a x p) ∙ same ∙ segment_again h b y q) in
    let rest : x ≡ y = ap (λ (z : Segment × List ℕ). z.1) both in
    (ap (λ (z : Segment × List ℕ). z.0) both, cancel_right a b x (e ∙ ap (λ (t : List ℕ). b ++ t) (sym rest)), rest)
