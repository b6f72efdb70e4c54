use Rattle.std.proofs.Common.{◌≡◌, ℕ, ◌+◌, ◌^◌, ◌<◌, ◌≤◌, [], ◌∷◌, ◌++◌, length, Option, Some, None, refl, ap, arith, inl, inr}
use Rattle.std.proofs.lemmas.Bool.{le-ltb, lt-ltb, cases_lt}
use Rattle.std.proofs.lemmas.List.{length-append}
use Rattle.cip_bytes.specs.Numbers.{le}
use Rattle.cip_message.specs.declared.path.Path.{Path}
use Rattle.cip_message.specs.PathWriting.{short16, short32, short_optional, short}

-- The lengths of a path's segments.
short16_low : (first v : ℕ) → v < 2 ^ 8 → short16 first v ≡ first ∷ v ∷ []
short16_low first v lt = rw (lt-ltb v (2 ^ 8) lt) refl

short16_high : (first v : ℕ) → 2 ^ 8 ≤ v → short16 first v ≡ (first + 1) ∷ 0 ∷ le 2 v
short16_high first v ge = rw (le-ltb v (2 ^ 8) ge) refl

short16_at_most : (first v : ℕ) → length (short16 first v) ≤ 4
short16_at_most first v =
    elim (cases_lt v (2 ^ 8)) [
      | inl lt ↦ omega (arith, ap length (short16_low first v lt))
      | inr ge ↦ omega (arith, ap length (short16_high first v ge))
    ]

short32_low : (first v : ℕ) → v < 2 ^ 16 → short32 first v ≡ short16 first v
short32_low first v lt = rw (lt-ltb v (2 ^ 16) lt) refl

short32_high : (first v : ℕ) → 2 ^ 16 ≤ v → short32 first v ≡ (first + 2) ∷ 0 ∷ le 4 v
short32_high first v ge = rw (le-ltb v (2 ^ 16) ge) refl

short32_at_most : (first v : ℕ) → length (short32 first v) ≤ 6
short32_at_most first v =
    elim (cases_lt v (2 ^ 16)) [
      | inl lt ↦ omega (arith, ap length (short32_low first v lt), short16_at_most first v)
      | inr ge ↦ omega (arith, ap length (short32_high first v ge))
    ]

short_optional_at_most : (first : ℕ) (v : Option ℕ) → length (short_optional first v) ≤ 4
short_optional_at_most first None = omega arith
short_optional_at_most first (Some v) = short16_at_most first v

-- The shortest encoding of a path has at most 18 bytes.
pub short_at_most : (p : Path) → length (short p) ≤ 18
unfolding short
short_at_most p =
    let c = short16 0x20 p.class in
    let i = short32 0x24 p.instance in
    let a = short_optional 0x30 p.attribute in
    let m = short_optional 0x28 p.member in
    omega (
      arith,
      length-append ((c ++ i) ++ a) m,
      length-append (c ++ i) a,
      length-append c i,
      short16_at_most 0x20 p.class,
      short32_at_most 0x24 p.instance,
      short_optional_at_most 0x30 p.attribute,
      short_optional_at_most 0x28 p.member,
    )
