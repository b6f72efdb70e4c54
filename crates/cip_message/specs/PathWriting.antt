-- The shortest spelling of a path: each value in the least width that holds it, with pad bytes 0.
use Rattle.std.specs.Prelude.{◌≡◌, ℕ, ◌+◌, ◌<◌, ◌≤◌, ◌^◌, ◌↔◌, List, [], ◌∷◌, ◌++◌, length, Option, Some, None, nat_lt}
use Rattle.std.specs.Prelude.{if◌then◌else◌, IfSome}
use Rattle.cip_bytes.specs.Numbers.{le}
use Rattle.cip_message.specs.Path.{IsSegment, IsPath}
use Rattle.cip_message.specs.declared.path.Segment.{Segment}
use Rattle.cip_message.specs.declared.path.Path.{Path}

-- The shortest segment with a value of up to 16 bits. `first` is its first byte in 8-bit format.
abbrev pub short16 : ℕ → ℕ → List ℕ
short16 first v = if nat_lt v (2 ^ 8) then first ∷ v ∷ [] else (first + 1) ∷ 0 ∷ le 2 v

-- The same for a value of up to 32 bits.
abbrev pub short32 : ℕ → ℕ → List ℕ
short32 first v = if nat_lt v (2 ^ 16) then short16 first v else (first + 2) ∷ 0 ∷ le 4 v

-- The same for an optional value.
abbrev pub short_optional : ℕ → Option ℕ → List ℕ
short_optional first None = []
short_optional first (Some v) = short16 first v

-- Class, instance, attribute if any, member if any.
unfoldable pub short : Path → List ℕ
short p =
    short16 0x20 p.class ++ short32 0x24 p.instance ++ short_optional 0x30 p.attribute ++ short_optional 0x28 p.member

-- Each value fits its field.
pub record FitsPath (p : Path) : Type 0 where
  pub class : p.class < 2 ^ 16
  pub instance : p.instance < 2 ^ 32
  pub attribute : IfSome p.attribute (λ v. v < 2 ^ 16)
  pub member : IfSome p.member (λ v. v < 2 ^ 16)

-- The shortest spelling is a spelling, none is shorter, and different paths have different ones.
pub record IsShortest (p : Path) : Type 0 where
  pub is_path : IsPath p (short p)
  pub least : (b : List ℕ) → IsPath p b → length (short p) ≤ length b
  pub only : (q : Path) → FitsPath q → (short p ≡ short q) ↔ (p ≡ q)

-- At most one segment spells a prefix of some bytes.
abbrev pub OneSegment : Type 0
OneSegment = (g h : Segment) (a b x y : List ℕ) → IsSegment g a → IsSegment h b → a ++ x ≡ b ++ y
    → (g ≡ h) × (a ≡ b) × (x ≡ y)
