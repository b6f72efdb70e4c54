-- Paths to an object (Volume 1, appendix on segments: logical segments, padded form).
use Rattle.std.specs.Prelude.{◌≡◌, ◌≢◌, ◌⊎◌, ℕ, ◌<◌, ◌^◌, List, [], ◌∷◌, ◌++◌, Option, Some, None}
use Rattle.cip_bytes.specs.Numbers.{le}
use Rattle.cip_message.specs.declared.path.Segment.{Segment}
use Rattle.cip_message.specs.declared.path.Segment.TheVariants.{Class, Instance, Member, Attribute}
use Rattle.cip_message.specs.declared.path.Path.{Path}
use Rattle.cip_message.specs.declared.path.PathFault.{PathFault}
use Rattle.cip_message.specs.declared.path.PathFault.TheVariants as fault

-- A segment with an 8-bit value: its first byte and the value.
pub record In8 (first value : ℕ) (b : List ℕ) : Type 0 where
  pub fits : value < 2 ^ 8
  pub spelled : b ≡ first ∷ value ∷ []

-- A segment with a 16-bit value: its first byte, a pad byte of any value, and the value.
pub record In16 (first value : ℕ) (b : List ℕ) : Type 0 where
  pub fits : value < 2 ^ 16
  pub pad : ℕ
  pub pad_fits : pad < 2 ^ 8
  pub spelled : b ≡ first ∷ pad ∷ le 2 value

-- The same with a 32-bit value.
pub record In32 (first value : ℕ) (b : List ℕ) : Type 0 where
  pub fits : value < 2 ^ 32
  pub pad : ℕ
  pub pad_fits : pad < 2 ^ 8
  pub spelled : b ≡ first ∷ pad ∷ le 4 value

-- The spellings of a segment, in any width that holds its value.
abbrev pub IsSegment : Segment → List ℕ → Type 0
IsSegment (Class v) b = In8 0x20 v b ⊎ In16 0x21 v b
IsSegment (Instance v) b = In8 0x24 v b ⊎ (In16 0x25 v b ⊎ In32 0x26 v b)
IsSegment (Member v) b = In8 0x28 v b ⊎ In16 0x29 v b
IsSegment (Attribute v) b = In8 0x30 v b ⊎ In16 0x31 v b

-- b is spellings of these segments, joined in order.
abbrev pub AreSegments : List Segment → List ℕ → Type 0
AreSegments [] b = b ≡ []
AreSegments (g ∷ gs) b = (s t : List ℕ) × IsSegment g s × AreSegments gs t × (b ≡ s ++ t)

-- The segment of an optional value, if there is one.
abbrev pub optional : (ℕ → Segment) → Option ℕ → List Segment
optional kind None = []
optional kind (Some v) = kind v ∷ []

-- The segments of a path: class, instance, attribute if any, member if any.
abbrev pub segments : Path → List Segment
segments p = Class p.class ∷ Instance p.instance ∷ (optional Attribute p.attribute ++ optional Member p.member)

-- b is a spelling of the path p.
unfoldable pub IsPath : Path → List ℕ → Type 0
IsPath p b = AreSegments (segments p) b

-- The bytes that begin a segment.
abbrev pub IsFirstByte : ℕ → Type 0
IsFirstByte x =
    (x ≡ 0x20) ⊎ ((x ≡ 0x21) ⊎ ((x ≡ 0x24) ⊎ ((x ≡ 0x25) ⊎ ((x ≡ 0x26) ⊎ ((x ≡ 0x28)
    ⊎ ((x ≡ 0x29) ⊎ ((x ≡ 0x30) ⊎ (x ≡ 0x31))))))))

-- The bytes begin with a byte that begins no segment.
pub record BeginsNoSegment (b : List ℕ) : Type 0 where
  pub first : ℕ
  pub more : List ℕ
  pub begins : b ≡ first ∷ more
  pub not_first : ¬ IsFirstByte first

-- The bytes are a proper prefix of a segment, and not empty.
pub record IsFront (b : List ℕ) : Type 0 where
  pub segment : Segment
  pub more : List ℕ
  pub some : b ≢ []
  pub proper : more ≢ []
  pub spelled : IsSegment segment (b ++ more)

-- A path begins with these segments.
abbrev pub Begins : List Segment → Type 0
Begins gs = (p : Path) × (more : List Segment) × (segments p ≡ gs ++ more)

-- The bytes begin with a segment that cannot follow the segments gs.
pub record IsOutOfOrder (gs : List Segment) (b : List ℕ) : Type 0 where
  pub segment : Segment
  pub text : List ℕ
  pub more : List ℕ
  pub spelled : IsSegment segment text
  pub begins : b ≡ text ++ more
  pub wrong : ¬ Begins (gs ++ segment ∷ [])

-- The bytes end, but the class or the instance is still missing in gs.
pub record EndsEarly (gs : List Segment) (b : List ℕ) : Type 0 where
  pub ends : b ≡ []
  pub missing : (p : Path) → segments p ≢ gs

-- What is wrong with the bytes b, which follow the segments gs.
abbrev pub IsWrong : PathFault → List Segment → List ℕ → Type 0
IsWrong fault.Segment gs b = BeginsNoSegment b
IsWrong fault.Cut gs b = IsFront b
IsWrong fault.Order gs b = IsOutOfOrder gs b ⊎ EndsEarly gs b

-- The number of a fault, as printed.
abbrev pub path_fault_number : PathFault → ℕ
path_fault_number fault.Segment = 1
path_fault_number fault.Order = 2
path_fault_number fault.Cut = 3

-- The bytes b are segments that begin a path, followed by this fault.
pub record path_fault (k : PathFault) (b : List ℕ) : Type 0 where
  pub before : List Segment
  pub front : List ℕ
  pub rest : List ℕ
  pub begins : Begins before
  pub spelled : AreSegments before front
  pub joined : b ≡ front ++ rest
  pub wrong : IsWrong k before rest
