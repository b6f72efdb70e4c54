-- A device that counts.
use Rattle.std.specs.Prelude.{◌≡◌, ℕ, ◌+◌, ◌%◌, ◌==◌, ◌&&◌, Bool, true, false, Option, Some, None}
use Rattle.std.specs.Prelude.{List, [], ◌∷◌, ◌++◌, length, slice_index}
use Rattle.enip_keep.specs.Kept.{Kept}

-- its total, the total that is kept, all its answers, and how many of these have left
pub record TallyState : Type 0 where
  pub total : ℕ
  pub kept : Option ℕ
  pub answers : List ℕ
  pub released : ℕ

-- the total after a request
abbrev pub added : ℕ → ℕ → ℕ
added total more = (total + more) % 256

-- a total is kept under key 1
abbrev pub entries_of : ℕ → Kept
entries_of total = (1, total ∷ []) ∷ []

abbrev pub kept_of : Option ℕ → Kept
kept_of None = []
kept_of (Some total) = entries_of total

-- the total that is kept, or the first one if none is
abbrev pub total_in : ℕ → Kept → ℕ
total_in first [] = first
total_in first (p ∷ rest) = slice_index p.1 0

abbrev pub is_tally : Kept → Bool
is_tally [] = true
is_tally (p ∷ []) = (p.0 == 1) && (length p.1 == 1)
is_tally (p ∷ q ∷ rest) = false

-- more answers are held back, and none has left
abbrev pub IsSilent : TallyState → TallyState → Type 0
IsSilent old new = (new.released ≡ old.released) × ((more : List ℕ) × (new.answers ≡ old.answers ++ more))

abbrev pub Answers : TallyState → ℕ → TallyState → Type 0
Answers old request new = new.answers ≡ old.answers ++ added old.total request ∷ []

abbrev pub Releases : TallyState → TallyState → Type 0
Releases old new = (new.answers ≡ old.answers) × (new.released ≡ length old.answers)
