-- How many entries there are.
use Rattle.std.proofs.Common.{◌≡◌, ℕ, zero, suc, ◌≤◌, Bool, true, false, if◌then◌else◌, nat_lt, List, [], ◌∷◌, length, drop, arith}
use Rattle.saved_state.specs.Reading.{entry_at, size_at, first_entries}
use Rattle.saved_state.specs.States.{Entry}

pub few : (n : ℕ) (text : List ℕ) → length (first_entries n text) ≤ n
few zero text = omega arith
few (suc n) text = go (nat_lt (length text) (size_at text)) (few n (drop (size_at text) text))
  where
    go : (cut : Bool) → length (first_entries n (drop (size_at text) text)) ≤ n
        → length (if cut then [] else entry_at text ∷ first_entries n (drop (size_at text) text)) ≤ suc n
    go true h = omega arith
    go false h = omega (arith, h)
