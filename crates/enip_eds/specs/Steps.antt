-- Lists that are written one item after another, and the numbers of Params.
use Rattle.std.specs.Prelude.{ℕ, List, [], ◌∷◌, ◌++◌, length}

-- Where the writing is: the number of the next Param, and the text so far.
pub record Written : Type 0 where
  pub next : ℕ
  pub text : List ℕ

abbrev pub written : ℕ → List ℕ → Written
written next text = record { next = next; text = text }

-- The items, in order, each by its step, lead from one point to another. A step knows the index of its item, from 0.
pub data Steps {X : Type 0} (step : ℕ → X → Written → Written → Type 0) (start : Written) : List X → Written → Type 0 where
  Start : Steps step start [] start
  More : {items : List X} {item : X} {before after : Written} → Steps step start items before
      → step (length items) item before after → Steps step start (items ++ item ∷ []) after
