-- The first element of a list with an instance number.
use Rattle.std.specs.Prelude.{◌≡◌, ◌≢◌, ℕ, ◌<◌, List, length, slice_index_or}

-- The element at this index is the first with this instance number. `number` gives the instance number of an
-- element.
pub record IsFirst {A : Type 0} (number : A → ℕ) (items : List A) (instance index : ℕ) : Type 0 where
  pub within : index < length items
  pub here : (d : A) → number (slice_index_or items index d) ≡ instance
  pub before : (k : ℕ) (d : A) → k < index → number (slice_index_or items k d) ≢ instance
