-- What the owner of a device replies to a request.
use Rattle.std.specs.Prelude.{ℕ, List}

-- A general status, and data.
pub record Reply : Type 0 where
  pub status : ℕ
  pub content : List ℕ
