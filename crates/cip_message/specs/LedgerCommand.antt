-- A command that is executed once, as a device and its clients name it.
use Rattle.std.specs.Prelude.{ℕ, List}

-- A command: the device's life that it is for, who gives it, its number, and the request that it embeds.
pub record Command : Type 0 where
  pub life : ℕ
  pub originator : ℕ
  pub number : ℕ
  pub request : List ℕ
