-- What a world shows to the outside.
use Rattle.std.specs.Prelude.{ℕ, List}
use Rattle.cip_class3.specs.declared.originator.Stage.{Stage}

-- the router's state; every item or frame sent back; each accepted reply with the number of its request, in order; and
-- the originator's stage
pub record Seen (M : Type 0) : Type 0 where
  pub router : M
  pub back : List (List ℕ)
  pub accepted : List (ℕ × List ℕ)
  pub stage : Stage
