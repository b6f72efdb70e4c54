-- Repeated reads of an attribute.
use Rattle.std.specs.Prelude.{ℕ, Bool, true, false, List, Option, Some, None}

-- The last reply, if there is one.
abbrev pub last_of : Bool → List ℕ → Option (List ℕ)
last_of true bytes = None
last_of false bytes = Some bytes
