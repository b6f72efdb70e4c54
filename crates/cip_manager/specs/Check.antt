-- A list of checks. The first that fails decides.
use Rattle.std.specs.Prelude.{Bool, true, false, List, [], ◌∷◌, Option, Some, None, Result, Ok, Err}
use Rattle.cip_bytes.specs.declared.protocol.ExtendedStatus.{ExtendedStatus}

-- Nothing, or this extended status if the test fails.
abbrev pub demand : Bool → ExtendedStatus → Result (Unit {0}) ExtendedStatus
demand true extended = Ok tt
demand false extended = Err extended

-- A check that fails with this extended status, if there is one.
abbrev pub refusal_by : Option ExtendedStatus → Result (Unit {0}) ExtendedStatus
refusal_by None = Ok tt
refusal_by (Some extended) = Err extended

abbrev pub first_failure : List (Result (Unit {0}) ExtendedStatus) → Result (Unit {0}) ExtendedStatus
first_failure [] = Ok tt
first_failure (Ok passed ∷ checks) = first_failure checks
first_failure (Err extended ∷ checks) = Err extended
