-- A check returns what it found, or a refusal. The first check that fails decides.
use Rattle.std.specs.Prelude.{ℕ, Bool, true, false, nat_lt, if◌then◌else◌, List, length, Result, Ok, Err}
use Rattle.cip_objects.specs.declared.status.Refusal.{Refusal}
use Rattle.cip_objects.specs.declared.status.Refusal.TheVariants.{NotEnoughData, TooMuchData}

-- Nothing, or this refusal if the test fails.
abbrev pub demand : Bool → Refusal → Result (Unit {0}) Refusal
demand true refusal = Ok tt
demand false refusal = Err refusal

-- The data of a service must have exactly this many bytes.
abbrev pub check_size : ℕ → List ℕ → Result (Unit {0}) Refusal
check_size size content =
    if nat_lt (length content) size then Err NotEnoughData
    else (if nat_lt size (length content) then Err TooMuchData else Ok tt)
