-- A check returns nothing, or a fault. The first check that fails decides.
use Rattle.std.specs.Prelude.{ℕ, Bool, true, false, nat_lt, if◌then◌else◌, List, length, Result, Ok, Err}
use Rattle.cip_application.specs.declared.attribute.SetFault.{SetFault}
use Rattle.cip_application.specs.declared.attribute.SetFault.TheVariants.{NotEnoughData, TooMuchData}

-- Nothing, or this fault if the test fails.
abbrev pub demand : Bool → SetFault → Result (Unit {0}) SetFault
demand true fault = Ok tt
demand false fault = Err fault

-- The data must have exactly this many bytes.
abbrev pub check_size : ℕ → List ℕ → Result (Unit {0}) SetFault
check_size size content =
    if nat_lt (length content) size then Err NotEnoughData
    else (if nat_lt size (length content) then Err TooMuchData else Ok tt)
