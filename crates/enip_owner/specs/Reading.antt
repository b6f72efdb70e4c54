-- What the first step of a reader returns.
use Rattle.std.specs.Prelude.{ℕ, List, Result, Ok, Err}
use Rattle.json.specs.Json.{Json}
use Rattle.json.specs.Strict.{HasUniqueKeys}
use Rattle.json.specs.Value.{value_view}
use Rattle.json.specs.declared.value.Value.{Value}
use Rattle.std.specs.declared.alloc.Global.{Global}
use Rattle.enip_owner.specs.declared.owner_fault.OwnerFault.{OwnerFault}
use Rattle.enip_owner.specs.declared.owner_fault.OwnerFault.TheVariants as faults
use Rattle.enip_owner.specs.Requests.{IsJsonText, IsNotJson}

-- Why a line is not JSON with each key once.
abbrev pub IsParseFault : List ℕ → OwnerFault → Type 0
IsParseFault line faults.NotJson = IsNotJson line
IsParseFault line faults.DoubledKey = (j : Json) × (IsJsonText line j × (HasUniqueKeys j → ⊥))
IsParseFault line faults.Memory = Unit {0}
IsParseFault line fault = ⊥

-- The value that a line is, with each key once.
abbrev pub IsParsed : List ℕ → Result (Value Global) OwnerFault → Type 0
IsParsed line (Ok value) = IsJsonText line (value_view value) × HasUniqueKeys (value_view value)
IsParsed line (Err fault) = IsParseFault line fault
