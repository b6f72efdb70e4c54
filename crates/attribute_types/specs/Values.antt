-- Values of a configuration, and why they are refused.
use Rattle.std.specs.Prelude.{◌≡◌, ◌⊎◌, ℕ, pos, ◌&&◌, if◌then◌else◌, nat_le, Option, Some, None, option_map}
use Rattle.toml.specs.Data.{Data, integer}
use Rattle.config_refusal.specs.declared.fault.LoadFault.{LoadFault}
use Rattle.config_refusal.specs.declared.fault.LoadFault.TheVariants.{Refused, Memory}
use Rattle.config_refusal.specs.declared.fault.ConfigurationRefusal.TheVariants.{BadValue}

-- a value as a number within a range
abbrev pub number_in : ℕ → ℕ → Data → Option ℕ
number_in least greatest (integer (pos n)) = if nat_le least n && nat_le n greatest then Some n else None
number_in least greatest _ = None

-- a value as it is read, or the default if the key is left out
abbrev pub read_or : {A : Type 0} → Option A → (Data → Option A) → Option Data → Option A
read_or default read None = default
read_or default read (Some value) = read value

-- two results as a pair; None if either is
abbrev pub both : {A B : Type 0} → Option A → Option B → Option (A × B)
both None second = None
both (Some a) second = option_map (λ b. (a, b)) second

-- the fault is BadValue, and nothing could be read
abbrev pub IsBad : {A : Type 0} → Option A → LoadFault → Type 0
IsBad read fault = (fault ≡ Refused BadValue) × (read ≡ None)

-- the same, or memory was refused
abbrev pub IsBadOrMemory : {A : Type 0} → Option A → LoadFault → Type 0
IsBadOrMemory read fault = (fault ≡ Memory) ⊎ IsBad read fault
