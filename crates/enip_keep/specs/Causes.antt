-- Why a call fails.
use Rattle.std.specs.Prelude.{ℕ, ◌+◌, ◌-◌, ◌^◌, ◌≤◌, min, ⊤}
use Rattle.enip_keep.specs.declared.entry.KeepError.{KeepError}
use Rattle.enip_keep.specs.declared.entry.KeepError.TheVariants.{Memory, Storage, Stopped, Foreign, Refused}

-- The storage failed or refused in between. The count ends at the greatest number of 64 bits.
abbrev pub HasFailed : ℕ → ℕ → Type 0
HasFailed before after = min (before + 1) (2 ^ 64 - 1) ≤ after

-- Memory was refused, or the storage failed or refused between these two counts.
abbrev pub IsCause : ℕ → ℕ → KeepError → Type 0
IsCause before after Memory = ⊤
IsCause before after (Storage fault) = HasFailed before after
IsCause before after Stopped = ⊥
IsCause before after Foreign = ⊥
IsCause before after Refused = ⊥

-- The same, or the device was refused what is kept.
abbrev pub IsStartCause : Type 0 → ℕ → ℕ → KeepError → Type 0
IsStartCause IsRefused before after Memory = ⊤
IsStartCause IsRefused before after (Storage fault) = HasFailed before after
IsStartCause IsRefused before after Stopped = ⊥
IsStartCause IsRefused before after Foreign = ⊥
IsStartCause IsRefused before after Refused = IsRefused
