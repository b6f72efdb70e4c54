-- An adapter that starts from a saved state.
use Rattle.std.specs.Prelude.{◌≡◌, ◌⊎◌, ⊤, ℕ, Bool, true, false, not, is_some, List, Ok, Err}
use Rattle.cip_bytes.specs.declared.protocol.TheConstants.{IDENTITY}
use Rattle.device_state.specs.Keys.{key_of}
use Rattle.enip_adapter.specs.Calls.{AdapterState}
use Rattle.enip_keep.specs.Kept.{Kept}
use Rattle.kept_adapter.specs.declared.adapter_start.AdapterStart.{AdapterStart}
use Rattle.kept_adapter.specs.Saved.{adapter_keys}
use Rattle.kept_adapter.specs.Started.{put_back_in, started}
use Rattle.kept_server.specs.Changes.{rise}
use Rattle.saved_state.specs.States.{State, kept_under}
use Rattle.saved_adapter.specs.declared.starting.RestoreFault.{RestoreFault}
use Rattle.saved_adapter.specs.declared.starting.RestoreFault.TheVariants as fault
use Rattle.saved_adapter.specs.Entries.{kept_in, last_state}

-- A state that does not say of which device it is.
abbrev pub is_nameless : State → Bool
is_nameless s = not (is_some (kept_under (key_of IDENTITY 1 0) s.entries))

-- The state is that of another device, or of none.
abbrev pub IsOfAnother : AdapterStart → State → Type 0
IsOfAnother start s =
    (is_nameless s ≡ true) ⊎ ((put_back_in start (kept_in s.entries)).is_other_device ≡ true)

-- The adapter that starts from entries, and when each fault comes. They are not of another device.
pub record IsStartedWith (start : AdapterStart) (kept : Kept) (a : AdapterState) : Type 0 where
  pub adapter : a ≡ started start kept
  pub own : (put_back_in start kept).is_other_device ≡ false
  pub rising : rise (adapter_keys a) ≡ true

abbrev pub IsFaultWith : AdapterStart → Kept → RestoreFault → Type 0
IsFaultWith start kept fault.Memory = ⊤
IsFaultWith start kept (fault.Malformed why) = ⊥
IsFaultWith start kept fault.OtherDevice = (put_back_in start kept).is_other_device ≡ true
IsFaultWith start kept fault.Order =
    ((put_back_in start kept).is_other_device ≡ false) × (rise (adapter_keys (started start kept)) ≡ false)

-- The same by a state, which may be of no device.
abbrev pub IsStateFault : AdapterStart → State → RestoreFault → Type 0
IsStateFault start s fault.Memory = ⊤
IsStateFault start s (fault.Malformed why) = ⊥
IsStateFault start s fault.OtherDevice = IsOfAnother start s
IsStateFault start s fault.Order = IsFaultWith start (kept_in s.entries) fault.Order

-- The same by the bytes of a state, or by none: then nothing is kept.
pub record IsStartedFrom (start : AdapterStart) (bytes : List ℕ) (a : AdapterState) : Type 0 where
  pub state : State
  pub read : last_state bytes ≡ Ok state
  pub adapter : IsStartedWith start (kept_in state.entries) a

abbrev pub IsRestoreFault : AdapterStart → List ℕ → RestoreFault → Type 0
IsRestoreFault start bytes fault.Memory = ⊤
IsRestoreFault start bytes (fault.Malformed why) = last_state bytes ≡ Err why
IsRestoreFault start bytes fault.OtherDevice = (s : State) × ((last_state bytes ≡ Ok s) × IsOfAnother start s)
IsRestoreFault start bytes fault.Order =
    (s : State) × ((last_state bytes ≡ Ok s) × IsFaultWith start (kept_in s.entries) fault.Order)
