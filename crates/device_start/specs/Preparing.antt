-- What is kept, made ready for a start.
use Rattle.std.specs.Prelude.{ℕ, ◌≡◌, Bool, false, List, [], ◌∷◌, Option, Some, None, is_some, if◌then◌else◌}
use Rattle.enip_keep.specs.Kept.{Kept, set_all}
use Rattle.kept_adapter.specs.declared.adapter_start.AdapterStart.{AdapterStart}
use Rattle.kept_adapter.specs.declared.preparing.Wishes.{Wishes}
use Rattle.kept_adapter.specs.Hindrances.{hindrances}
use Rattle.kept_adapter.specs.Origins.{kept_at}
use Rattle.kept_adapter.specs.Preparing.{configured_values, ledger_in_later_life, preparation}
use Rattle.kept_adapter.specs.Saved.{saved_adapter}
use Rattle.kept_adapter.specs.Started.{started, waiting_keys}
use Rattle.kept_server.specs.Rounds.{DeviceContents, contents_with}
use Rattle.device_start.specs.declared.wishes.StartWishes.{StartWishes}

-- ---- the values that may be put back

-- The key is that of a value of the device, whose configured values are these. The first of them says which device it is, and
-- is not a value.
abbrev pub is_value : Kept → ℕ → Bool
is_value [] key = false
is_value (device ∷ values) key = is_some (kept_at key values)

-- The first key that is not that of a value.
abbrev pub first_unknown : Kept → List ℕ → Option ℕ
first_unknown values [] = None
first_unknown values (key ∷ keys) = if is_value values key then first_unknown values keys else Some key

-- ---- what is kept

-- What is kept was made ready for a start: these changes of a preparation are in it, and nothing hinders the start then. The
-- start is the one that was given, in a life that was not before.
pub record IsPrepared (start later : AdapterStart) (wishes : StartWishes) (kept ready : Kept) : Type 0 where
  pub wanted : Wishes
  pub drops : wanted.drops_commands ≡ wishes.drops_commands
  pub accepts : wanted.accepts_config ≡ wishes.accepts_config
  pub resets : first_unknown (configured_values later) wanted.resets.items ≡ None
  pub changed : ready ≡ set_all (preparation later wanted kept) kept
  pub lossless : hindrances later ready ≡ []
  pub objects : later.objects ≡ start.objects
  pub ledger : later.ledger ≡ ledger_in_later_life start.ledger kept
  pub queue : later.queue ≡ start.queue
  pub begins : later.begins_life ≡ start.begins_life
  pub reset : later.reset ≡ start.reset
  pub listen : later.listen ≡ start.listen
  pub limits : later.limits ≡ start.limits
  pub shares : later.shares ≡ start.shares
  pub idle : later.idle_timeout ≡ start.idle_timeout

-- A device goes on with what was kept, made ready for its start.
abbrev pub GoesOn : AdapterStart → StartWishes → Kept → DeviceContents → Type 0
GoesOn start wishes kept contents =
    (later : AdapterStart) × (ready : Kept) × IsPrepared start later wishes kept ready
    × (contents ≡ contents_with saved_adapter (waiting_keys later ready) ready (started later ready))
