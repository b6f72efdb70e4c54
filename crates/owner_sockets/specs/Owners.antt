-- Who may be the owner of a device.
use Rattle.std.specs.Prelude.{ℕ, Bool, ◌==◌, Option, Some, None, if◌then◌else◌}
use Rattle.device_sockets.specs.declared.owner_event.OwnerRefusal.{OwnerRefusal}
use Rattle.device_sockets.specs.declared.owner_event.OwnerRefusal.TheVariants as refusals

-- One owner at a time.
abbrev pub refusal_if_busy : Bool → Option OwnerRefusal
refusal_if_busy has_owner = if has_owner then Some refusals.Busy else None

-- With `--owner-from`, only from its address.
abbrev pub owner_refusal : Option ℕ → ℕ → Bool → Option OwnerRefusal
owner_refusal None address has_owner = refusal_if_busy has_owner
owner_refusal (Some only) address has_owner
    = if only == address then refusal_if_busy has_owner else Some refusals.Address
