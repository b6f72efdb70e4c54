-- What holds of a device that starts from what was saved.
use Rattle.std.specs.Prelude.{◌≡◌, ◌<◌, ℕ, ◌^◌, ◌==◌, ◌⊎◌, Bool, true, false, is_some, List, length, Option, option_map, IfSome, bytes_eq}
use Rattle.std.specs.List.{AllByRecursion}
use Rattle.cip_application.specs.declared.object.AttributeName.{AttributeName}
use Rattle.cip_bytes.specs.declared.protocol.TheConstants.{IDENTITY}
use Rattle.cip_message.specs.declared.ledger_services.TheConstants.{LEDGER}
use Rattle.cip_ledger.specs.Kept.{IsLedger}
use Rattle.cip_ledger.specs.Ledger.{LedgerState, empty_ledger}
use Rattle.cip_objects.specs.Contents.{Contents, bytes_at, value_at}
use Rattle.cip_objects.specs.Kept.{kept_names, restored as value_restored}
use Rattle.cip_owner.specs.Queue.{QueueState}
use Rattle.device_state.specs.declared.restoring.Outcome.TheVariants.{Used, OtherDevice}
use Rattle.device_state.specs.Keys.{key_of}
use Rattle.device_state.specs.Restored.{Restored, done, is_same_device, restored, restored_entry}
use Rattle.device_state.specs.Saved.{State, Entry, entry_of, identity_bytes, first_entry, has_mark, has_withdrawn, needs_version_2, saved}

-- A name has 16 bits a part, and is none of Identity or of the ledger.
pub record IsName (name : AttributeName) : Type 0 where
  pub class : name.class < 2 ^ 16
  pub instance : name.instance < 2 ^ 16
  pub attribute : name.attribute < 2 ^ 16
  pub not_identity : (name.class == IDENTITY) ≡ false
  pub not_ledger : (name.class == LEDGER) ≡ false

-- The value of a name is one that it can have.
pub record IsKept (m : Contents) (name : AttributeName) : Type 0 where
  pub is_name : IsName name
  pub value : is_some (value_restored m name (bytes_at m name.class name.instance name.attribute)) ≡ true

-- What holds of every device.
pub record IsDevice (s : State) : Type 0 where
  pub values : AllByRecursion (IsKept s.objects) (kept_names s.objects.shapes)
  pub ledger : IfSome s.ledger IsLedger

-- A device of the same configuration that has just started: it is the same device, with the same objects, and its
-- ledger is empty.
pub record IsFresh (s fresh : State) (life : ℕ) : Type 0 where
  pub shapes : fresh.objects.shapes ≡ s.objects.shapes
  pub identity : identity_bytes fresh.objects ≡ identity_bytes s.objects
  pub ledger : fresh.ledger ≡ option_map (λ l. empty_ledger l.slots life) s.ledger

pub record IsRestored (s : State) (r : Restored) : Type 0 where
  pub used : AllByRecursion (λ outcome. outcome ≡ Used) r.outcomes
  pub ledger : r.after.ledger ≡ s.ledger
  pub saved : saved r.after ≡ saved s

-- A fresh device that starts from what was saved of a device uses every entry, has the same ledger, and is saved in the
-- same entries.
abbrev pub saved_law : Type 0
saved_law =
    (s fresh : State) (life : ℕ) → IsDevice s → IsFresh s fresh life → IsRestored s (restored fresh (saved s))

-- The same without a premise on the values, if each entry was used.
abbrev pub used_law : Type 0
used_law =
    (s fresh : State) (life : ℕ) → AllByRecursion IsName (kept_names s.objects.shapes) → IfSome s.ledger IsLedger
    → IsFresh s fresh life → AllByRecursion (λ outcome. outcome ≡ Used) (restored fresh (saved s)).outcomes
    → IsRestored s (restored fresh (saved s))

-- What no entry names stays as it was.
abbrev pub others_law : Type 0
others_law =
    (s : State) (entries : List Entry) (class instance attribute : ℕ)
    → AllByRecursion (λ entry. entry.key ≡ key_of class instance attribute → ⊥) entries
    → value_at (restored s entries).after.objects class instance attribute ≡ value_at s.objects class instance attribute

-- The entry of another device changes nothing, and is reported.
abbrev pub other_device_law : Type 0
other_device_law =
    (s : State) (content : List ℕ) → is_same_device s.objects content ≡ false
    → restored_entry s (entry_of (key_of IDENTITY 1 0) content) ≡ done s OtherDevice

-- The first entry of a state is used by the same device, with either version.
abbrev pub version_law : Type 0
version_law =
    (s : State) (is_version_2 : Bool) → restored_entry s (first_entry s.objects is_version_2) ≡ done s Used

-- With a mark or a withdrawn command it is not what a program of version 1 writes, for any device.
abbrev pub version_2_law : Type 0
version_2_law =
    (m n : Contents) (queue : Option QueueState) (ledger : Option LedgerState)
    → length (identity_bytes m) ≡ length (identity_bytes n)
    → (has_mark queue ≡ true) ⊎ (has_withdrawn ledger ≡ true)
    → bytes_eq (first_entry m (needs_version_2 queue ledger)).content (identity_bytes n) ≡ false
