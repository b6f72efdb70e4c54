-- A device that starts from entries.
use Rattle.std.specs.Prelude.{ℕ, ◌==◌, nat_lt, Bool, not, ◌&&◌, ◌||◌, is_some, if◌then◌else◌, slice_index}
use Rattle.std.specs.Prelude.{List, [], ◌∷◌, ◌++◌, length, drop, Option, Some, None, option_map, bytes_eq}
use Rattle.cip_application.specs.declared.object.AttributeName.{AttributeName}
use Rattle.cip_bytes.specs.Numbers.{number_at}
use Rattle.cip_bytes.specs.declared.protocol.TheConstants.{IDENTITY}
use Rattle.cip_message.specs.declared.ledger_services.TheConstants.{LEDGER}
use Rattle.cip_ledger.specs.Kept.{with_life, restored as slot_restored}
use Rattle.cip_ledger.specs.Ledger.{SlotState, LedgerState}
use Rattle.cip_objects.specs.Contents.{Contents, value_at}
use Rattle.cip_objects.specs.Kept.{restored as value_restored}
use Rattle.device_state.specs.declared.restoring.Outcome.{Outcome}
use Rattle.device_state.specs.declared.restoring.Outcome.TheVariants.{Used, Unknown, Unfit, OtherDevice}
use Rattle.device_state.specs.Keys.{name_in}
use Rattle.device_state.specs.Saved.{State, state_of, Entry, identity_bytes, VERSION_2}

-- What an entry leaves, and what became of the entry.
pub record Done (A : Type 0) : Type 0 where
  pub after : A
  pub outcome : Outcome

abbrev pub done : {A : Type 0} → A → Outcome → Done A
done after outcome = record { after = after; outcome = outcome }

-- ---- which device

-- The version may be behind it.
abbrev pub is_same_device : Contents → List ℕ → Bool
is_same_device m content =
    bytes_eq content (identity_bytes m) || bytes_eq content (identity_bytes m ++ VERSION_2 ∷ [])

-- The entry names this device, or another one.
abbrev pub identity_outcome : Contents → AttributeName → List ℕ → Outcome
identity_outcome m name content =
    if (name.instance == 1) && (name.attribute == 0)
    then (if is_same_device m content then Used else OtherDevice)
    else Unknown

-- ---- the ledger

-- What is kept of a command: its reply if it is done, its ticket if it is pending, neither if it is in doubt, and an empty
-- reply with the ticket 0 if it was withdrawn.
pub record KeptState : Type 0 where
  pub reply : Option (List ℕ)
  pub ticket : Option ℕ

abbrev pub kept_state : Option (List ℕ) → Option ℕ → KeptState
kept_state reply ticket = record { reply = reply; ticket = ticket }

-- What a state and the bytes behind it spell. None if there is no such state, or if these are not its bytes.
abbrev pub state_in : ℕ → List ℕ → Option KeptState
state_in state content =
    if state == 0 then Some (kept_state (Some content) None)
    else (if (state == 1) && (length content == 4) then Some (kept_state None (Some (number_at 0 4 content)))
    else (if (state == 2) && (length content == 0) then Some (kept_state None None)
    else (if (state == 3) && (length content == 0) then Some (kept_state (Some []) (Some 0)) else None)))

abbrev pub slot_with : List ℕ → KeptState → SlotState
slot_with content kept = record {
  originator = number_at 0 8 content;
  number = number_at 8 4 content;
  reply = kept.reply;
  ticket = kept.ticket;
}

-- The slot that these bytes spell. None if they are too short, or have another state.
abbrev pub slot_in : List ℕ → Option SlotState
slot_in content =
    if nat_lt (length content) 13 then None
    else option_map (slot_with content) (state_in (slice_index content 12) (drop 13 content))

abbrev pub if_restored : LedgerState → Option LedgerState → Done LedgerState
if_restored ledger None = done ledger Unfit
if_restored ledger (Some after) = done after Used

-- A slot, if it can be put back.
abbrev pub slot_done : LedgerState → Option SlotState → Done LedgerState
slot_done ledger None = done ledger Unfit
slot_done ledger (Some slot) = if_restored ledger (slot_restored slot ledger)

-- The number of the device's life.
abbrev pub life_done : LedgerState → List ℕ → Done LedgerState
life_done ledger content =
    if length content == 8 then done (with_life (number_at 0 8 content) ledger) Used else done ledger Unfit

-- Instance 0 has the life, and each other instance a slot.
abbrev pub ledger_done : LedgerState → AttributeName → List ℕ → Done LedgerState
ledger_done ledger name content =
    if not (name.attribute == 0) then done ledger Unknown
    else (if name.instance == 0 then life_done ledger content else slot_done ledger (slot_in content))

-- ---- the objects

-- A value that is not put back has another size or is another text, or the device has no such attribute.
abbrev pub if_value : Contents → AttributeName → Option Contents → Done Contents
if_value m name None =
    done m (if is_some (value_at m name.class name.instance name.attribute) then Unfit else Unknown)
if_value m name (Some after) = done after Used

abbrev pub value_done : Contents → AttributeName → List ℕ → Done Contents
value_done m name content = if_value m name (value_restored m name content)

-- ---- the device

abbrev pub with_objects : Option LedgerState → Done Contents → Done State
with_objects ledger d = done (state_of d.after ledger) d.outcome

abbrev pub with_ledger : Contents → Done LedgerState → Done State
with_ledger objects d = done (state_of objects (Some d.after)) d.outcome

abbrev pub to_ledger : Contents → AttributeName → List ℕ → Option LedgerState → Done State
to_ledger objects name content None = done (state_of objects None) Unknown
to_ledger objects name content (Some ledger) = with_ledger objects (ledger_done ledger name content)

abbrev pub by_name : State → List ℕ → Option AttributeName → Done State
by_name s content None = done s Unknown
by_name s content (Some name) =
    if name.class == IDENTITY then done s (identity_outcome s.objects name content)
    else (if name.class == LEDGER then to_ledger s.objects name content s.ledger
    else with_objects s.ledger (value_done s.objects name content))

-- The device after one entry.
abbrev pub restored_entry : State → Entry → Done State
restored_entry s entry = by_name s entry.content (name_in entry.key)

-- The device after these entries, one after another, and what became of each.
pub record Restored : Type 0 where
  pub after : State
  pub outcomes : List Outcome

abbrev pub restored : State → List Entry → Restored
restored s [] = record { after = s; outcomes = [] }
restored s (entry ∷ entries) =
    let now = restored_entry s entry in
    let later = restored now.after entries in
    record { after = later.after; outcomes = now.outcome ∷ later.outcomes }
