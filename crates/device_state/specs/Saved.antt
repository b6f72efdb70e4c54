-- The entries in which the state of a device is saved.
use Rattle.std.specs.Prelude.{ℕ, suc, Bool, false, not, ◌||◌, if◌then◌else◌, List, [], ◌∷◌, ◌++◌, map, Option, Some, None}
use Rattle.std.specs.List.{list_any}
use Rattle.cip_application.specs.declared.object.AttributeName.{AttributeName}
use Rattle.cip_bytes.specs.Numbers.{le}
use Rattle.cip_bytes.specs.declared.protocol.TheConstants.{IDENTITY}
use Rattle.cip_message.specs.declared.ledger_services.TheConstants.{LEDGER}
use Rattle.cip_ledger.specs.Ledger.{SlotState, LedgerState, is_withdrawn}
use Rattle.cip_objects.specs.Contents.{Contents, bytes_at}
use Rattle.cip_objects.specs.Kept.{kept_names}
use Rattle.cip_owner.specs.Queue.{QueueState}
use Rattle.device_state.specs.Keys.{key_of}
use Rattle.device_state.specs.QueueEntries.{has_handed_all}

-- What a device is saved from: its objects, and its ledger if it has one.
pub record State : Type 0 where
  pub objects : Contents
  pub ledger : Option LedgerState

abbrev pub state_of : Contents → Option LedgerState → State
state_of objects ledger = record { objects = objects; ledger = ledger }

pub record Entry : Type 0 where
  pub key : ℕ
  pub content : List ℕ

abbrev pub entry_of : ℕ → List ℕ → Entry
entry_of key content = record { key = key; content = content }

-- Which device it is: the vendor, the product code and the serial number (attributes 1, 3 and 6 of Identity).
abbrev pub identity_bytes : Contents → List ℕ
identity_bytes m = bytes_at m IDENTITY 1 1 ++ (bytes_at m IDENTITY 1 3 ++ bytes_at m IDENTITY 1 6)

-- ---- the version

-- A state that an older program would misread has version 2. Any other one has version 1, which is not written.
abbrev pub VERSION_2 : ℕ
VERSION_2 = 2

-- Whether commands of the queue may wait that no owner was handed: the queue has a mark then.
abbrev pub has_mark : Option QueueState → Bool
has_mark None = false
has_mark (Some q) = not (has_handed_all q)

-- Whether a slot of the ledger has a command that was withdrawn.
abbrev pub has_withdrawn : Option LedgerState → Bool
has_withdrawn None = false
has_withdrawn (Some ledger) = list_any is_withdrawn ledger.taken

-- A program that knows neither marks nor withdrawn commands would take the queue for a lost one, or the slot for a
-- damaged one, and start with an empty ledger.
abbrev pub needs_version_2 : Option QueueState → Option LedgerState → Bool
needs_version_2 queue ledger = has_mark queue || has_withdrawn ledger

-- Which device it is, and behind it the version if it is 2. A program of version 1 takes it for another device then, and
-- refuses the state.
abbrev pub with_version : Bool → List ℕ → List ℕ
with_version is_version_2 content = if is_version_2 then content ++ VERSION_2 ∷ [] else content

-- The first entry.
abbrev pub first_entry : Contents → Bool → Entry
first_entry m is_version_2 = entry_of (key_of IDENTITY 1 0) (with_version is_version_2 (identity_bytes m))

-- ---- the entries

-- The number of the device's life.
abbrev pub life_entry : ℕ → Entry
life_entry life = entry_of (key_of LEDGER 0 0) (le 8 life)

-- The state of a command without a reply: 1 and its ticket if it is pending, 2 if it is in doubt.
abbrev pub unreplied_bytes : Option ℕ → List ℕ
unreplied_bytes None = 2 ∷ []
unreplied_bytes (Some ticket) = 1 ∷ le 4 ticket

-- The state of a command, and what is kept of it: 0 and its reply if it is done, and 3 if it was withdrawn.
abbrev pub state_bytes : Option (List ℕ) → Option ℕ → List ℕ
state_bytes None ticket = unreplied_bytes ticket
state_bytes (Some reply) None = 0 ∷ reply
state_bytes (Some reply) (Some ticket) = 3 ∷ []

-- A slot: the originator, the number of its last command, the state of the command, and its reply or its ticket.
abbrev pub slot_bytes : SlotState → List ℕ
slot_bytes slot = le 8 slot.originator ++ (le 4 slot.number ++ state_bytes slot.reply slot.ticket)

-- The slots, numbered from 1 in the order in which they were taken.
abbrev pub slot_entries : ℕ → List SlotState → List Entry
slot_entries number [] = []
slot_entries number (slot ∷ slots) =
    entry_of (key_of LEDGER number 0) (slot_bytes slot) ∷ slot_entries (suc number) slots

abbrev pub ledger_entries : Option LedgerState → List Entry
ledger_entries None = []
ledger_entries (Some ledger) = life_entry ledger.life ∷ slot_entries 1 ledger.taken

-- A value that is kept, under its name.
abbrev pub value_entry : Contents → AttributeName → Entry
value_entry m name =
    entry_of (key_of name.class name.instance name.attribute) (bytes_at m name.class name.instance name.attribute)

abbrev pub value_entries : Contents → List Entry
value_entries m = map (value_entry m) (kept_names m.shapes)

-- All entries of a device without a queue: which device it is, the ledger, and each value that is kept, in the order of
-- the configuration.
abbrev pub saved : State → List Entry
saved s =
    first_entry s.objects (needs_version_2 None s.ledger) ∷ (ledger_entries s.ledger ++ value_entries s.objects)

-- Which device it is, and each value that is kept: the entries but those of the ledger and of the queue.
abbrev pub object_entries : Contents → Bool → List Entry
object_entries m is_version_2 = first_entry m is_version_2 ∷ value_entries m

-- An entry, if there is one: its key, and the bytes that were written.
abbrev pub entry_in : Option ℕ → List ℕ → Option Entry
entry_in None content = None
entry_in (Some key) content = Some (entry_of key content)
