-- What is kept under a key.
use Rattle.std.specs.Prelude.{ℕ, ◌-◌, ◌/◌, ◌%◌, ◌^◌, ◌==◌, nat_le, Bool, true, false, if◌then◌else◌, Option, Some, None}
use Rattle.cip_bytes.specs.declared.protocol.TheConstants.{IDENTITY}
use Rattle.device_state.specs.Keys.{key_of}
use Rattle.kept_adapter.specs.declared.entry_name.EntryName.{EntryName}
use Rattle.kept_adapter.specs.declared.entry_name.EntryName.TheVariants.{Identity, Attribute, Life, Slot, Unknown}
use Rattle.kept_adapter.specs.declared.entry_name.EntryName.TheVariants.{NextTicket, WaitingCommand, CommandResult}
use Rattle.kept_adapter.specs.Keys.{is_ledger_key, is_queue_key, queue_number, device_key}

-- The entry of the life has number 0, and those of the slots are numbered from 1.
abbrev pub ledger_entry_name : ℕ → EntryName
ledger_entry_name number = if number == 0 then Life else Slot number

-- The entry of the next ticket has number 0, those of the waiting commands are numbered from 1, and those of the results
-- from 257.
abbrev pub queue_entry_name : ℕ → EntryName
queue_entry_name number =
    if number == 0 then NextTicket
    else (if nat_le number 256 then WaitingCommand number else CommandResult (number - 256))

abbrev pub device_entry_name : ℕ → Option ℕ → EntryName
device_entry_name key None = Unknown
device_entry_name key (Some _) =
    if key == key_of IDENTITY 1 0 then Identity
    else Attribute (key / 2 ^ 32) (key / 2 ^ 16 % 2 ^ 16) (key % 2 ^ 16)

abbrev pub entry_name : ℕ → EntryName
entry_name key =
    if is_ledger_key key then ledger_entry_name (key / 2 ^ 16 % 2 ^ 16)
    else (if is_queue_key key then queue_entry_name (queue_number key) else device_entry_name key (device_key key))

abbrev pub is_of_ledger : EntryName → Bool
is_of_ledger Identity = false
is_of_ledger (Attribute class instance attribute) = false
is_of_ledger Life = true
is_of_ledger (Slot number) = true
is_of_ledger NextTicket = false
is_of_ledger (WaitingCommand number) = false
is_of_ledger (CommandResult number) = false
is_of_ledger Unknown = false

abbrev pub is_of_queue : EntryName → Bool
is_of_queue Identity = false
is_of_queue (Attribute class instance attribute) = false
is_of_queue Life = false
is_of_queue (Slot number) = false
is_of_queue NextTicket = true
is_of_queue (WaitingCommand number) = true
is_of_queue (CommandResult number) = true
is_of_queue Unknown = false
