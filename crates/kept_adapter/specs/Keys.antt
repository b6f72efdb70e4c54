-- The keys under which entries are kept: those of device_state, but the entries of the ledger come behind them, and those of
-- the queue last.
use Rattle.std.specs.Prelude.{ℕ, ◌+◌, ◌-◌, ◌/◌, ◌%◌, ◌^◌, ◌==◌, ◌&&◌, ◌||◌, not, nat_le, Bool, if◌then◌else◌, Option, Some, None}
use Rattle.cip_bytes.specs.declared.protocol.TheConstants.{IDENTITY}
use Rattle.cip_message.specs.declared.ledger_services.TheConstants.{LEDGER}
use Rattle.device_state.specs.Keys.{key_of}

-- The key of an entry of the ledger. That of the life has number 0, and those of the slots are numbered from 1.
abbrev pub ledger_key : ℕ → ℕ
ledger_key number = 2 ^ 48 + key_of LEDGER number 0

abbrev pub is_ledger_key : ℕ → Bool
is_ledger_key key = key / 2 ^ 32 == 2 ^ 16 + LEDGER

-- The key of an entry of the queue, by its number.
abbrev pub queue_key : ℕ → ℕ
queue_key number = 2 ^ 49 + number

abbrev pub is_queue_key : ℕ → Bool
is_queue_key key = key / 2 ^ 16 == 2 ^ 33

-- The number of an entry of the queue.
abbrev pub queue_number : ℕ → ℕ
queue_number key = key % 2 ^ 16

-- The key of the origin of a value, by the key of the value.
abbrev pub origin_key : ℕ → ℕ
origin_key key = 2 ^ 50 + key

abbrev pub is_origin_key : ℕ → Bool
is_origin_key key = key / 2 ^ 48 == 4

-- The key is that of a value: it is none of the ledger, and not the one that says which device it is.
abbrev pub is_value_key : ℕ → Bool
is_value_key key = not (is_ledger_key key) && not (key == key_of IDENTITY 1 0)

-- The key that device_state has for the entry. None if no entry is kept under this key.
abbrev pub device_key : ℕ → Option ℕ
device_key key =
    if is_ledger_key key then Some (key - 2 ^ 48)
    else (if nat_le (2 ^ 48) key || (key / 2 ^ 32 == LEDGER) then None else Some key)
