-- The slots of a ledger, as the originator's side asks for them and reads them.
use Rattle.std.specs.Prelude.{ℕ, ◌-◌, ◌*◌, ◌/◌, ◌%◌, ◌==◌, nat_lt, nat_le, if◌then◌else◌, Option, Some, None, unwrap_or}
use Rattle.std.specs.Prelude.{List, ◌∷◌, ◌++◌, length, drop, slice_get, slice_index, Result, Ok, Err}
use Rattle.cip_bytes.specs.Numbers.{le, number_at}
use Rattle.cip_message.specs.Reply.{Reply, reply_service}
use Rattle.cip_message.specs.declared.reply.ReplyFault.{ReplyFault}
use Rattle.cip_message.specs.declared.ledger_services.TheConstants as services
use Rattle.cip_commander.specs.declared.slots.CommandState.{CommandState}
use Rattle.cip_commander.specs.declared.slots.CommandState.TheVariants as states
use Rattle.cip_commander.specs.declared.slots.LedgerSlot.{LedgerSlot}
use Rattle.cip_commander.specs.declared.slots.SlotList.{SlotList}
use Rattle.cip_commander.specs.declared.slots.SlotsFault.{SlotsFault}
use Rattle.cip_commander.specs.declared.slots.SlotsFault.TheVariants as faults

-- ---- requests: the service, a path of two words (class 0x65, instance 1), the data

abbrev pub request_to : ℕ → List ℕ → List ℕ
request_to service content = service ∷ 2 ∷ 0x20 ∷ 0x65 ∷ 0x24 ∷ 1 ∷ content

abbrev pub slots_request : ℕ → List ℕ
slots_request first = request_to services.GET_SLOTS (le 2 first)

abbrev pub last_request : ℕ → List ℕ
last_request originator = request_to services.GET_LAST (le 8 originator)

abbrev pub forget_request : ℕ → ℕ → List ℕ
forget_request originator number = request_to services.FORGET (le 8 originator ++ le 4 number)

-- ---- replies

-- the data of a reply to a request for this service, or why there are none
abbrev pub content_of : ℕ → Result Reply ReplyFault → Result (List ℕ) SlotsFault
content_of service (Err fault) = Err faults.Malformed
content_of service (Ok a) =
    if a.service == reply_service service
    then (if a.status == 0 then Ok a.data
    else Err (faults.Refused a.status (unwrap_or (slice_get a.additional 0) 0)))
    else Err faults.Malformed

-- by the state byte: 0 is done, 1 is pending, 2 is in doubt, 3 is withdrawn
abbrev pub state_of : ℕ → Option CommandState
state_of state =
    if state == 0 then Some states.Done
    else (if state == 1 then Some states.Pending
    else (if state == 2 then Some states.InDoubt else (if state == 3 then Some states.Withdrawn else None)))

-- the number and the state of a last command; the kept reply behind them is not looked at
abbrev pub last_with : ℕ → Option CommandState → Result (ℕ × CommandState) SlotsFault
last_with number None = Err faults.Malformed
last_with number (Some state) = Ok (number, state)

abbrev pub last_of : Result (List ℕ) SlotsFault → Result (ℕ × CommandState) SlotsFault
last_of (Err fault) = Err fault
last_of (Ok bytes) =
    if nat_lt (length bytes) 5 then Err faults.Malformed
    else last_with (number_at 0 4 bytes) (state_of (slice_index bytes 4))

-- the values of two attributes, each of two bytes: a count, and then for each a number, a status and the value
abbrev pub counts_of : Result (List ℕ) SlotsFault → Result (ℕ × ℕ) SlotsFault
counts_of (Err fault) = Err fault
counts_of (Ok bytes) =
    if length bytes == 14 then Ok (number_at 6 2 bytes, number_at 12 2 bytes) else Err faults.Malformed

-- a list as its parts: how many slots are taken, and the bytes of those in the list
abbrev pub parts_of : SlotList → ℕ × List ℕ
parts_of list = (list.taken, list.entries.now)

-- the count, and then whole slots of 13 bytes
abbrev pub list_of : Result (List ℕ) SlotsFault → Result (ℕ × List ℕ) SlotsFault
list_of (Err fault) = Err fault
list_of (Ok bytes) =
    if nat_lt (length bytes) 2 then Err faults.Malformed
    else (if (length bytes - 2) % 13 == 0 then Ok (number_at 0 2 bytes, drop 2 bytes) else Err faults.Malformed)

-- ---- the slots of a list

abbrev pub slot_count : List ℕ → ℕ
slot_count entries = length entries / 13

abbrev pub slot_with : List ℕ → Option CommandState → Option LedgerSlot
slot_with entry None = None
slot_with entry (Some state) =
    Some (record { originator = number_at 0 8 entry; number = number_at 8 4 entry; state = state })

abbrev pub slot_at : List ℕ → ℕ → Option LedgerSlot
slot_at entries index =
    if nat_le (slot_count entries) index then None
    else slot_with (drop (13 * index) entries) (state_of (slice_index (drop (13 * index) entries) 12))
