-- The ledger's services, each by its first check that fails.
use Rattle.std.specs.Prelude.{ℕ, ◌+◌, ◌-◌, ◌*◌, ◌==◌, nat_lt, not, Bool, true, ◌&&◌, is_some, if◌then◌else◌, Option, Some}
use Rattle.std.specs.Prelude.{None}
use Rattle.std.specs.Prelude.{List, [], ◌∷◌, ◌++◌, length, drop}
use Rattle.std.specs.List.{flat_map}
use Rattle.cip_bytes.specs.Numbers.{le, number_at, words_of}
use Rattle.cip_message.specs.Reply.{reply_service}
use Rattle.cip_objects.specs.Entries.{Attributes, attribute_in, class_attributes}
use Rattle.cip_objects.specs.ReadServices.{list_entry_of}
use Rattle.cip_ledger.specs.declared.status.Status.{Status}
use Rattle.cip_ledger.specs.declared.status.Status.TheVariants as statuses
use Rattle.cip_message.specs.declared.ledger_services.TheConstants as services
use Rattle.cip_ledger.specs.declared.service.TheConstants as common
use Rattle.cip_ledger.specs.Status.{status_number}
use Rattle.cip_ledger.specs.Ledger.{SlotState, LedgerState, slot_of, is_pending}
use Rattle.cip_ledger.specs.Requests.{LedgerRequest, command_of}
use Rattle.cip_message.specs.LedgerCommand.{Command}
use Rattle.cip_ledger.specs.SlotList.{slot_list}

-- the bytes of a reply before its data
abbrev pub HEAD_SIZE : ℕ
HEAD_SIZE = 4

-- the most bytes of a kept reply, and so the reply limit of an embedded request
abbrev pub KEPT_LIMIT : ℕ
KEPT_LIMIT = 480

-- the state byte of a command that is done
abbrev pub DONE : ℕ
DONE = 0

-- the state byte of a command that is pending: it is in the queue of the router
abbrev pub PENDING : ℕ
PENDING = 1

-- the state byte of a command in doubt
abbrev pub IN_DOUBT : ℕ
IN_DOUBT = 2

-- the state byte of a command that was withdrawn: it is never executed
abbrev pub WITHDRAWN : ℕ
WITHDRAWN = 3

-- the state of a command by what is kept of it, its reply or its ticket or both
abbrev pub state_content : Option (List ℕ) → Option ℕ → List ℕ
state_content (Some reply) None = DONE ∷ reply
state_content (Some reply) (Some ticket) = WITHDRAWN ∷ []
state_content None (Some ticket) = PENDING ∷ []
state_content None None = IN_DOUBT ∷ []

-- the state of an originator's last command, and the reply that is kept of it
abbrev pub last_content : SlotState → List ℕ
last_content slot = state_content slot.reply slot.ticket

-- the general status and the data of a reply
pub record Answer : Type 0 where
  pub status : Status
  pub content : List ℕ

abbrev pub refusal : Status → Answer
refusal status = record { status = status; content = [] }

abbrev pub success : List ℕ → Answer
success content = record { status = statuses.Success; content = content }

-- the reply with these parts to a request of this service
abbrev pub reply_to : ℕ → Answer → List ℕ
reply_to service answer = reply_service service ∷ 0 ∷ status_number answer.status ∷ 0 ∷ answer.content

-- an answer, if its reply fits the reply limit
abbrev pub within : ℕ → Answer → Answer
within max_size answer =
    if nat_lt max_size (HEAD_SIZE + length answer.content) then refusal statuses.ReplyDataTooLarge else answer

-- What the ledger does with a request: it only replies, executes a command and keeps its reply, executes a command that
-- the router puts into its queue and keeps its ticket, or frees the slot of an originator. The ledger alone decides
-- between all but the third (`action_of`); that the router queues a command is decided by the router (`Standings`).
pub data Action : Type 0 where
  Replies : (answer : Answer) → Action
  Executes : (command : Command) → Action
  Queues : (command : Command) (ticket : ℕ) → Action
  Frees : (originator : ℕ) → Action

abbrev pub refuses : Status → Action
refuses status = Replies (refusal status)

-- what is wrong with data that are not of exactly this size
abbrev pub size_fault : ℕ → List ℕ → Option Status
size_fault size bytes =
    if nat_lt (length bytes) size then Some statuses.NotEnoughData
    else (if nat_lt size (length bytes) then Some statuses.TooMuchData else None)

-- the refusal by a fault, if there is one
abbrev pub unless : {A : Type 0} → Option Status → (Status → A) → A → A
unless None refused otherwise = otherwise
unless (Some status) refused otherwise = refused status

-- ---- Do_Once

-- a new command is executed only if its reply will fit, however long it is
abbrev pub do_new : ℕ → Command → Action
do_new max_size command =
    if nat_lt max_size (HEAD_SIZE + 1 + KEPT_LIMIT) then refuses statuses.ReplyDataTooLarge else Executes command

-- a command with a greater number than the last one is new, unless that is pending: an originator has one pending
-- command at most
abbrev pub do_greater : ℕ → Command → SlotState → Action
do_greater max_size command slot =
    if is_pending slot then refuses statuses.CommandPending else do_new max_size command

-- by the originator's slot: without one a free slot is needed, and in one a smaller number is refused, the same number
-- is answered by its state and the kept reply, and a greater one is new if the last command is not pending
abbrev pub do_by_slot : LedgerState → ℕ → Command → Option SlotState → Action
do_by_slot ledger max_size command None =
    if nat_lt (length ledger.taken) ledger.slots then do_new max_size command
    else refuses statuses.ResourceUnavailable
do_by_slot ledger max_size command (Some slot) =
    if nat_lt command.number slot.number then refuses statuses.ObjectStateConflict
    else (if command.number == slot.number then Replies (within max_size (success (last_content slot)))
    else do_greater max_size command slot)

-- a command of another life is never executed
abbrev pub do_command : LedgerState → ℕ → Command → Action
do_command ledger max_size command =
    if not (command.life == ledger.life) then refuses statuses.DeviceStateConflict
    else do_by_slot ledger max_size command (slot_of command.originator ledger.taken)

-- the smallest data are two numbers of 8 bytes, one of 4, and a request of 2
abbrev pub do_once : LedgerState → ℕ → List ℕ → Action
do_once ledger max_size bytes =
    if nat_lt (length bytes) 22 then refuses statuses.NotEnoughData
    else do_command ledger max_size (command_of bytes)

-- ---- Get_Last and Forget

abbrev pub last_in : ℕ → Option SlotState → Answer
last_in max_size None = refusal statuses.ObjectDoesNotExist
last_in max_size (Some slot) = within max_size (success (le 4 slot.number ++ last_content slot))

-- an originator's last number, the state and the kept reply
abbrev pub get_last : LedgerState → ℕ → List ℕ → Answer
get_last ledger max_size bytes =
    unless (size_fault 8 bytes) refusal (last_in max_size (slot_of (number_at 0 8 bytes) ledger.taken))

-- a slot is freed only if it has this number, and its command is not pending
abbrev pub forget_in : ℕ → ℕ → Option SlotState → Action
forget_in originator number None = Replies (success [])
forget_in originator number (Some slot) =
    if (slot.number == number) && not (is_pending slot) then Frees originator
    else refuses statuses.ObjectStateConflict

-- the originator and the number in the data name the slot
abbrev pub forget : LedgerState → List ℕ → Action
forget ledger bytes =
    unless (size_fault 12 bytes) refuses
    (forget_in (number_at 0 8 bytes) (number_at 8 4 bytes) (slot_of (number_at 0 8 bytes) ledger.taken))

-- ---- Withdraw

-- What can be withdrawn was withdrawn before (`Withdrawing`). So without a slot none is free, a number that is greater than
-- that of the slot follows a pending command, and the last number is answered by its state.
abbrev pub withdraw_in : ℕ → ℕ → Option SlotState → Answer
withdraw_in max_size number None = refusal statuses.ResourceUnavailable
withdraw_in max_size number (Some slot) =
    if nat_lt number slot.number then refusal statuses.ObjectStateConflict
    else (if number == slot.number then within max_size (success (last_content slot))
    else refusal statuses.CommandPending)

-- a command of another life is not withdrawn: it is never executed
abbrev pub withdraw_of : LedgerState → ℕ → List ℕ → Answer
withdraw_of ledger max_size bytes =
    if not (number_at 0 8 bytes == ledger.life) then refusal statuses.DeviceStateConflict
    else withdraw_in max_size (number_at 16 4 bytes) (slot_of (number_at 8 8 bytes) ledger.taken)

-- the life, the originator and the number in the data name the command
abbrev pub withdraw : LedgerState → ℕ → List ℕ → Answer
withdraw ledger max_size bytes = unless (size_fault 20 bytes) refusal (withdraw_of ledger max_size bytes)

-- ---- Get_Slots

-- how many slots are taken, and then the slots from the index in the data on, as many as fit
abbrev pub get_slots : LedgerState → ℕ → List ℕ → Answer
get_slots ledger max_size bytes =
    unless (size_fault 2 bytes) refusal
    (within max_size (success (slot_list (max_size - HEAD_SIZE) (number_at 0 2 bytes) ledger.taken)))

-- ---- attributes

-- slots, taken slots, life
abbrev pub values_of : ℕ → ℕ → ℕ → Attributes
values_of slots taken life = (1, le 2 slots) ∷ (2, le 2 taken) ∷ (3, le 8 life) ∷ []

abbrev pub ledger_values : LedgerState → Attributes
ledger_values ledger = values_of ledger.slots (length ledger.taken) ledger.life

-- the attributes of the class itself: revision, greatest instance, number of instances
abbrev pub class_values : Attributes
class_values = class_attributes 1 1 1

abbrev pub value_named : Attributes → Option ℕ → Option (List ℕ)
value_named attributes None = None
value_named attributes (Some attribute) = attribute_in attribute attributes

abbrev pub single : ℕ → List ℕ → Option (List ℕ) → Answer
single max_size bytes None = refusal statuses.AttributeNotSupported
single max_size bytes (Some value) = unless (size_fault 0 bytes) refusal (within max_size (success value))

-- one attribute of a list: its number, its status, and its value if there is one
abbrev pub list_entry : Attributes → ℕ → List ℕ
list_entry attributes attribute = list_entry_of attribute (attribute_in attribute attributes)

abbrev pub has_all : Attributes → List ℕ → Bool
has_all attributes [] = true
has_all attributes (attribute ∷ more) = is_some (attribute_in attribute attributes) && has_all attributes more

abbrev pub list_status : Bool → Status
list_status complete = if complete then statuses.Success else statuses.AttributeListError

abbrev pub list_answer : Attributes → ℕ → List ℕ → Answer
list_answer attributes count numbers = record {
  status = list_status (has_all attributes numbers);
  content = le 2 count ++ flat_map (list_entry attributes) numbers;
}

-- the data are a count and so many numbers of attributes; the reply has the count and each of them
abbrev pub get_attribute_list : Attributes → ℕ → List ℕ → Answer
get_attribute_list attributes max_size bytes =
    if nat_lt (length bytes) 2 then refusal statuses.NotEnoughData
    else unless (size_fault (2 + 2 * number_at 0 2 bytes) bytes) refusal
    (within max_size (list_answer attributes (number_at 0 2 bytes) (words_of (drop 2 bytes))))

-- ---- the service of a request

abbrev pub class_answer : ℕ → LedgerRequest → Answer
class_answer max_size request =
    if request.service == common.GET_ATTRIBUTE_SINGLE
    then single max_size request.data (value_named class_values request.attribute)
    else refusal statuses.ServiceNotSupported

abbrev pub instance_action : LedgerState → ℕ → LedgerRequest → Action
instance_action ledger max_size request =
    if request.service == services.DO_ONCE then do_once ledger max_size request.data
    else (if request.service == services.GET_LAST then Replies (get_last ledger max_size request.data)
    else (if request.service == services.FORGET then forget ledger request.data
    else (if request.service == common.GET_ATTRIBUTE_SINGLE
    then Replies (single max_size request.data (value_named (ledger_values ledger) request.attribute))
    else (if request.service == common.GET_ATTRIBUTE_LIST
    then Replies (get_attribute_list (ledger_values ledger) max_size request.data)
    else (if request.service == services.GET_SLOTS then Replies (get_slots ledger max_size request.data)
    else (if request.service == services.WITHDRAW then Replies (withdraw ledger max_size request.data)
    else refuses statuses.ServiceNotSupported))))))

-- by the instance: 0 is the class itself
abbrev pub action_of : LedgerState → ℕ → LedgerRequest → Action
action_of ledger max_size request =
    if request.instance == 0 then Replies (class_answer max_size request)
    else (if request.instance == 1 then instance_action ledger max_size request
    else refuses statuses.PathDestinationUnknown)
