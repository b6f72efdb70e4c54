-- What a line of the owner does, and what is answered to it.
use Rattle.std.specs.Prelude.{◌≡◌, ◌⊎◌, ℕ, ◌==◌, ◌&&◌, ◌||◌, if◌then◌else◌, Bool, true, false, List, length, is_some, Option, Some, None, Ok}
use Rattle.cip_ledger.specs.Device.{finished_in}
use Rattle.cip_objects.specs.Changes.{Tally, changes_at}
use Rattle.cip_objects.specs.Contents.{Contents, value_at, bytes_at}
use Rattle.cip_message.specs.Router.{REPLY_TOO_LARGE}
use Rattle.cip_owner.specs.Queue.{QueueState, QueuedCommand, command_of}
use Rattle.cip_owner.specs.Replies.{Reply}
use Rattle.cip_values.specs.declared.element.ElementaryType.{ElementaryType}
use Rattle.cip_values.specs.declared.element.ElementaryType.TheVariants as types
use Rattle.cip_values.specs.declared.element.ValueType.{ValueType}
use Rattle.enip_adapter.specs.OwnWrites.{WritesAttribute, SetsStatus, SetsState, Finishes, attribute_write}
use Rattle.enip_owner.specs.declared.attribute_ref.AttributeRef.{AttributeRef}
use Rattle.enip_owner.specs.declared.owner_fault.OwnerFault.{OwnerFault}
use Rattle.enip_owner.specs.declared.written_values.ValuesFault.{ValuesFault}
use Rattle.enip_owner.specs.Requests as requests
use Rattle.enip_owner.specs.Requests.{Request, Given, Says, IsRefusal}
use Rattle.enip_owner.specs.Values.{AreGivenBytes, IsGivenFault}
use Rattle.enip_server.specs.Rounds.{ServerState, written_by}
use Rattle.owner_port.specs.declared.attribute_table.TypedAttribute.{TypedAttribute}
use Rattle.owner_port.specs.declared.execution.Answer.{Answer}
use Rattle.owner_port.specs.declared.execution.Answer.TheVariants as answers
use Rattle.owner_port.specs.declared.fault.LineFault.{LineFault}
use Rattle.owner_port.specs.declared.fault.LineFault.TheVariants as faults
use Rattle.owner_port.specs.declared.questions.Question.{Question}
use Rattle.owner_port.specs.Questions.{answered_in, fault_in}
use Rattle.owner_port.specs.Sets.{tallies_in, key_of}
use Rattle.owner_port.specs.Tables.{type_at}

-- ---- `done`

-- Why a command cannot be finished with a reply: no such command waits, or the reply cannot be given to it.
abbrev pub finish_fault_of : ℕ → Reply → Option QueuedCommand → LineFault
finish_fault_of ticket reply None = faults.NoCommand ticket
finish_fault_of ticket reply (Some command) = if reply.status == REPLY_TOO_LARGE then faults.ReservedStatus else faults.LongReply

abbrev pub command_in : ℕ → Option QueueState → Option QueuedCommand
command_in ticket None = None
command_in ticket (Some queue) = command_of ticket queue.waiting

abbrev pub finish_fault : ℕ → Reply → Option QueueState → LineFault
finish_fault ticket reply queue = finish_fault_of ticket reply (command_in ticket queue)

-- The command with this ticket is finished with this reply, or nothing changes.
abbrev pub IsFinishDone : {W : Type 0} → ℕ → Reply → ServerState W → Answer → ServerState W → Type 0
IsFinishDone ticket reply before answer after =
    ((is_some (finished_in ticket reply before.adapter.state.shared.objects) ≡ true) × (answer ≡ answers.Finished ticket)
    × (after ≡ written_by (Finishes ticket reply) before))
    ⊎ ((is_some (finished_in ticket reply before.adapter.state.shared.objects) ≡ false)
    × (answer ≡ answers.Refused (finish_fault ticket reply before.adapter.state.shared.objects.router.queue)) × (after ≡ before))

-- ---- `write`

abbrev pub is_short_string : ElementaryType → Bool
is_short_string types.ShortString = true
is_short_string element = false

abbrev pub is_text : Option ValueType → Bool
is_text None = false
is_text (Some value_type) = is_short_string value_type.element

-- The bytes have the size of the attribute's value. The device tests the size of a SHORT_STRING itself.
abbrev pub is_size_of : List TypedAttribute → Contents → AttributeRef → List ℕ → Bool
is_size_of types m a bytes =
    is_text (type_at a types) || (length (bytes_at m a.class a.instance a.attribute) == length bytes)

-- The attribute can get this value.
abbrev pub can_write : List TypedAttribute → Contents → AttributeRef → List ℕ → Bool
can_write types m a bytes = is_size_of types m a bytes && is_some (attribute_write m a.class a.instance a.attribute 0 bytes)

-- Only attributes that the device can write have a count.
abbrev pub write_fault : List Tally → AttributeRef → LineFault
write_fault tallies a = if is_some (changes_at (key_of a) tallies) then faults.Size else faults.NoAttribute

abbrev pub type_fault : List Tally → AttributeRef → LineFault
type_fault tallies a = if is_some (changes_at (key_of a) tallies) then faults.UnknownType else faults.NoAttribute

-- The attribute gets this value, or nothing changes.
abbrev pub IsWriteDone : {W : Type 0} → List TypedAttribute → AttributeRef → List ℕ → ServerState W → Answer → ServerState W → Type 0
IsWriteDone types a bytes before answer after =
    ((can_write types before.adapter.state.shared.objects.router.objects a bytes ≡ true) × (answer ≡ answers.Done)
    × (after ≡ written_by (WritesAttribute a.class a.instance a.attribute 0 bytes) before))
    ⊎ ((can_write types before.adapter.state.shared.objects.router.objects a bytes ≡ false)
    × (answer ≡ answers.Refused (write_fault (tallies_in before.adapter) a)) × (after ≡ before))

-- The attribute gets these values of a type, or nothing changes.
abbrev pub AreValuesOfTypeWritten : {W : Type 0} → List TypedAttribute → AttributeRef → List Given → Option ValueType → ServerState W → Answer → ServerState W → Type 0
AreValuesOfTypeWritten types a values None before answer after =
    (answer ≡ answers.Refused (type_fault (tallies_in before.adapter) a)) × (after ≡ before)
AreValuesOfTypeWritten types a values (Some value_type) before answer after =
    ((bytes : List ℕ) × AreGivenBytes value_type values bytes × IsWriteDone types a bytes before answer after)
    ⊎ ((fault : ValuesFault) × IsGivenFault value_type values fault × (answer ≡ answers.Refused (faults.Values fault)) × (after ≡ before))

abbrev pub AreValuesWritten : {W : Type 0} → List TypedAttribute → AttributeRef → List Given → ServerState W → Answer → ServerState W → Type 0
AreValuesWritten types a values before answer after =
    AreValuesOfTypeWritten types a values (type_at a types) before answer after

-- ---- `read`

abbrev pub read_answer : Contents → AttributeRef → Answer
read_answer m a =
    if is_some (value_at m a.class a.instance a.attribute) then answers.Value a else answers.Refused faults.NoAttribute

-- ---- `answer`

abbrev pub settled_answer : Option LineFault → Answer
settled_answer None = answers.Done
settled_answer (Some fault) = answers.Refused fault

-- ---- a line

-- What a request does: to the questions that wait for an answer, and to the device. Only `answer` changes a question.
abbrev pub IsExecuted : {W : Type 0} → List TypedAttribute → Request → List Question → ServerState W → Answer
    → List Question → ServerState W → Type 0
IsExecuted types (requests.Done ticket reply) waiting before answer left after =
    (left ≡ waiting) × IsFinishDone ticket reply before answer after
IsExecuted types (requests.Answer question reply) waiting before answer left after =
    (left ≡ answered_in question reply waiting) × (answer ≡ settled_answer (fault_in question reply waiting)) × (after ≡ before)
IsExecuted types (requests.WriteData a bytes) waiting before answer left after =
    (left ≡ waiting) × IsWriteDone types a bytes before answer after
IsExecuted types (requests.WriteValues a values) waiting before answer left after =
    (left ≡ waiting) × AreValuesWritten types a values before answer after
IsExecuted types (requests.Read a) waiting before answer left after =
    (left ≡ waiting) × (answer ≡ read_answer before.adapter.state.shared.objects.router.objects a) × (after ≡ before)
IsExecuted types (requests.Status status) waiting before answer left after =
    (left ≡ waiting) × (answer ≡ answers.Done) × (after ≡ written_by (SetsStatus status) before)
IsExecuted types (requests.State state) waiting before answer left after =
    (left ≡ waiting) × (answer ≡ answers.Done) × (after ≡ written_by (SetsState state) before)

-- A line does what it says. If it says nothing, it is refused for the first reason that holds, and nothing changes.
abbrev pub IsAnswered : {W : Type 0} → List TypedAttribute → List ℕ → List Question → ServerState W → Answer
    → List Question → ServerState W → Type 0
IsAnswered types line waiting before answer left after =
    ((request : Request) × Says line (Ok request) × IsExecuted types request waiting before answer left after)
    ⊎ ((fault : OwnerFault) × IsRefusal line fault × (answer ≡ answers.Refused (faults.Line fault)) × (left ≡ waiting)
    × (after ≡ before))
