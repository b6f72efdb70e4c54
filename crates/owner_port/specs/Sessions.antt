-- A session with an owner: what is queued for the owner, and when the session is over.
use Rattle.std.specs.Prelude.{◌≡◌, ℕ, zero, suc, ◌+◌, ◌-◌, ◌*◌, ◌^◌, ◌&&◌, ◌==◌, min, nat_le, if◌then◌else◌, Bool, true, false, List, [], ◌∷◌, ◌++◌, length, codes, string_bytes, ⊤}
use Rattle.std.specs.Prelude.{Option, Some, None, Result, Ok, Err, Vec}
use Rattle.std.specs.declared.alloc.Global.{Global}
use Rattle.std.specs.declared.net.ip_addr.IpAddr.{IpAddr}
use Rattle.cip_objects.specs.Contents.{Contents, bytes_at}
use Rattle.cip_objects.specs.OwnRequests.{Asked}
use Rattle.cip_owner.specs.declared.reset.ResetType.{ResetType}
use Rattle.cip_owner.specs.Reset.{ResetState, reset_number}
use Rattle.cip_values.specs.declared.element.ValueType.{ValueType}
use Rattle.enip_adapter.specs.Calls.{AdapterState}
use Rattle.enip_adapter.specs.Device.{resets_of}
use Rattle.enip_adapter.specs.declared.endings.EndedConnection.{EndedConnection}
use Rattle.enip_adapter.specs.declared.endings.EndReason.{EndReason}
use Rattle.enip_adapter.specs.declared.endings.EndReason.TheVariants as reasons
use Rattle.enip_owner.specs.declared.attribute_ref.AttributeRef.{AttributeRef}
use Rattle.enip_owner.specs.declared.event.AskedEvent.{AskedEvent}
use Rattle.enip_owner.specs.declared.event.ChangedEvent.{ChangedEvent}
use Rattle.enip_owner.specs.declared.event.EndedEvent.{EndedEvent}
use Rattle.enip_owner.specs.declared.event.ResetEvent.{ResetEvent}
use Rattle.enip_owner.specs.declared.event.ValueEvent.{ValueEvent}
use Rattle.enip_owner.specs.declared.event_fault.EventFault.{EventFault}
use Rattle.enip_owner.specs.declared.hello.HelloEvent.{HelloEvent}
use Rattle.enip_owner.specs.declared.line_buffer.TheConstants.{LINE_LIMIT}
use Rattle.enip_owner.specs.Events.{IsLineOf, IsWritten, IsWrittenOne, IsAsked, IsChanged, IsValue, ended_json, ok_json, error_json, reset_json}
use Rattle.enip_owner.specs.Hello.{hello_json, hello_detail}
use Rattle.owner_port.specs.declared.attribute_table.TypedAttribute.{TypedAttribute}
use Rattle.owner_port.specs.declared.device_table.DeviceTable.{DeviceTable}
use Rattle.owner_port.specs.declared.execution.Answer.{Answer}
use Rattle.owner_port.specs.declared.execution.Answer.TheVariants as answers
use Rattle.owner_port.specs.declared.fault.SessionEnd.{SessionEnd}
use Rattle.owner_port.specs.declared.fault.SessionEnd.TheVariants as ends
use Rattle.owner_port.specs.declared.output.TheConstants.{OUTPUT_LIMIT}
use Rattle.owner_port.specs.declared.session.Phase.{Phase}
use Rattle.owner_port.specs.declared.session.Phase.TheVariants as phases
use Rattle.owner_port.specs.declared.session.Session.{Session}
use Rattle.owner_port.specs.Tables.{type_at}

-- ---- how far a session is

abbrev pub no_session : Session
no_session = record { phase = phases.Absent; line = 0; output = [] }

abbrev pub first_phase : Bool → Phase
first_phase has_token = if has_token then phases.AwaitsToken else phases.Open

abbrev pub begun : Bool → Session
begun has_token = record { phase = first_phase has_token; line = 0; output = [] }

abbrev pub is_open : Phase → Bool
is_open phases.Absent = false
is_open phases.AwaitsToken = false
is_open phases.Open = true
is_open (phases.Over end) = false

-- Lines of the owner are taken.
abbrev pub is_listening : Phase → Bool
is_listening phases.Absent = false
is_listening phases.AwaitsToken = true
is_listening phases.Open = true
is_listening (phases.Over end) = false

abbrev pub has_session : Phase → Bool
has_session phases.Absent = false
has_session phases.AwaitsToken = true
has_session phases.Open = true
has_session (phases.Over end) = true

abbrev pub awaits_token : Phase → Bool
awaits_token phases.Absent = false
awaits_token phases.AwaitsToken = true
awaits_token phases.Open = false
awaits_token (phases.Over end) = false

abbrev pub end_of : Phase → Option SessionEnd
end_of phases.Absent = None
end_of phases.AwaitsToken = None
end_of phases.Open = None
end_of (phases.Over end) = Some end

abbrev pub opened : Session → Session
opened s = record s { phase = phases.Open }

abbrev pub with_end : SessionEnd → Session → Session
with_end end s = record s { phase = phases.Over end }

-- The number of the owner's next line.
abbrev pub with_next_line : Session → Session
with_next_line s = record s { line = min (s.line + 1) (2 ^ 64 - 1) }

-- How many more bytes can wait to be written.
abbrev pub free : Session → ℕ
free s = OUTPUT_LIMIT - length s.output

-- A line of an event is queued now, and fits.
abbrev pub has_space : Session → Bool
has_space s = is_open s.phase && nat_le (LINE_LIMIT + 1) (free s)

-- A line of the owner is taken now: each of its answers, at most two lines, fits.
abbrev pub can_feed : Session → Bool
can_feed s = is_listening s.phase && nat_le (2 * (LINE_LIMIT + 1)) (free s)

-- ---- lines that are queued

-- With one more line. If it does not fit, or could not be written, the session is over.
abbrev pub with_line : Session → Result (Vec ℕ Global) EventFault → Session
with_line s (Ok line) =
    if nat_le (length s.output + length line.items) OUTPUT_LIMIT then record s { output = s.output ++ line.items }
    else with_end ends.Slow s
with_line s (Err fault) = with_end ends.Memory s

-- The same if the session is open. Otherwise nothing is queued.
abbrev pub sent : Session → Result (Vec ℕ Global) EventFault → Session
sent s line = if is_open s.phase then with_line s line else s

-- A line of this kind is sent.
abbrev pub IsSent : (Result (Vec ℕ Global) EventFault → Type 0) → Session → Session → Type 0
IsSent Is old new = (line : Result (Vec ℕ Global) EventFault) × Is line × (new ≡ sent old line)

-- So many of this kind, one after the other.
abbrev pub AreSent : ℕ → (Session → Session → Type 0) → Session → Session → Type 0
AreSent zero Is old new = new ≡ old
AreSent (suc n) Is old new = (between : Session) × AreSent n Is old between × Is between new

-- ---- events

-- A set of an attribute by a peer, with the value that the attribute has now.
pub record IsSet (types : List TypedAttribute) (m : Contents) (by : IpAddr) (attribute : AttributeRef) (e : ChangedEvent) : Type 0 where
  pub attribute_is : e.attribute ≡ attribute
  pub value_type : e.value_type ≡ type_at attribute types
  pub bytes : e.«data».now ≡ bytes_at m attribute.class attribute.instance attribute.attribute
  pub by_is : e.by ≡ by

abbrev pub IsSetLine : List TypedAttribute → Contents → IpAddr → AttributeRef → Result (Vec ℕ Global) EventFault → Type 0
IsSetLine types m by attribute line = (e : ChangedEvent) × IsSet types m by attribute e × IsWrittenOne (IsChanged e) line

-- It is reported, if the session is open.
pub record IsSetReported (types : List TypedAttribute) (m : Contents) (by : IpAddr) (attribute : AttributeRef) (old new : Session) : Type 0 where
  pub while_open : is_open old.phase ≡ true → IsSent (IsSetLine types m by attribute) old new
  pub while_closed : is_open old.phase ≡ false → new ≡ old

-- The number of the last Reset's type. 0 if there was none.
abbrev pub type_or_0 : Option ResetType → ℕ
type_or_0 None = 0
type_or_0 (Some type) = reset_number type

abbrev pub last_type_in : Option ResetState → ℕ
last_type_in None = 0
last_type_in (Some reset) = type_or_0 reset.last

-- A Reset by the peer at this address.
pub record IsResetEvent (a : AdapterState) (by : IpAddr) (e : ResetEvent) : Type 0 where
  pub type_is : e.reset_type ≡ last_type_in a.state.shared.objects.router.reset
  pub by_is : e.by ≡ by

abbrev pub IsResetLine : AdapterState → IpAddr → Result (Vec ℕ Global) EventFault → Type 0
IsResetLine a by line = (e : ResetEvent) × IsResetEvent a by e × IsWritten (reset_json e) line

-- It is reported, if the session is open.
pub record IsResetReported (a : AdapterState) (by : IpAddr) (old new : Session) : Type 0 where
  pub while_open : is_open old.phase ≡ true → IsSent (IsResetLine a by) old new
  pub while_closed : is_open old.phase ≡ false → new ≡ old

-- A frame of the peer at this address was served, and so many resets were reported before it.
abbrev pub IsResetSeenBy : Bool → AdapterState → IpAddr → Session → Session → Type 0
IsResetSeenBy true a by old new = new ≡ old
IsResetSeenBy false a by old new = IsResetReported a by old new

abbrev pub IsResetSeen : AdapterState → IpAddr → ℕ → Session → Session → Type 0
IsResetSeen a by reported old new = IsResetSeenBy (resets_of a == reported) a by old new

-- The type of the value that a request sets, if it sets one (service 0x10) and the type is known.
abbrev pub type_of_number : List TypedAttribute → Asked → Option ℕ → Option ValueType
type_of_number types asked None = None
type_of_number types asked (Some number) =
    type_at (record { class = asked.class; instance = asked.instance; attribute = number }) types

abbrev pub type_to_set : List TypedAttribute → Asked → Option ValueType
type_to_set types asked = if asked.service == 0x10 then type_of_number types asked asked.attribute else None

-- The question with this number: what a peer at this address asks.
pub record IsAskedEvent (types : List TypedAttribute) (by : IpAddr) (number : ℕ) (asked : Asked) (e : AskedEvent) : Type 0 where
  pub question_is : e.question ≡ number
  pub class_is : e.class ≡ asked.class
  pub instance_is : e.instance ≡ asked.instance
  pub service_is : e.service ≡ asked.service
  pub attribute_is : e.attribute ≡ asked.attribute
  pub value_type : e.value_type ≡ type_to_set types asked
  pub bytes : e.«data».now ≡ asked.content
  pub by_is : e.by ≡ by

abbrev pub IsAskedLine : List TypedAttribute → IpAddr → ℕ → Asked → Result (Vec ℕ Global) EventFault → Type 0
IsAskedLine types by number asked line =
    (e : AskedEvent) × IsAskedEvent types by number asked e × IsWrittenOne (IsAsked e) line

-- Why a connection ended.
abbrev pub reason_text : EndReason → List ℕ
reason_text reasons.TimedOut = codes "timed out"
reason_text reasons.PeerEnded = codes "peer ended"
reason_text reasons.SessionEnded = codes "session ended"
reason_text reasons.Closed = codes "closed"

-- A connection that ended, and why.
pub record IsEndOf (connection : EndedConnection) (e : EndedEvent) : Type 0 where
  pub connection_is : e.connection ≡ connection.id
  pub reason_is : e.reason.now ≡ reason_text connection.reason

abbrev pub IsEndedLine : EndedConnection → Result (Vec ℕ Global) EventFault → Type 0
IsEndedLine connection line = (e : EndedEvent) × IsEndOf connection e × IsWritten (ended_json e) line

pub record IsEndReported (connection : EndedConnection) (old new : Session) : Type 0 where
  pub while_open : is_open old.phase ≡ true → IsSent (IsEndedLine connection) old new
  pub while_closed : is_open old.phase ≡ false → new ≡ old

abbrev pub AreEndsReported : List EndedConnection → Session → Session → Type 0
AreEndsReported [] old new = new ≡ old
AreEndsReported (connection ∷ connections) old new =
    (between : Session) × IsEndReported connection old between × AreEndsReported connections between new

-- The device of a table, in this life of its command ledger, as its first line describes it.
pub record IsDescribed (table : DeviceTable) (life : Option ℕ) (e : HelloEvent) : Type 0 where
  pub vendor_is : e.vendor ≡ table.vendor
  pub product_code_is : e.product_code ≡ table.product_code
  pub serial_is : e.serial ≡ table.serial
  pub name_is : e.name.now ≡ string_bytes table.name
  pub life_is : e.life ≡ life
  pub ahead_is : e.ahead ≡ table.ahead

-- The first line of the device.
abbrev pub IsHelloLine : DeviceTable → Option ℕ → Result (Vec ℕ Global) EventFault → Type 0
IsHelloLine table life (Ok line) = (e : HelloEvent) × IsDescribed table life e × IsLineOf (hello_json (hello_detail e) e) line.items
IsHelloLine table life (Err fault) = ⊤

-- ---- answers

-- The value of an attribute, as it is now.
pub record IsValueOf (types : List TypedAttribute) (m : Contents) (attribute : AttributeRef) (e : ValueEvent) : Type 0 where
  pub attribute_is : e.attribute ≡ attribute
  pub value_type : e.value_type ≡ type_at attribute types
  pub bytes : e.«data».now ≡ bytes_at m attribute.class attribute.instance attribute.attribute

abbrev pub IsValueLine : List TypedAttribute → Contents → AttributeRef → Result (Vec ℕ Global) EventFault → Type 0
IsValueLine types m attribute line = (e : ValueEvent) × IsValueOf types m attribute e × IsWrittenOne (IsValue e) line

abbrev pub IsOkLine : ℕ → Result (Vec ℕ Global) EventFault → Type 0
IsOkLine number line = IsWritten (ok_json number) line

-- With a reason as its text.
abbrev pub IsErrorLine : ℕ → Result (Vec ℕ Global) EventFault → Type 0
IsErrorLine number (Ok line) = (text : List ℕ) × IsLineOf (error_json number text) line.items
IsErrorLine number (Err fault) = ⊤

-- The answer to the line with the session's number: `ok` if it was done, behind `value` if a value was wanted, and `error`
-- if it was refused.
abbrev pub IsAnswerSent : List TypedAttribute → Contents → Answer → Session → Session → Type 0
IsAnswerSent types m answers.Done old new = IsSent (IsOkLine old.line) old new
IsAnswerSent types m (answers.Finished ticket) old new = IsSent (IsOkLine old.line) old new
IsAnswerSent types m (answers.Value attribute) old new =
    (between : Session) × IsSent (IsValueLine types m attribute) old between × IsSent (IsOkLine old.line) between new
IsAnswerSent types m (answers.Refused fault) old new = IsSent (IsErrorLine old.line) old new

-- A line of the owner was taken: it has the next number, and one answer.
abbrev pub IsLineAnswered : List TypedAttribute → Contents → Answer → Session → Session → Type 0
IsLineAnswered types m answer old new = IsAnswerSent types m answer (with_next_line old) new
