-- The client's turn: what is heard in a whole frame, and the state of the client after it (Volume 2, encapsulation
-- commands; Volume 1, message router, Connection Manager, transport class 3).
use Rattle.std.specs.Prelude.{ℕ, ◌==◌, ◌&&◌, nat_le, if◌then◌else◌, Bool, List, [], ◌∷◌, length, Option, Some, None}
use Rattle.std.specs.Prelude.{Result, Ok, Err}
use Rattle.cip_bytes.specs.Numbers.{number_at}
use Rattle.cip_bytes.specs.Protocol.{command_number, manager_service_number}
use Rattle.cip_bytes.specs.declared.protocol.Command.{Command}
use Rattle.cip_bytes.specs.declared.protocol.Command.TheVariants.{RegisterSession, SendRRData, SendUnitData}
use Rattle.cip_bytes.specs.declared.protocol.ManagerService.TheVariants.{ForwardClose}
use Rattle.cip_message.specs.Reply.{Reply, reply_of, reply_service}
use Rattle.cip_message.specs.declared.reply.ReplyFault.{ReplyFault}
use Rattle.cip_class3.specs.OriginatorRule.{after_item, accepted_reply}
use Rattle.enip_wire.specs.Bodies.{rr_body_of, unit_body_of}
use Rattle.enip_wire.specs.Frames.{Frame}
use Rattle.enip_wire.specs.Stream.{Parsed}
use Rattle.enip_wire.specs.Stream.Parsed.{Incomplete, WholeFrame, TooLongHeader}
use Rattle.enip_wire.specs.declared.header.Header.{Header}
use Rattle.enip_wire.specs.declared.item_list.CpfFault.{CpfFault}
use Rattle.cip_route.specs.declared.send.TheConstants.{UNCONNECTED_SEND}
use Rattle.enip_client.specs.Frames.{open_service}
use Rattle.enip_client.specs.declared.fault.ClientFault.{ClientFault}
use Rattle.enip_client.specs.declared.fault.ClientFault.TheVariants as faults
use Rattle.enip_client.specs.declared.state.Awaited.{Awaited}
use Rattle.enip_client.specs.declared.state.Awaited.TheVariants as awaited
use Rattle.enip_client.specs.declared.state.Awaiting.{Awaiting}
use Rattle.enip_client.specs.declared.state.ConnectionState.TheVariants.{Open}
use Rattle.enip_client.specs.declared.state.Registration.TheVariants as registrations
use Rattle.enip_client.specs.declared.state.State.{State}
use Rattle.enip_client.specs.State.{is_registered, session_in, is_open}

-- What is heard: nothing; the session is registered; the connection is open; an unconnected reply; a reply that the
-- connection accepts; an open or a close is refused, with its general status and first additional word; the connection
-- is closed.
pub data HeardEvent : Type 0 where
  Nothing : HeardEvent
  Registered : HeardEvent
  Opened : HeardEvent
  Replied : (bytes : List ℕ) → HeardEvent
  Accepted : (bytes : List ℕ) → HeardEvent
  Refused : (status extended : ℕ) → HeardEvent
  Closed : HeardEvent

pub record TurnResult : Type 0 where
  pub state : State
  pub heard_event : HeardEvent

abbrev pub turned_to : State → HeardEvent → TurnResult
turned_to s heard_event = record { state = s; heard_event = heard_event }

-- The fault lasts.
abbrev pub faulted : State → ClientFault → TurnResult
faulted s fault = turned_to (record s { fault = Some fault }) Nothing

-- The awaited reply arrived.
abbrev pub answered : State → State
answered s = record s { awaiting = None }

-- The command of the awaited reply.
abbrev pub command_awaited : Awaited → Command
command_awaited awaited.Session = RegisterSession
command_awaited awaited.Connection = SendRRData
command_awaited (awaited.Reply service) = SendRRData
command_awaited (awaited.Routed service) = SendRRData
command_awaited awaited.End = SendRRData

-- The frame has the command and the context of the awaited reply.
abbrev pub is_answer : Awaiting → Header → Bool
is_answer w h = (h.command == command_number (command_awaited w.awaited)) && (number_at 0 8 h.context == w.number)

-- A router's reply, and its bytes.
pub record Answer : Type 0 where
  pub bytes : List ℕ
  pub reply : Reply

-- The bytes are a reply to a request of this service.
abbrev pub answer_read : ℕ → List ℕ → Result Reply ReplyFault → Option Answer
answer_read service bytes (Err fault) = None
answer_read service bytes (Ok reply) =
    if reply.service == reply_service service then Some (record { bytes = bytes; reply = reply }) else None

abbrev pub answer_in : ℕ → Result (List ℕ) CpfFault → Option Answer
answer_in service (Err fault) = None
answer_in service (Ok bytes) = answer_read service bytes (reply_of bytes)

-- The reply in a body to a request of this service. None if the body is faulty, or its reply is to another service.
abbrev pub answer_to : ℕ → List ℕ → Option Answer
answer_to service body = answer_in service (rr_body_of body)

-- The first additional status word, or 0.
abbrev pub first_word : List ℕ → ℕ
first_word [] = 0
first_word (word ∷ words) = word

-- The Connection Manager refuses.
abbrev pub refuses : State → Reply → TurnResult
refuses s reply = turned_to (answered s) (Refused reply.status (first_word reply.additional))

-- The session handle is that of the reply's header. The reply has 4 bytes of data.
abbrev pub session_turn : State → Frame → TurnResult
session_turn s f =
    if length f.body == 4
    then turned_to (record (answered s) { registration = registrations.Registered f.header.session }) Registered
    else faulted s faults.Malformed

-- The O->T ID comes first in the 26 bytes of a successful open.
abbrev pub opening_turn : State → Option Answer → TurnResult
opening_turn s None = faulted s faults.Malformed
opening_turn s (Some a) =
    if a.reply.status == 0
    then
    if nat_le 26 (length a.reply.data)
    then turned_to (record (answered s) { connection_state = Open (number_at 0 4 a.reply.data) }) Opened
    else faulted s faults.Malformed
    else refuses s a.reply

abbrev pub reply_turn : State → Option Answer → TurnResult
reply_turn s None = faulted s faults.Malformed
reply_turn s (Some a) = turned_to (answered s) (Replied a.bytes)

-- What a router answers in place of the device: that it does not pass the request on. A general status of 0 is not such
-- an answer.
abbrev pub router_turn : State → Option Answer → TurnResult
router_turn s None = faulted s faults.Malformed
router_turn s (Some a) = if a.reply.status == 0 then faulted s faults.Malformed else refuses s a.reply

-- The reply to a request over a route: the device's own reply, or else a router's to the Unconnected_Send.
abbrev pub routed_turn : State → Option Answer → Option Answer → TurnResult
routed_turn s (Some a) other = turned_to (answered s) (Replied a.bytes)
routed_turn s None other = router_turn s other

abbrev pub closing_turn : State → Option Answer → TurnResult
closing_turn s None = faulted s faults.Malformed
closing_turn s (Some a) = if a.reply.status == 0 then turned_to (answered s) Closed else refuses s a.reply

-- The shape of each awaited reply: 4 bytes of data, or the message router's reply to the service of the request.
abbrev pub shaped : State → Awaited → Frame → TurnResult
shaped s awaited.Session f = session_turn s f
shaped s awaited.Connection f = opening_turn s (answer_to (manager_service_number (open_service s.wants)) f.body)
shaped s (awaited.Reply service) f = reply_turn s (answer_to service f.body)
shaped s (awaited.Routed service) f = routed_turn s (answer_to service f.body) (answer_to UNCONNECTED_SEND f.body)
shaped s awaited.End f = closing_turn s (answer_to (manager_service_number ForwardClose) f.body)

-- An awaited reply. A status other than 0 is a lasting fault.
abbrev pub answer_turn : State → Awaited → Frame → TurnResult
answer_turn s awaited f =
    if f.header.status == 0 then shaped s awaited f else faulted s (faults.Status f.header.status)

-- The reply that the originator accepts, if any.
abbrev pub accepted : Option (List ℕ) → HeardEvent
accepted None = Nothing
accepted (Some bytes) = Accepted bytes

-- An item on the connection with this T->O ID goes to its originator.
abbrev pub item_turn : State → Result (ℕ × List ℕ) CpfFault → TurnResult
item_turn s (Err fault) = turned_to s Nothing
item_turn s (Ok (id, item)) =
    if id == s.wants.t_to_o_id
    then turned_to (record s { originator = after_item s.originator item }) (accepted (accepted_reply s.originator item))
    else turned_to s Nothing

-- A SendUnitData with status 0, to the session of an open connection.
abbrev pub is_for_connection : State → Header → Bool
is_for_connection s h =
    (h.command == command_number SendUnitData) && (h.status == 0) && is_open s.connection_state
    && is_registered s.registration && (h.session == session_in s.registration)

-- Any other frame is ignored.
abbrev pub other_turn : State → Frame → TurnResult
other_turn s f = if is_for_connection s f.header then item_turn s (unit_body_of f.body) else turned_to s Nothing

abbrev pub hears_awaiting : State → Frame → Option Awaiting → TurnResult
hears_awaiting s f None = other_turn s f
hears_awaiting s f (Some w) = if is_answer w f.header then answer_turn s w.awaited f else other_turn s f

-- The client's turn at a whole frame, and at the bytes that have arrived.
abbrev pub hears : State → Frame → TurnResult
hears s f = hears_awaiting s f s.awaiting

abbrev pub hears_parsed : State → Parsed → TurnResult
hears_parsed s Incomplete = turned_to s Nothing
hears_parsed s (WholeFrame f) = hears s f
hears_parsed s (TooLongHeader h) = faulted s faults.TooLong
