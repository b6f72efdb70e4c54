-- Both ends over TCP connections, beside both ends in whole messages: what is in flight is always one whole frame or
-- none.
use Rattle.std.proofs.Common.{◌≡◌, ℕ, ◌<◌, ◌≤◌, ◌^◌, Bool, true, false, Option, Some, None, List, [], ◌++◌, length}
use Rattle.std.proofs.Common.{slice_index}
use Rattle.std.specs.Prelude.{⊤}
use Rattle.std.specs.List.{slice_get}
use Rattle.cip_bytes.specs.declared.protocol.TheConstants.{UNCONNECTED_LIMIT}
use Rattle.cip_commander.specs.CommanderRule.{do_once}
use Rattle.enip_reconnect.specs.Worlds.{BothEnds}
use Rattle.cip_ledger.specs.Laws.{IsOfAnother}
use Rattle.cip_message.specs.LedgerCommand.{Command}
use Rattle.cip_owner.specs.Owned.{OwnedState}
use Rattle.enip_adapter.specs.declared.peer.Rights.TheVariants.{Write}
use Rattle.enip_adapter.specs.declared.peer.Session.{Session}
use Rattle.enip_adapter.specs.Calls.{AdapterState}
use Rattle.enip_adapter.specs.SendRRData.{Executes, route_of}
use Rattle.enip_adapter.specs.Turn.{new_session}
use Rattle.enip_adapter.proofs.SoundLemmas.{IsSound}
use Rattle.enip_client.specs.Client.{ClientState}
use Rattle.enip_client.specs.Frames.{register_frame, request_frame}
use Rattle.enip_wire.specs.Frames.{frame}
use Rattle.enip_reconnect.specs.World.{TcpConnection, Stream, Ends, stream_with}
use Rattle.enip_reconnect.proofs.AdapterSide.{Holds, registered_session}
use Rattle.enip_reconnect.proofs.ClientReplies.{IsTaken}
use Rattle.enip_reconnect.proofs.ClientSide.{IsNew, IsRegistering, IsFree, IsAsking, registered_frame}

-- ---- on the way to the adapter

-- What is on its way to the adapter on one TCP connection: nothing, on a session that is registered or not; a
-- RegisterSession with this context; with this context, the message at this position of all that were sent, with this
-- command; or another request.
pub data Flight : Type 0 where
  Nothing : (registered : Bool) → Flight
  Registration : (context : ℕ) → Flight
  Message : (context position : ℕ) (command : Command) → Flight
  Inquiry : (context : ℕ) (request : List ℕ) → Flight

-- The session at the adapter meanwhile, and the bytes.
abbrev pub session_in : ℕ → Flight → Session
session_in peer (Nothing registered) =
    record { handle = peer; registered = registered; closed = false; rights = Write; group = None }
session_in peer (Registration context) = new_session peer Write None
session_in peer (Message context position command) = registered_session peer
session_in peer (Inquiry context request) = registered_session peer

abbrev pub bytes_in : ℕ → Flight → List ℕ
bytes_in peer (Nothing registered) = []
bytes_in peer (Registration context) = frame (register_frame context)
bytes_in peer (Message context position command) = frame (request_frame peer context (do_once command))
bytes_in peer (Inquiry context request) = frame (request_frame peer context request)

-- The message was sent.
pub record IsSentAt (sent : List (ℕ × List ℕ)) (position : ℕ) (command : Command) : Type 0 where
  pub at : slice_get sent position ≡ Some (command.number, do_once command)
  pub small : length (do_once command) ≤ UNCONNECTED_LIMIT

-- The request is no command of this originator's, and reaches the device.
pub record IsInquiry (own : ℕ) (request : List ℕ) : Type 0 where
  pub from : 2 ≤ length request
  pub to : length request ≤ UNCONNECTED_LIMIT
  pub route : route_of request ≡ Executes
  pub others : IsOfAnother own (UNCONNECTED_LIMIT, request)

abbrev pub WasSent : ℕ → List (ℕ × List ℕ) → Flight → Type 0
WasSent own sent (Nothing registered) = ⊤
WasSent own sent (Registration context) = ⊤
WasSent own sent (Message context position command) = IsSentAt sent position command
WasSent own sent (Inquiry context request) = IsInquiry own request

-- The adapter holds a front of these bytes, and the others are in flight.
pub record Carries (own : ℕ) (a : AdapterState) (sent : List (ℕ × List ℕ)) (peer : ℕ) (in_flight : List ℕ) (flight : Flight) : Type 0 where
  pub below : peer < 2 ^ 32
  pub held : List ℕ
  pub holds : Holds a peer (session_in peer flight) held
  pub stream : held ++ in_flight ≡ bytes_in peer flight
  pub was_sent : WasSent own sent flight

-- ---- a TCP connection

-- How far it is: new; a RegisterSession is on its way, or the reply to it; nothing is on its way; a command is on its
-- way; the reply to it, which is the answer at this position of all that were sent back; another request, or the reply
-- to it.
pub data Phase : Type 0 where
  New : Phase
  Registering : (context : ℕ) → Phase
  Registered : (context : ℕ) → Phase
  Free : Phase
  Asking : (context position : ℕ) (command : Command) → Phase
  Answered : (context position number : ℕ) (message answer : List ℕ) → Phase
  Inquiring : (context : ℕ) (request : List ℕ) → Phase
  Informed : (context : ℕ) (request answer : List ℕ) → Phase

abbrev pub flight_in : Phase → Flight
flight_in New = Nothing false
flight_in (Registering context) = Registration context
flight_in (Registered context) = Nothing true
flight_in Free = Nothing true
flight_in (Asking context position command) = Message context position command
flight_in (Answered context position number message answer) = Nothing true
flight_in (Inquiring context request) = Inquiry context request
flight_in (Informed context request answer) = Nothing true

-- What is on its way to the originator.
abbrev pub back_in : ℕ → Phase → List ℕ
back_in peer New = []
back_in peer (Registering context) = []
back_in peer (Registered context) = frame (registered_frame peer context)
back_in peer Free = []
back_in peer (Asking context position command) = []
back_in peer (Answered context position number message answer) = frame (request_frame peer context answer)
back_in peer (Inquiring context request) = []
back_in peer (Informed context request answer) = frame (request_frame peer context answer)

-- The command that was asked, and the client.
abbrev pub asked_in : Phase → Option ℕ
asked_in New = None
asked_in (Registering context) = None
asked_in (Registered context) = None
asked_in Free = None
asked_in (Asking context position command) = Some command.number
asked_in (Answered context position number message answer) = Some number
asked_in (Inquiring context request) = None
asked_in (Informed context request answer) = None

abbrev pub ClientIs : ClientState → ℕ → Phase → Type 0
ClientIs c peer New = IsNew c
ClientIs c peer (Registering context) = IsRegistering c context
ClientIs c peer (Registered context) = IsRegistering c context
ClientIs c peer Free = IsFree c peer
ClientIs c peer (Asking context position command) = IsAsking c peer context (do_once command)
ClientIs c peer (Answered context position number message answer) = IsAsking c peer context message
ClientIs c peer (Inquiring context request) = IsAsking c peer context request
ClientIs c peer (Informed context request answer) = IsAsking c peer context request

-- The answer was sent back.
pub record IsBackAt (back : List (ℕ × List ℕ)) (position number : ℕ) (message answer : List ℕ) : Type 0 where
  pub at : slice_get back position ≡ Some (number, answer)
  pub taken : IsTaken (slice_index message 0) answer

abbrev pub WasBack : List (ℕ × List ℕ) → Phase → Type 0
WasBack back New = ⊤
WasBack back (Registering context) = ⊤
WasBack back (Registered context) = ⊤
WasBack back Free = ⊤
WasBack back (Asking context position command) = ⊤
WasBack back (Answered context position number message answer) = IsBackAt back position number message answer
WasBack back (Inquiring context request) = ⊤
WasBack back (Informed context request answer) = IsTaken (slice_index request 0) answer

-- The originator's end, with what is on its way to it.
pub record Runs (back : List (ℕ × List ℕ)) (connection : TcpConnection) (phase : Phase) : Type 0 where
  pub client : ClientIs connection.client connection.peer phase
  pub stream : connection.client.held ++ connection.in_flight ≡ back_in connection.peer phase
  pub asked : connection.asked ≡ asked_in phase
  pub was_back : WasBack back phase

-- ---- both ends

-- What is on the way to the adapter on a stream.
abbrev pub Flies : ℕ → AdapterState → List (ℕ × List ℕ) → Stream → Flight → Type 0
Flies own a sent stream flight = Carries own a sent stream.peer stream.in_flight flight

-- Something or nothing.
pub record IsFlying (own : ℕ) (a : AdapterState) (sent : List (ℕ × List ℕ)) (stream : Stream) : Type 0 where
  pub flight : Flight
  pub carries : Flies own a sent stream flight

abbrev pub AreFlying : ℕ → AdapterState → List (ℕ × List ℕ) → List Stream → Type 0
AreFlying own a sent streams = (peer : ℕ) (stream : Stream) → stream_with peer streams ≡ Some stream → IsFlying own a sent stream

-- If the TCP connection did not end at the adapter, its stream has what the phase says.
pub record IsOn (own : ℕ) (a : AdapterState) (sent back : List (ℕ × List ℕ)) (streams : List Stream) (connection : TcpConnection)
    : Type 0 where
  pub below : connection.peer < 2 ^ 32
  pub phase : Phase
  pub runs : Runs back connection phase
  pub flies : (stream : Stream) → stream_with connection.peer streams ≡ Some stream → Flies own a sent stream (flight_in phase)

abbrev pub IsOnIfAny : ℕ → AdapterState → List (ℕ × List ℕ) → List (ℕ × List ℕ) → List Stream → Option TcpConnection → Type 0
IsOnIfAny own a sent back streams None = ⊤
IsOnIfAny own a sent back streams (Some connection) = IsOn own a sent back streams connection

pub record Tracks (own : ℕ) (ends : Ends) (sent back : List (ℕ × List ℕ)) : Type 0 where
  pub sound : IsSound ends.adapter
  pub connection : IsOnIfAny own ends.adapter sent back ends.streams ends.connection
  pub streams : AreFlying own ends.adapter sent ends.streams

-- Both ends in messages, with what was sent and sent back.
abbrev pub in_messages : Ends → List (ℕ × List ℕ) → List (ℕ × List ℕ) → BothEnds OwnedState
in_messages ends sent back = record {
  device = ends.adapter.state.shared.objects;
  commander = ends.commander;
  sent = sent;
  back = back;
  accepted = ends.accepted;
}
