-- Both ends of numbered commands as they run: a whole adapter, an originator with a commander and a whole client, and
-- the bytes between them.
--
-- The originator has one TCP connection at a time, with a client of its own, and its commands are unconnected requests
-- (SendRRData). A TCP connection loses no byte and keeps the order, until it breaks.
use Rattle.std.specs.Prelude.{ℕ, ◌==◌, not, Bool, false, if◌then◌else◌, List, [], ◌∷◌, ◌++◌, take, drop, filter, fold}
use Rattle.std.specs.Prelude.{Option, Some, None, is_some, Result, Ok, Err}
use Rattle.cip_commander.specs.CommanderRule.{CommanderState, command_refusal, abandoned, pending_message, outcome_of}
use Rattle.cip_commander.specs.CommanderRule.{after_outcome}
use Rattle.cip_commander.specs.Outcome.{Outcome}
use Rattle.enip_reconnect.specs.Worlds.{gives, sends, awaits, accepted_by}
use Rattle.cip_commander.specs.CommanderRule.{after_command}
use Rattle.cip_ledger.specs.Device.{Device, device_of}
use Rattle.cip_ledger.specs.Ledger.{empty_ledger}
use Rattle.cip_objects.specs.Contents.{Contents}
use Rattle.enip_adapter.specs.declared.adapter.Limits.{Limits}
use Rattle.enip_adapter.specs.declared.adapter.Shares.{Shares}
use Rattle.enip_adapter.specs.declared.peer.Rights.TheVariants.{Write}
use Rattle.enip_adapter.specs.declared.shared.Listen.{Listen}
use Rattle.enip_adapter.specs.Adapter.{shared_adapter}
use Rattle.enip_adapter.specs.Calls.{AdapterState, Call, call_meaning, call_answer}
use Rattle.enip_adapter.specs.Calls.Call.{Begins_peer, Feeds, Ends_peer, Ticks, Writes}
use Rattle.enip_adapter.specs.Lookup.{first_with, with_first}
use Rattle.enip_adapter.specs.Runs.{after_calls}
use Rattle.enip_adapter.specs.Serving.{output_bytes}
use Rattle.enip_adapter.specs.Turn.{Output}
use Rattle.enip_adapter.specs.Turn.Output.{NoReply, Sends, Begins, Refuses}
use Rattle.enip_client.specs.Calls.{Lent, registers, asks}
use Rattle.enip_client.specs.Client.{ClientState, Fed, new_client, with_state, fed}
use Rattle.enip_client.specs.Hears.{HeardEvent}
use Rattle.enip_client.specs.Hears.HeardEvent.{Replied}
use Rattle.enip_client.specs.declared.fault.ClientFault.{ClientFault}
use Rattle.enip_client.specs.declared.wants.Wants.{Wants}
use Rattle.enip_wire.specs.Frames.{frame}
use Rattle.enip_reconnect.specs.Events.{Event, NewCommand, Abandon, Connect, Register, Send, Ask, Arrive, Receive}
use Rattle.enip_reconnect.specs.Events.{Break, End, Other}

-- The originator's end of a TCP connection: its client, its peer handle at the adapter, the number of the command that
-- was last asked on it, if the reply was not heard yet, and the bytes in flight to the originator.
pub record TcpConnection : Type 0 where
  pub client : ClientState
  pub peer : ℕ
  pub asked : Option ℕ
  pub in_flight : List ℕ

-- The adapter's end of a TCP connection: its peer handle, and the bytes in flight to the adapter.
pub record Stream : Type 0 where
  pub peer : ℕ
  pub in_flight : List ℕ

-- The adapter, the commander, the commands that were given, the originator's end of its TCP connection, if it has one,
-- the adapter's end of each of its connections that did not end there, and the accepted replies. A command and a reply
-- come with the command's number.
pub record Ends : Type 0 where
  pub adapter : AdapterState
  pub commander : CommanderState
  pub given : List (ℕ × List ℕ)
  pub connection : Option TcpConnection
  pub streams : List Stream
  pub accepted : List (ℕ × List ℕ)

-- How both ends begin: an adapter over these objects and an empty ledger of so many slots, in this life of the device,
-- with shares for groups of peers, and a commander. No peer is connected.
pub record Opening : Type 0 where
  pub slots : ℕ
  pub life : ℕ
  pub objects : Contents
  pub listen : Listen
  pub limits : Limits
  pub shares : Shares
  pub commander : CommanderState

abbrev pub device_at : Opening → Device
device_at opening = device_of (Some (empty_ledger opening.slots opening.life)) opening.objects

abbrev pub ends_at : Opening → Ends
ends_at opening = record {
  adapter = shared_adapter (device_at opening) opening.listen opening.limits opening.shares;
  commander = opening.commander;
  given = sends opening.commander opening.commander.pending;
  connection = None;
  streams = [];
  accepted = [];
}

-- ---- the adapter's calls

-- The stream with this peer handle, the streams with a new one in its place, and the others.
abbrev pub stream_with : ℕ → List Stream → Option Stream
stream_with peer streams = first_with (λ (stream : Stream). stream.peer) peer streams

abbrev pub with_stream : Stream → List Stream → List Stream
with_stream new streams = with_first (λ (stream : Stream). stream.peer) new.peer new streams

abbrev pub other_streams : ℕ → List Stream → List Stream
other_streams peer streams = filter (λ (stream : Stream). not (stream.peer == peer)) streams

-- The call is for one of the originator's peers.
abbrev pub is_originators : Ends → ℕ → Bool
is_originators ends peer = is_some (stream_with peer ends.streams)

abbrev pub is_for_originator : Ends → Call → Bool
is_for_originator ends (Begins_peer rights group) = false
is_for_originator ends (Feeds now peer piece) = is_originators ends peer
is_for_originator ends (Ends_peer peer) = is_originators ends peer
is_for_originator ends (Ticks now) = false
is_for_originator ends (Writes write) = false

-- A peer of the originator may write, and is of no group.
abbrev pub begins_peer : Call
begins_peer = Begins_peer Write None

-- The adapter begins a peer if the originator has no TCP connection.
abbrev pub begin_calls : Option TcpConnection → List Call
begin_calls None = begins_peer ∷ []
begin_calls (Some connection) = []

-- Bytes that arrive at the adapter are fed.
abbrev pub feed : ℕ → ℕ → Stream → Call
feed now count stream = Feeds now stream.peer (take count stream.in_flight)

abbrev pub feed_calls : ℕ → ℕ → Option Stream → List Call
feed_calls now count None = []
feed_calls now count (Some stream) = feed now count stream ∷ []

abbrev pub end_calls : Option Stream → List Call
end_calls None = []
end_calls (Some stream) = Ends_peer stream.peer ∷ []

-- The calls of the adapter at an event: at most one. A call of others is for their peers.
abbrev pub calls_at : Ends → Event → List Call
calls_at ends (NewCommand request) = []
calls_at ends Abandon = []
calls_at ends (Connect wants) = begin_calls ends.connection
calls_at ends Register = []
calls_at ends Send = []
calls_at ends (Ask request) = []
calls_at ends (Arrive now peer count) = feed_calls now count (stream_with peer ends.streams)
calls_at ends (Receive count) = []
calls_at ends Break = []
calls_at ends (End peer) = end_calls (stream_with peer ends.streams)
calls_at ends (Other call) = if is_for_originator ends call then [] else call ∷ []

-- ---- the originator and the bytes in flight

-- A TCP connection begins if the adapter accepts it.
abbrev pub begun : Ends → Wants → Output → Ends
begun ends wants (NoReply why) = ends
begun ends wants (Sends bytes) = ends
begun ends wants (Begins handle) = record ends {
  connection = Some (record { client = new_client wants; peer = handle; asked = None; in_flight = [] });
  streams = record { peer = handle; in_flight = [] } ∷ ends.streams;
}
begun ends wants (Refuses full) = ends

-- There is one connection at a time.
abbrev pub connected : Ends → Wants → Option TcpConnection → Ends
connected ends wants None = begun ends wants (call_answer ends.adapter begins_peer).output
connected ends wants (Some connection) = ends

-- Bytes are sent on a stream, if it did not end.
abbrev pub appended : List ℕ → List Stream → Option Stream → List Stream
appended bytes streams None = streams
appended bytes streams (Some stream) =
    with_stream (record stream { in_flight = stream.in_flight ++ bytes }) streams

-- A frame that the client lends is sent. If the client refuses the call, nothing changes.
abbrev pub sending : Ends → TcpConnection → Option ℕ → Result Lent ClientFault → Ends
sending ends connection asked (Ok lent) = record ends {
  connection = Some (record connection { client = with_state connection.client lent.state; asked = asked });
  streams = appended (frame lent.frame) ends.streams (stream_with connection.peer ends.streams);
}
sending ends connection asked (Err fault) = ends

abbrev pub registering : Ends → Option TcpConnection → Ends
registering ends None = ends
registering ends (Some connection) = sending ends connection connection.asked (registers connection.client.state)

abbrev pub asking : Ends → Option (List ℕ) → Option TcpConnection → Ends
asking ends None connection = ends
asking ends (Some message) None = ends
asking ends (Some message) (Some connection) =
    sending ends connection (Some ends.commander.last_number) (asks connection.client.state message)

-- Another request is no command, so no command is asked then.
abbrev pub inquiring : Ends → List ℕ → Option TcpConnection → Ends
inquiring ends request None = ends
inquiring ends request (Some connection) = sending ends connection None (asks connection.client.state request)

-- What the adapter takes is in flight no more. Its answer is in flight on the same TCP connection, or lost if that one
-- broke.
abbrev pub with_answer : List ℕ → TcpConnection → TcpConnection
with_answer bytes connection = record connection { in_flight = connection.in_flight ++ bytes }

abbrev pub answered : ℕ → List ℕ → Option TcpConnection → Option TcpConnection
answered peer bytes None = None
answered peer bytes (Some connection) =
    Some (if connection.peer == peer then with_answer bytes connection else connection)

abbrev pub taken : AdapterState → Call → Stream → Stream
taken adapter call stream = record stream { in_flight = drop (call_meaning adapter call).taken stream.in_flight }

abbrev pub output_at : AdapterState → Call → List ℕ
output_at adapter call = output_bytes (call_answer adapter call).output

abbrev pub arrived : Ends → ℕ → ℕ → Option Stream → Ends
arrived ends now count None = ends
arrived ends now count (Some stream) = record ends {
  connection = answered stream.peer (output_at ends.adapter (feed now count stream)) ends.connection;
  streams = with_stream (taken ends.adapter (feed now count stream) stream) ends.streams;
}

-- A reply is for the command that was asked last on its TCP connection. The commander receives it if that command is
-- still pending.
abbrev pub accepting : Ends → Outcome → Ends
accepting ends outcome = record ends {
  commander = after_outcome ends.commander outcome;
  accepted = ends.accepted ++ accepted_by ends.commander.last_number outcome;
}

abbrev pub replied : Ends → Option ℕ → List ℕ → Ends
replied ends None bytes = ends
replied ends (Some number) bytes =
    if awaits ends.commander number then accepting ends (outcome_of ends.commander bytes) else ends

abbrev pub heard : Ends → TcpConnection → HeardEvent → Ends
heard ends connection (Replied bytes) =
    replied (record ends { connection = Some (record connection { asked = None }) }) connection.asked bytes
heard ends connection other = record ends { connection = Some connection }

-- What the client takes is in flight no more.
abbrev pub received : Ends → TcpConnection → Fed → Ends
received ends connection fed =
    heard ends (record connection {
      client = fed.client;
      in_flight = drop fed.taken connection.in_flight;
    }) fed.heard_event

abbrev pub received_on : Ends → ℕ → Option TcpConnection → Ends
received_on ends count None = ends
received_on ends count (Some connection) =
    received ends connection (fed connection.client (take count connection.in_flight))

-- All but the adapter after an event.
abbrev pub moved : Ends → Event → Ends
moved ends (NewCommand request) = record ends {
  commander = after_command ends.commander request;
  given = ends.given ++ gives ends.commander request (command_refusal ends.commander request);
}
moved ends Abandon = record ends { commander = abandoned ends.commander }
moved ends (Connect wants) = connected ends wants ends.connection
moved ends Register = registering ends ends.connection
moved ends Send = asking ends (pending_message ends.commander) ends.connection
moved ends (Ask request) = inquiring ends request ends.connection
moved ends (Arrive now peer count) = arrived ends now count (stream_with peer ends.streams)
moved ends (Receive count) = received_on ends count ends.connection
moved ends Break = record ends { connection = None }
moved ends (End peer) = record ends { streams = other_streams peer ends.streams }
moved ends (Other call) = ends

-- ---- runs

abbrev pub ends_step : Ends → Event → Ends
ends_step ends event = record (moved ends event) { adapter = after_calls ends.adapter (calls_at ends event) }

-- Both ends after these events, from left to right.
abbrev pub ends_run : Ends → List Event → Ends
ends_run ends events = fold ends_step ends events

abbrev pub ends_after : Opening → List Event → Ends
ends_after opening events = ends_run (ends_at opening) events
