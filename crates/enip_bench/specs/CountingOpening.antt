-- The opening of the counting world: the client registers and opens its connection without loss, at moment 0.
use Rattle.std.specs.Prelude.{ℕ, ◌<◌, ◌≤◌, ◌^◌, if◌then◌else◌, Bool, true, false, Option, Some, None, List, [], Result, Ok, Err}
use Rattle.cip_bytes.specs.Reading.{◌>>=◌}
use Rattle.cip_bytes.specs.declared.protocol.TheConstants.{LARGEST_CONNECTION_SIZE}
use Rattle.cip_ledger.specs.Device.{Device}
use Rattle.enip_adapter.specs.Adapter.{new_adapter}
use Rattle.enip_adapter.specs.Calls.{AdapterState, Call, after_call, call_answer}
use Rattle.enip_adapter.specs.Calls.Call.{Begins_peer, Feeds}
use Rattle.enip_adapter.specs.Turn.Output.{NoReply, Sends, Begins, Refuses}
use Rattle.enip_adapter.specs.Turn.{Output}
use Rattle.enip_adapter.specs.declared.adapter.Limits.{Limits}
use Rattle.enip_adapter.specs.declared.peer.Rights.TheVariants.{Write}
use Rattle.enip_adapter.specs.declared.shared.Listen.{Listen}
use Rattle.enip_client.specs.Calls.{Lent, registers, opens}
use Rattle.enip_client.specs.Client.{ClientState, Fed, new_client, fed, with_state}
use Rattle.enip_client.specs.Frames.{register_frame}
use Rattle.enip_client.specs.Hears.{HeardEvent}
use Rattle.enip_client.specs.Hears.HeardEvent.{Nothing, Registered, Opened}
use Rattle.enip_client.specs.declared.fault.ClientFault.{ClientFault}
use Rattle.enip_client.specs.declared.wants.Wants.{Wants}
use Rattle.enip_wire.specs.Frames.{frame}
use Rattle.enip_bench.specs.CountingWorld.{CountingWorld, output_bytes}

-- a peer could not begin, or the client could not register or open its connection
pub data Setup : Type 0 where
  ARefusal : Setup

-- each field of what a client wants is in range, and both sizes are those of a connection
pub record IsWanted (wants : Wants) : Type 0 where
  pub originator_vendor : wants.originator_vendor < 2 ^ 16
  pub originator_serial : wants.originator_serial < 2 ^ 32
  pub connection_serial : wants.connection_serial < 2 ^ 16
  pub t_to_o_id : wants.t_to_o_id < 2 ^ 32
  pub rpi : wants.rpi < 2 ^ 32
  pub timeout_multiplier : wants.timeout_multiplier < 2 ^ 8
  pub o_to_t_from : 4 ≤ wants.o_to_t_size
  pub o_to_t_to : wants.o_to_t_size ≤ LARGEST_CONNECTION_SIZE
  pub t_to_o_from : 10 ≤ wants.t_to_o_size
  pub t_to_o_to : wants.t_to_o_size ≤ LARGEST_CONNECTION_SIZE
  pub first_count : wants.first_count < 2 ^ 16

-- the handle of the peer that begins
abbrev pub handle_in_output : Output → Result ℕ Setup
handle_in_output (NoReply why) = Err ARefusal
handle_in_output (Sends bytes) = Err ARefusal
handle_in_output (Begins handle) = Ok handle
handle_in_output (Refuses full) = Err ARefusal

-- a peer of the bench may write, and is of no group
abbrev pub begins_peer : Call
begins_peer = Begins_peer Write None

abbrev pub begins : AdapterState → Result ℕ Setup
begins adapter = handle_in_output (call_answer adapter begins_peer).output

-- both ends
pub record Ends : Type 0 where
  pub adapter : AdapterState
  pub client : ClientState

-- feeds the client what the adapter sends, if anything
abbrev pub fed_any : ClientState → Option (List ℕ) → Fed
fed_any client None = record { client = client; taken = 0; heard_event = Nothing }
fed_any client (Some bytes) = fed client bytes

abbrev pub is_registered_event : HeardEvent → Bool
is_registered_event Registered = true
is_registered_event other = false

abbrev pub is_opened_event : HeardEvent → Bool
is_opened_event Opened = true
is_opened_event other = false

-- the ends, if the client heard what it has to; otherwise a refusal
abbrev pub if_heard : (HeardEvent → Bool) → AdapterState → Fed → Result Ends Setup
if_heard is_wanted adapter fed =
    if is_wanted fed.heard_event then Ok (record { adapter = adapter; client = fed.client }) else Err ARefusal

-- a frame that the client lends goes to the adapter at moment 0, and the answer to the client
abbrev pub exchange : Ends → ℕ → (HeardEvent → Bool) → Result Lent ClientFault → Result Ends Setup
exchange ends peer is_wanted (Err fault) = Err ARefusal
exchange ends peer is_wanted (Ok lent) =
    let call : Call = Feeds 0 peer (frame lent.frame) in
    if_heard is_wanted (after_call ends.adapter call)
    (fed_any (with_state ends.client lent.state) (output_bytes (call_answer ends.adapter call).output))

-- a connection just opened between these ends, and a second session, registered
abbrev pub counting_at_opening : Ends → ℕ → ℕ → CountingWorld
counting_at_opening ends peer second = record {
  adapter = after_call (after_call ends.adapter begins_peer) (Feeds 0 second (frame (register_frame 0)));
  client = ends.client;
  peer = peer;
  second = second;
  sent = [];
  back = [];
  last_reached = None;
  last_back = None;
  submits = 0;
  accepted = [];
}

-- both ends as given, after the client's peer began
abbrev pub ends_at_beginning : AdapterState → ClientState → Ends
ends_at_beginning adapter client = record { adapter = after_call adapter begins_peer; client = client }

-- the opening between these ends, up to the first refusal
abbrev pub opening_between : AdapterState → ClientState → Result CountingWorld Setup
opening_between adapter client = do
  peer ← begins adapter
  registered ← exchange (ends_at_beginning adapter client) peer is_registered_event (registers client.state)
  opened ← exchange registered peer is_opened_event (opens registered.client.state)
  second ← begins opened.adapter
  Ok (counting_at_opening opened peer second)

-- the opening between a new adapter and a new client
unfoldable pub opening : Device → Listen → Limits → Wants → Result CountingWorld Setup
opening objects listen limits wants = opening_between (new_adapter objects listen limits) (new_client wants)
