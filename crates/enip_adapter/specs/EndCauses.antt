-- What ended connections between two updates, by the calls between them.
use Rattle.std.specs.Prelude.{ℕ, ◌≡◌, ◌==◌, nat_le, Bool, true, false, not, ◌&&◌, ◌||◌, if◌then◌else◌}
use Rattle.std.specs.Prelude.{List, [], ◌∷◌, map, filter, Some, Ok}
use Rattle.std.specs.List.{list_any}
use Rattle.cip_bytes.specs.Protocol.{command_of}
use Rattle.cip_bytes.specs.declared.protocol.Command.TheVariants.{SendRRData}
use Rattle.cip_message.specs.Close.{Close, close_of}
use Rattle.cip_manager.specs.declared.connection.Connection.{Connection}
use Rattle.cip_manager.specs.declared.connection.ConnectionInfo.{ConnectionInfo}
use Rattle.cip_manager.specs.Closing.{triad_of}
use Rattle.cip_manager.specs.Connection.{has_id, is_of_session_with}
use Rattle.cip_manager.specs.ConnectionInfo.{connection_info}
use Rattle.enip_wire.specs.Bodies.{rr_body_of}
use Rattle.enip_wire.specs.Frames.{Frame}
use Rattle.enip_adapter.specs.declared.endings.EndedConnection.{EndedConnection}
use Rattle.enip_adapter.specs.declared.endings.EndReason.{EndReason}
use Rattle.enip_adapter.specs.declared.endings.EndReason.TheVariants.{TimedOut, PeerEnded, SessionEnded, Closed}
use Rattle.enip_adapter.specs.Calls.{AdapterState, Call, call_meaning, call_answer, after_call}
use Rattle.enip_adapter.specs.Calls.Call.{Begins_peer, Feeds, Ends_peer, Ticks, Writes}
use Rattle.enip_adapter.specs.Endings.{is_open_in, open_in}
use Rattle.enip_adapter.specs.Runs.{after_calls, moments_of_calls, frames_of_peer}
use Rattle.enip_adapter.specs.SendRRData.{route_of}
use Rattle.enip_adapter.specs.SendRRData.Route.{Closes}

-- The deadline is at or before the current time, when the calls begin or at one of them.
abbrev pub is_deadline_reached : AdapterState → List Call → ConnectionInfo → Bool
is_deadline_reached a calls connection =
    list_any (nat_le connection.deadline) (a.state.shared.moment ∷ moments_of_calls a.state.shared.moment calls)

-- The call ends this peer.
abbrev pub is_end_of : ℕ → Call → Bool
is_end_of peer (Begins_peer rights group) = false
is_end_of peer (Feeds now other piece) = false
is_end_of peer (Ends_peer other) = other == peer
is_end_of peer (Ticks now) = false
is_end_of peer (Writes write) = false

-- The call feeds this peer, and the answer closes it: its session has been unregistered, or a length is over the limit.
abbrev pub is_close_of : ℕ → AdapterState → Call → Bool
is_close_of peer a (Begins_peer rights group) = false
is_close_of peer a (Feeds now other piece) = (other == peer) && (call_answer a (Feeds now other piece)).close
is_close_of peer a (Ends_peer other) = false
is_close_of peer a (Ticks now) = false
is_close_of peer a (Writes write) = false

abbrev pub is_closed_in : ℕ → AdapterState → List Call → Bool
is_closed_in peer a [] = false
is_closed_in peer a (call ∷ calls) = is_close_of peer a call || is_closed_in peer (after_call a call) calls

-- Why a connection ended in calls: its deadline was reached; if not, its peer was ended; if not, its peer was closed; if
-- not, it was closed by its originator.
abbrev pub reason_in_calls : AdapterState → List Call → ConnectionInfo → EndReason
reason_in_calls a calls connection =
    if is_deadline_reached a calls connection then TimedOut
    else if list_any (is_end_of connection.session) calls then PeerEnded
    else if is_closed_in connection.session a calls then SessionEnded
    else Closed

abbrev pub ending_in_calls : AdapterState → List Call → ConnectionInfo → EndedConnection
ending_in_calls a calls connection = record {
  id = connection.id;
  session = connection.session;
  reason = reason_in_calls a calls connection;
}

-- The connections that were open before the calls and are not open after them, in the order of opening.
abbrev pub endings_in_calls : AdapterState → List Call → List EndedConnection
endings_in_calls a calls =
    map (ending_in_calls a calls) (filter (λ connection. not (is_open_in (after_calls a calls) connection)) (open_in a))

-- The frame carries a Forward_Close, with this data.
pub record CarriesClose (frame : Frame) (close : Close) : Type 0 where
  pub command : command_of frame.header.command ≡ Some SendRRData
  pub request : List ℕ
  pub body : rr_body_of frame.body ≡ Ok request
  pub bytes : List ℕ
  pub route : route_of request ≡ Closes bytes
  pub read : close_of bytes ≡ Ok close

-- In this call, the connection's own session sends a Forward_Close with the connection's triad.
pub record IsForwardClosed (a : AdapterState) (call : Call) (connection : Connection) : Type 0 where
  pub frame : Frame
  pub served : frames_of_peer connection.session (call_meaning a call).events ≡ frame ∷ []
  pub close : Close
  pub carried : CarriesClose frame close
  pub named : is_of_session_with connection.session (triad_of close) connection ≡ true

-- The connection is not open after the call, and is reported as closed by its originator.
abbrev pub IsReportedClosed : AdapterState → Call → Connection → Type 0
IsReportedClosed a call connection =
    (list_any (has_id connection.o_to_t_id) (after_call a call).state.shared.manager.connections ≡ false)
    × (reason_in_calls a (call ∷ []) (connection_info connection) ≡ Closed)
