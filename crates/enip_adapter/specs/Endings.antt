-- Which connections ended between two updates, and why.
use Rattle.std.specs.Prelude.{Bool, not, nat_le, if◌then◌else◌, List, [], map, filter, Option, Some, None}
use Rattle.std.specs.List.{list_any}
use Rattle.cip_manager.specs.declared.connection.ConnectionInfo.{ConnectionInfo}
use Rattle.cip_manager.specs.Connection.{has_id}
use Rattle.cip_manager.specs.ConnectionInfo.{connection_info}
use Rattle.enip_adapter.specs.declared.endings.EndedConnection.{EndedConnection}
use Rattle.enip_adapter.specs.declared.endings.EndReason.{EndReason}
use Rattle.enip_adapter.specs.declared.endings.EndReason.TheVariants.{TimedOut, PeerEnded, SessionEnded, Closed}
use Rattle.enip_adapter.specs.declared.peer.Session.{Session}
use Rattle.enip_adapter.specs.Calls.{AdapterState}
use Rattle.enip_adapter.specs.Turn.{session_of}

-- The connections that were open at the last update, and those that ended between the last two updates.
pub record EndingsState : Type 0 where
  pub remembered : List ConnectionInfo
  pub ended : List EndedConnection

abbrev pub no_endings : EndingsState
no_endings = record { remembered = []; ended = [] }

-- What an update remembers of the open connections, in the order of opening.
abbrev pub open_in : AdapterState → List ConnectionInfo
open_in a = map connection_info a.state.shared.manager.connections

abbrev pub is_open_in : AdapterState → ConnectionInfo → Bool
is_open_in a connection = list_any (has_id connection.id) a.state.shared.manager.connections

-- A connection whose session is still open was closed. If the peer is closed, the connection ended with its session.
abbrev pub reason_of_session : Option Session → EndReason
reason_of_session None = PeerEnded
reason_of_session (Some session) = if session.closed then SessionEnded else Closed

-- Why a connection ended: a timeout comes first, then the state of its session decides.
abbrev pub end_reason : AdapterState → ConnectionInfo → EndReason
end_reason a connection =
    if nat_le connection.deadline a.state.shared.moment then TimedOut
    else reason_of_session (session_of a.state connection.session)

abbrev pub ending : AdapterState → ConnectionInfo → EndedConnection
ending a connection = record { id = connection.id; session = connection.session; reason = end_reason a connection }

-- Those of the remembered connections that are no longer open, each once, in the same order.
abbrev pub endings_of : AdapterState → List ConnectionInfo → List EndedConnection
endings_of a remembered = map (ending a) (filter (λ connection. not (is_open_in a connection)) remembered)

-- After a further update.
abbrev pub updated : EndingsState → AdapterState → EndingsState
updated e a = record { remembered = open_in a; ended = endings_of a e.remembered }
