-- Forward_Close (Volume 1, Connection Manager), and the other ends of connections: on timeout, and with their
-- session.
use Rattle.std.specs.Prelude.{ℕ, Bool, not, List, [], ◌∷◌, filter, Result, Ok, Err}
use Rattle.std.specs.List.{list_any}
use Rattle.cip_bytes.specs.declared.protocol.ExtendedStatus.{ExtendedStatus}
use Rattle.cip_bytes.specs.declared.protocol.ExtendedStatus.TheVariants.{ConnectionNotFound}
use Rattle.cip_bytes.specs.declared.protocol.ManagerService.TheVariants.{ForwardClose}
use Rattle.cip_message.specs.declared.open.LengthFault.{LengthFault}
use Rattle.cip_message.specs.Close.{Close, close_of}
use Rattle.cip_manager.specs.declared.connection.Triad.{Triad}
use Rattle.cip_manager.specs.declared.connection.Connection.{Connection}
use Rattle.cip_manager.specs.Check.{demand, first_failure}
use Rattle.cip_manager.specs.Connection.{is_of_session, is_of_session_with, is_open_at}
use Rattle.cip_manager.specs.Manager.{ManagerState, Turn, turn}
use Rattle.cip_manager.specs.Replies.{length_reply, failure_reply, close_success}

-- The triad in a Forward_Close.
abbrev pub triad_of : Close → Triad
triad_of c = record {
  connection_serial = c.connection_serial;
  originator_vendor = c.originator_vendor;
  originator_serial = c.originator_serial;
}

-- Without the connections that pass the test.
abbrev pub without : (Connection → Bool) → ManagerState → ManagerState
without test manager = record manager { connections = filter (λ connection. not (test connection)) manager.connections }

-- The check of a close, with the extended status that refuses it (in addition to the general status 0x01): the
-- session has a connection with this triad. Data that are too short or too long were refused before, when they were
-- read.
abbrev pub closing_check : ManagerState → ℕ → Triad → Result (Unit {0}) ExtendedStatus
closing_check manager session triad =
    first_failure (
    demand (list_any (is_of_session_with session triad) manager.connections) ConnectionNotFound
    ∷ [])

-- After the check.
abbrev pub decided_closing : ManagerState → ℕ → Triad → Result (Unit {0}) ExtendedStatus → Turn
decided_closing manager session triad (Err extended) = turn manager (failure_reply ForwardClose extended triad)
decided_closing manager session triad (Ok passed) =
    turn (without (is_of_session_with session triad) manager) (close_success triad)

-- A Forward_Close of a session. If the check fails, nothing changes.
abbrev pub closing_turn : ManagerState → ℕ → Triad → Turn
closing_turn manager session triad = decided_closing manager session triad (closing_check manager session triad)

-- The same, from the data of the request.
abbrev pub read_closing_turn : ManagerState → ℕ → Result Close LengthFault → Turn
read_closing_turn manager session (Err fault) = turn manager (length_reply ForwardClose fault)
read_closing_turn manager session (Ok request) = closing_turn manager session (triad_of request)

abbrev pub close_turn : ManagerState → ℕ → List ℕ → Turn
close_turn manager session content = read_closing_turn manager session (close_of content)

-- Without the connections whose deadline is at or before this moment.
abbrev pub without_overdue : ManagerState → ℕ → ManagerState
without_overdue manager now = record manager { connections = filter (is_open_at now) manager.connections }

-- Without the connections of a session.
abbrev pub without_session : ManagerState → ℕ → ManagerState
without_session manager session = without (is_of_session session) manager
