-- Forward_Open and Large_Forward_Open (Volume 1, Connection Manager): what an opening asks for, and why it is
-- refused.
--
-- `Opening` and `Direction` are the records that `src/opening.rt` declares. They hold what an opening asks for,
-- whatever its layout: the layouts differ only in how their parameters are read. `Opener`, of `src/connection.rt`, is who
-- opens a connection: a session, and the group for which the connection counts, if any.
use Rattle.std.specs.Prelude.{◌≡◌, ℕ, ◌+◌, ◌^◌, ◌≤◌, nat_lt, nat_le, ◌==◌, Bool, true, false, not, ◌&&◌, is_some, is_none}
use Rattle.std.specs.Prelude.{List, [], ◌∷◌, ◌++◌, length, Option, Some, None, Result, Ok, Err}
use Rattle.std.specs.List.{list_any}
use Rattle.cip_bytes.specs.declared.protocol.TheConstants.{LARGEST_CONNECTION_SIZE, MESSAGE_ROUTER, SMALLEST_O_TO_T_SIZE, SMALLEST_T_TO_O_SIZE}
use Rattle.cip_bytes.specs.declared.protocol.ManagerService.{ManagerService}
use Rattle.cip_bytes.specs.declared.protocol.ManagerService.TheVariants.{ForwardOpen, LargeForwardOpen}
use Rattle.cip_bytes.specs.declared.protocol.GeneralStatus.TheVariants.{Success}
use Rattle.cip_bytes.specs.declared.protocol.ExtendedStatus.{ExtendedStatus}
use Rattle.cip_bytes.specs.declared.protocol.ExtendedStatus.TheVariants.{DoubleOpen, Transport, ConnectionParameter}
use Rattle.cip_bytes.specs.declared.protocol.ExtendedStatus.TheVariants.{ConnectionSize, Rpi, OutOfConnections}
use Rattle.cip_bytes.specs.declared.protocol.ExtendedStatus.TheVariants.{ApplicationPath, PathSegment}
use Rattle.cip_message.specs.declared.key.Device.{Device}
use Rattle.cip_message.specs.declared.key.Key.{Key}
use Rattle.cip_message.specs.declared.path.Path.{Path}
use Rattle.cip_message.specs.declared.open_path.OpenPath.{OpenPath}
use Rattle.cip_message.specs.declared.open.LengthFault.{LengthFault}
use Rattle.cip_message.specs.Open.{Layout, small, large, Open, open_of, large_open_of, connection_type, size_of}
use Rattle.cip_message.specs.Open.{large_connection_type, large_size_of, is_server_of, class_of_transport}
use Rattle.cip_message.specs.OpenPath.{open_path_of}
use Rattle.cip_message.specs.Key.{refusal}
use Rattle.cip_manager.specs.declared.connection.Connection.{Connection}
use Rattle.cip_manager.specs.declared.connection.Opener.{Opener}
use Rattle.cip_manager.specs.declared.connection.Triad.{Triad}
use Rattle.cip_manager.specs.declared.opening.Direction.{Direction}
use Rattle.cip_manager.specs.declared.opening.Opening.{Opening}
use Rattle.cip_class3.specs.TargetRule.{target_at_opening}
use Rattle.cip_manager.specs.Check.{demand, refusal_by, first_failure}
use Rattle.cip_manager.specs.Connection.{has_triad, count_of_group, timeout_of, deadline_at_opening}
use Rattle.cip_manager.specs.Manager.{ManagerState, Turn, turn}
use Rattle.cip_manager.specs.Replies.{reply_of_service, length_reply, failure_reply, open_success_data, o_to_t_id_in}

-- One direction, from its RPI and its 16-bit parameters.
abbrev pub direction_of : ℕ → ℕ → Direction
direction_of rpi parameters =
    record { rpi = rpi; connection_type = connection_type parameters; size = size_of parameters }

-- One direction, from its RPI and its 32-bit parameters.
abbrev pub large_direction_of : ℕ → ℕ → Direction
large_direction_of rpi parameters =
    record { rpi = rpi; connection_type = large_connection_type parameters; size = large_size_of parameters }

-- What a request asks for, with these two directions.
abbrev pub opening_with : Direction → Direction → Open → Opening
opening_with o_to_t t_to_o o = record {
  t_to_o_id = o.t_to_o_id;
  triad = record {
    connection_serial = o.connection_serial;
    originator_vendor = o.originator_vendor;
    originator_serial = o.originator_serial;
  };
  timeout_multiplier = o.timeout_multiplier;
  o_to_t = o_to_t;
  t_to_o = t_to_o;
  is_server = is_server_of o.transport;
  transport_class = class_of_transport o.transport;
  path = open_path_of o.path;
}

-- What a Forward_Open asks for.
abbrev pub opening_of : Open → Opening
opening_of o =
    opening_with (direction_of o.o_to_t_rpi o.o_to_t_parameters) (direction_of o.t_to_o_rpi o.t_to_o_parameters) o

-- What a Large_Forward_Open asks for.
abbrev pub large_opening_of : Open → Opening
large_opening_of o =
    opening_with (large_direction_of o.o_to_t_rpi o.o_to_t_parameters)
    (large_direction_of o.t_to_o_rpi o.t_to_o_parameters) o

-- The connection type is point to point.
abbrev pub is_point_to_point : Direction → Bool
is_point_to_point direction = direction.connection_type == 2

abbrev pub are_point_to_point : Opening → Bool
are_point_to_point opening = is_point_to_point opening.o_to_t && is_point_to_point opening.t_to_o

-- The connection size, which includes the sequence count, is in this range.
abbrev pub is_size : ℕ → ℕ → Direction → Bool
is_size least greatest direction = nat_le least direction.size && nat_le direction.size greatest

-- The extended status with which the device refuses the key, if there is a key and it does.
abbrev pub key_refusal : Device → Option Key → Option ExtendedStatus
key_refusal device None = None
key_refusal device (Some key) = refusal device key

abbrev pub key_in : Option OpenPath → Option Key
key_in None = None
key_in (Some o) = o.key

-- The path leads to the Message Router: instance 1, with no attribute and no member.
abbrev pub is_message_router : Path → Bool
is_message_router path =
    (path.class == MESSAGE_ROUTER) && (path.instance == 1) && is_none path.attribute && is_none path.member

abbrev pub names_message_router : Option OpenPath → Bool
names_message_router None = false
names_message_router (Some o) = is_message_router o.path

-- The checks of an opening, each with the extended status that refuses it (in addition to the general status 0x01).
-- Data that are too short (0x13) or too long (0x15) were refused before, when they were read.

-- The checks of the path: the key accepts this device, and the path leads to its Message Router.
abbrev pub path_checks : Device → Opening → List (Result (Unit {0}) ExtendedStatus)
path_checks device opening =
    demand (is_some opening.path) PathSegment
    ∷ refusal_by (key_refusal device (key_in opening.path))
    ∷ demand (names_message_router opening.path) ApplicationPath
    ∷ []

-- The checks of the other fields, which do not depend on the open connections.
abbrev pub field_checks : Opening → List (Result (Unit {0}) ExtendedStatus)
field_checks opening =
    demand (opening.is_server && (opening.transport_class == 3)) Transport
    ∷ demand (are_point_to_point opening && nat_le opening.timeout_multiplier 7) ConnectionParameter
    ∷ demand (is_size SMALLEST_O_TO_T_SIZE LARGEST_CONNECTION_SIZE opening.o_to_t
    && is_size SMALLEST_T_TO_O_SIZE LARGEST_CONNECTION_SIZE opening.t_to_o) ConnectionSize
    ∷ demand (not (opening.o_to_t.rpi == 0)) Rpi
    ∷ []

-- No open connection has the triad.
abbrev pub triad_check : ManagerState → Triad → Result (Unit {0}) ExtendedStatus
triad_check manager triad = demand (not (list_any (has_triad triad) manager.connections)) DoubleOpen

-- A group has fewer connections than its share. A connection of no group needs no share.
abbrev pub has_share_left : ManagerState → Option ℕ → Bool
has_share_left manager None = true
has_share_left manager (Some group) = nat_lt (count_of_group group manager.connections) manager.share

-- A slot is free, an ID is left, and the group has a share left.
abbrev pub room_check : ManagerState → Option ℕ → Result (Unit {0}) ExtendedStatus
room_check manager group =
    demand (nat_lt (length manager.connections) manager.places && nat_lt manager.next_id (2 ^ 32)
    && has_share_left manager group) OutOfConnections

-- The checks against the open connections.
abbrev pub table_checks : ManagerState → Option ℕ → Triad → List (Result (Unit {0}) ExtendedStatus)
table_checks manager group triad = triad_check manager triad ∷ room_check manager group ∷ []

-- All checks of an opening for a group, in their order.
abbrev pub opening_checks : ManagerState → Option ℕ → Opening → List (Result (Unit {0}) ExtendedStatus)
opening_checks manager group opening =
    path_checks manager.device opening ++ field_checks opening ++ table_checks manager group opening.triad

-- Why the opening is refused: the first check that fails.
abbrev pub opening_check : ManagerState → Option ℕ → Opening → Result (Unit {0}) ExtendedStatus
opening_check manager group opening = first_failure (opening_checks manager group opening)

-- The same without the last check.
abbrev pub earlier_check : ManagerState → Opening → Result (Unit {0}) ExtendedStatus
earlier_check manager opening =
    first_failure (path_checks manager.device opening ++ field_checks opening
    ++ triad_check manager opening.triad ∷ [])

-- What a connection needs of an opening.
pub record CanBeOpened (opening : Opening) : Type 0 where
  pub multiplier : opening.timeout_multiplier ≤ 7
  pub o_to_t_from : SMALLEST_O_TO_T_SIZE ≤ opening.o_to_t.size
  pub o_to_t_to : opening.o_to_t.size ≤ LARGEST_CONNECTION_SIZE
  pub t_to_o_from : SMALLEST_T_TO_O_SIZE ≤ opening.t_to_o.size
  pub t_to_o_to : opening.t_to_o.size ≤ LARGEST_CONNECTION_SIZE

-- The connection that an opening asks for, with this ID.
abbrev pub new_connection : ℕ → ℕ → Opener → Opening → Connection
new_connection id now opener opening =
    let timeout = timeout_of opening.o_to_t.rpi opening.timeout_multiplier in
    record {
      session = opener.session;
      group = opener.group;
      o_to_t_id = id;
      t_to_o_id = opening.t_to_o_id;
      triad = opening.triad;
      timeout = timeout;
      deadline = deadline_at_opening now timeout;
      target = target_at_opening opening.o_to_t.size opening.t_to_o.size;
    }

-- The connection is opened after the others, and uses the next ID.
abbrev pub with_opening : ManagerState → ℕ → Opener → Opening → ManagerState
with_opening manager now opener opening =
    record manager {
      next_id = manager.next_id + 1;
      connections = manager.connections ++ new_connection manager.next_id now opener opening ∷ [];
    }

-- The next ID is used, and the reply has it. One more connection, with this ID, is open after the others.
pub record OpensNext (old new : ManagerState) (reply : List ℕ) : Type 0 where
  pub places : new.places ≡ old.places
  pub share : new.share ≡ old.share
  pub device : new.device ≡ old.device
  pub drawn : new.next_id ≡ old.next_id + 1
  pub id_in_reply : o_to_t_id_in reply ≡ old.next_id
  pub connection : Connection
  pub id : connection.o_to_t_id ≡ old.next_id
  pub behind : new.connections ≡ old.connections ++ connection ∷ []

-- The reply to an opening that succeeds.
abbrev pub open_success : ManagerService → ℕ → Opening → List ℕ
open_success service id opening =
    reply_of_service service Success []
    (open_success_data id opening.t_to_o_id opening.triad opening.o_to_t.rpi opening.t_to_o.rpi)

-- After the checks.
abbrev pub decided_opening : ManagerService → ManagerState → ℕ → Opener → Opening
    → Result (Unit {0}) ExtendedStatus → Turn
decided_opening service manager now opener opening (Err extended) =
    turn manager (failure_reply service extended opening.triad)
decided_opening service manager now opener opening (Ok passed) =
    turn (with_opening manager now opener opening) (open_success service manager.next_id opening)

-- An opening, by either service. The first check that fails refuses it, and then nothing changes.
abbrev pub opening_turn : ManagerService → ManagerState → ℕ → Opener → Opening → Turn
opening_turn service manager now opener opening =
    decided_opening service manager now opener opening (opening_check manager opener.group opening)

-- For each layout: its service, how its bytes are read, and what they ask for.
abbrev pub service_in : Layout → ManagerService
service_in small = ForwardOpen
service_in large = LargeForwardOpen

abbrev pub open_in : Layout → List ℕ → Result Open LengthFault
open_in small content = open_of content
open_in large content = large_open_of content

abbrev pub opening_in : Layout → Open → Opening
opening_in small o = opening_of o
opening_in large o = large_opening_of o

-- The same, from the data of the request.
abbrev pub read_opening_turn : Layout → ManagerState → ℕ → Opener → Result Open LengthFault → Turn
read_opening_turn layout manager now opener (Err fault) = turn manager (length_reply (service_in layout) fault)
read_opening_turn layout manager now opener (Ok request) =
    opening_turn (service_in layout) manager now opener (opening_in layout request)

abbrev pub open_turn_in : Layout → ManagerState → ℕ → Opener → List ℕ → Turn
open_turn_in layout manager now opener content = read_opening_turn layout manager now opener (open_in layout content)

-- A session that opens for no group.
abbrev pub without_group : ℕ → Opener
without_group session = record { session = session; group = None }

-- Forward_Open of a session, for no group.
abbrev pub open_turn : ManagerState → ℕ → ℕ → List ℕ → Turn
open_turn manager now session content = open_turn_in small manager now (without_group session) content

-- Large_Forward_Open of a session, for no group.
abbrev pub open_large_turn : ManagerState → ℕ → ℕ → List ℕ → Turn
open_large_turn manager now session content = open_turn_in large manager now (without_group session) content
