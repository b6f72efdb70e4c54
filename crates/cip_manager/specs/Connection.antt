-- One open connection (Volume 1, Connection Manager), and when connections end.
--
-- `Connection` is the record that `src/connection.rt` declares: the session that opened it, the group whose share it
-- uses, the ID of each direction, the triad of connection serial, originator vendor and originator serial, its timeout,
-- its deadline, and the target's end, with both sizes and the count and reply that are held.
use Rattle.std.specs.Prelude.{ℕ, ◌+◌, ◌-◌, ◌*◌, ◌^◌, min, max, nat_lt, Bool, true, false, ◌&&◌, ◌==◌, if◌then◌else◌}
use Rattle.std.specs.Prelude.{List, [], ◌∷◌, filter, length, Option, Some, None, unwrap_or}
use Rattle.cip_class3.specs.declared.target.Received.{Received}
use Rattle.cip_class3.specs.declared.target.Received.TheVariants.{Dropped, Repeated, Executed}
use Rattle.cip_class3.specs.TargetRule.{TargetState}
use Rattle.cip_manager.specs.declared.connection.Triad.{Triad}
use Rattle.cip_manager.specs.declared.connection.Connection.{Connection}

-- The timeout: O->T RPI x 4 x 2^multiplier, in microseconds.
abbrev pub timeout_of : ℕ → ℕ → ℕ
timeout_of o_to_t_rpi timeout_multiplier = o_to_t_rpi * 4 * 2 ^ timeout_multiplier

-- The moment `time` after `now`. A later moment than the greatest becomes the greatest.
abbrev pub moment_after : ℕ → ℕ → ℕ
moment_after now time = min (now + time) (2 ^ 64 - 1)

-- The rule of deadlines: a connection ends one timeout after its last item, and at least ten seconds after its
-- opening.
abbrev pub deadline_at_opening : ℕ → ℕ → ℕ
deadline_at_opening now timeout = moment_after now (max timeout 10000000)

abbrev pub deadline_at_item : ℕ → ℕ → ℕ
deadline_at_item now timeout = moment_after now timeout

-- The connection is open at this moment: its deadline is later.
abbrev pub is_open_at : ℕ → Connection → Bool
is_open_at now connection = nat_lt now connection.deadline

-- The earliest deadline, or None if no connection is open.
abbrev pub earliest_deadline : List Connection → Option ℕ
earliest_deadline [] = None
earliest_deadline (connection ∷ others) =
    Some (min connection.deadline (unwrap_or (earliest_deadline others) connection.deadline))

-- The two triads are the same.
abbrev pub is_same_triad : Triad → Triad → Bool
is_same_triad a b =
    (a.connection_serial == b.connection_serial) && (a.originator_vendor == b.originator_vendor)
    && (a.originator_serial == b.originator_serial)

abbrev pub has_triad : Triad → Connection → Bool
has_triad triad connection = is_same_triad connection.triad triad

abbrev pub is_of_session : ℕ → Connection → Bool
is_of_session session connection = connection.session == session

-- An optional group is this one.
abbrev pub is_group : ℕ → Option ℕ → Bool
is_group group None = false
is_group group (Some other) = other == group

abbrev pub is_of_group : ℕ → Connection → Bool
is_of_group group connection = is_group group connection.group

-- How many of these connections a group has.
abbrev pub count_of_group : ℕ → List Connection → ℕ
count_of_group group connections = length (filter (is_of_group group) connections)

abbrev pub has_id : ℕ → Connection → Bool
has_id id connection = connection.o_to_t_id == id

-- The session's connection with this O->T ID.
abbrev pub is_named : ℕ → ℕ → Connection → Bool
is_named session id connection = is_of_session session connection && (connection.o_to_t_id == id)

-- The session's connection with this triad.
abbrev pub is_of_session_with : ℕ → Triad → Connection → Bool
is_of_session_with session triad connection = is_of_session session connection && has_triad triad connection

-- An item that is dropped is not answered.
abbrev pub is_answered : Received → Bool
is_answered Dropped = false
is_answered Repeated = true
is_answered Executed = true

-- A connection after an item, given what its target did and the target afterwards. An answered item moves the
-- deadline.
abbrev pub until_after_item : ℕ → Received → TargetState → Connection → Connection
until_after_item deadline received target connection =
    record connection {
      deadline = (if is_answered received then deadline else connection.deadline);
      target = target;
    }

abbrev pub after_item : ℕ → Received → TargetState → Connection → Connection
after_item now received target connection =
    until_after_item (deadline_at_item now connection.timeout) received target connection
