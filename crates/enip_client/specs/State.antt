-- The state of a client: the record `State` that `src/state.rt` declares.
use Rattle.std.specs.Prelude.{ℕ, Bool, true, false, None, is_none}
use Rattle.cip_class3.specs.OriginatorRule.{originator_at_opening}
use Rattle.enip_client.specs.declared.state.State.{State}
use Rattle.enip_client.specs.declared.state.Registration.{Registration}
use Rattle.enip_client.specs.declared.state.Registration.TheVariants.{NotRegistered, Registered, Unregistered}
use Rattle.enip_client.specs.declared.state.ConnectionState.{ConnectionState}
use Rattle.enip_client.specs.declared.state.ConnectionState.TheVariants.{NotOpened, Open, Closed}
use Rattle.enip_client.specs.declared.wants.Wants.{Wants}

-- A client that was just made: not registered, no connection, no reply awaited, no frame counted, no fault.
abbrev pub new_state : Wants → State
new_state wants = record {
  wants = wants;
  registration = NotRegistered;
  awaiting = None;
  connection_state = NotOpened;
  originator = originator_at_opening wants.first_count wants.o_to_t_size wants.t_to_o_size;
  frames = 0;
  fault = None;
}

abbrev pub is_not_registered : Registration → Bool
is_not_registered NotRegistered = true
is_not_registered (Registered session) = false
is_not_registered Unregistered = false

abbrev pub is_registered : Registration → Bool
is_registered NotRegistered = false
is_registered (Registered session) = true
is_registered Unregistered = false

-- The handle of the registered session; 0 if there is none.
abbrev pub session_in : Registration → ℕ
session_in NotRegistered = 0
session_in (Registered session) = session
session_in Unregistered = 0

abbrev pub is_not_opened : ConnectionState → Bool
is_not_opened NotOpened = true
is_not_opened (Open o_to_t_id) = false
is_not_opened Closed = false

abbrev pub is_open : ConnectionState → Bool
is_open NotOpened = false
is_open (Open o_to_t_id) = true
is_open Closed = false

-- The O->T ID of the connection; 0 if none is open.
abbrev pub o_to_t_id_in : ConnectionState → ℕ
o_to_t_id_in NotOpened = 0
o_to_t_id_in (Open o_to_t_id) = o_to_t_id
o_to_t_id_in Closed = 0

-- A connection that is open is over; otherwise nothing changes.
abbrev pub ended : ConnectionState → ConnectionState
ended NotOpened = NotOpened
ended (Open o_to_t_id) = Closed
ended Closed = Closed

-- No reply is awaited.
abbrev pub is_free : State → Bool
is_free s = is_none s.awaiting
