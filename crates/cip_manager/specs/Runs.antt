-- Lists of calls of the manager, with the router of its connections.
use Rattle.std.specs.Prelude.{◌≡◌, ◌≢◌, ℕ, ◌+◌, ◌<◌, ◌==◌, Bool, true, false, not, if◌then◌else◌, List, [], ◌∷◌, ◌++◌}
use Rattle.std.specs.Prelude.{filter, Result, Ok, Err, ⊤}
use Rattle.std.specs.List.{list_all, list_any}
use Rattle.cip_message.specs.declared.open.LengthFault.{LengthFault}
use Rattle.cip_message.specs.Close.{Close, close_of}
use Rattle.cip_message.specs.Open.{Layout}
use Rattle.cip_message.specs.Router.{general_status}
use Rattle.cip_manager.specs.declared.connection.Connection.{Connection}
use Rattle.cip_manager.specs.declared.connection.Opener.{Opener}
use Rattle.cip_manager.specs.Connection.{is_of_session, is_of_session_with, is_of_group, is_named, is_open_at}
use Rattle.cip_manager.specs.Manager.{ManagerState}
use Rattle.cip_manager.specs.Opening.{open_turn_in}
use Rattle.cip_manager.specs.Closing.{close_turn, triad_of, without_overdue, without_session}
use Rattle.cip_manager.specs.Items.{item_turn}
use Rattle.cip_manager.specs.Replies.{SUCCESS, o_to_t_id_in}

-- A call of the manager: `open_for` or `open_large_for`, by the layout, `close`, `connected`, `expire` or `end_session`.
-- `open` and `open_large` are those of an opener without a group.
pub data ManagerCall : Type 0 where
  Opens : (layout : Layout) (now : ℕ) (opener : Opener) (bytes : List ℕ) → ManagerCall
  Closes : (session : ℕ) (bytes : List ℕ) → ManagerCall
  Receives : (now session id : ℕ) (bytes : List ℕ) → ManagerCall
  Expires : (now : ℕ) → ManagerCall
  Ends : (session : ℕ) → ManagerCall

-- A manager, and the router of its connections.
pub record State (M : Type 0) : Type 0 where
  pub manager : ManagerState
  pub router : M

module _ {M : Type 0} (after : M → ℕ → List ℕ → M) (answer : M → ℕ → List ℕ → List ℕ) where
  -- The state after a call.
  abbrev pub state_after_call : State M → ManagerCall → State M
  state_after_call state (Opens layout now opener bytes) =
      record { manager = (open_turn_in layout state.manager now opener bytes).manager; router = state.router }
  state_after_call state (Closes session bytes) =
      record { manager = (close_turn state.manager session bytes).manager; router = state.router }
  state_after_call state (Receives now session id bytes) =
      let turn = item_turn after answer state.manager.connections now session id bytes state.router in
      record { manager = record state.manager { connections = turn.connections }; router = turn.router }
  state_after_call state (Expires now) = record { manager = without_overdue state.manager now; router = state.router }
  state_after_call state (Ends session) =
      record { manager = without_session state.manager session; router = state.router }

  -- The state after these calls, one after another.
  abbrev pub state_after : State M → List ManagerCall → State M
  state_after state [] = state
  state_after state (call ∷ calls) = state_after (state_after_call state call) calls

  -- The IDs in the replies to openings, in their order.
  abbrev pub ids_of_call : State M → ManagerCall → List ℕ
  ids_of_call state (Opens layout now opener bytes) =
      let reply = (open_turn_in layout state.manager now opener bytes).reply in
      (if general_status reply == SUCCESS then o_to_t_id_in reply ∷ [] else [])
  ids_of_call state (Closes session bytes) = []
  ids_of_call state (Receives now session id bytes) = []
  ids_of_call state (Expires now) = []
  ids_of_call state (Ends session) = []

  abbrev pub ids_drawn : State M → List ManagerCall → List ℕ
  ids_drawn state [] = []
  ids_drawn state (call ∷ calls) = ids_of_call state call ++ ids_drawn (state_after_call state call) calls

-- n, n + 1, n + 2 and so on.
abbrev pub CountsFrom : ℕ → List ℕ → Type 0
CountsFrom n [] = ⊤
CountsFrom n (id ∷ ids) = (id ≡ n) × CountsFrom (n + 1) ids

-- The call comes from another session, or from none.
abbrev pub IsOfOther : ℕ → ManagerCall → Type 0
IsOfOther session (Opens layout now opener bytes) = opener.session ≢ session
IsOfOther session (Closes other bytes) = other ≢ session
IsOfOther session (Receives now other id bytes) = other ≢ session
IsOfOther session (Expires now) = ⊤
IsOfOther session (Ends other) = other ≢ session

-- The connections of a session.
abbrev pub of_session : ℕ → List Connection → List Connection
of_session session connections = filter (is_of_session session) connections

-- The connection is still open after the timeouts of a call.
abbrev pub is_open_after : Connection → ManagerCall → Bool
is_open_after connection (Opens layout now opener bytes) = true
is_open_after connection (Closes session bytes) = true
is_open_after connection (Receives now session id bytes) = true
is_open_after connection (Expires now) = is_open_at now connection
is_open_after connection (Ends session) = true

abbrev pub is_open_after_all : List ManagerCall → Connection → Bool
is_open_after_all calls connection = list_all (is_open_after connection) calls

-- A Forward_Close of this session with these data closes the connection.
abbrev pub is_closed_by : ℕ → Result Close LengthFault → Connection → Bool
is_closed_by session (Ok request) connection = is_of_session_with session (triad_of request) connection
is_closed_by session (Err fault) connection = false

-- The call is for another session or another connection of it, and does not time the connection out.
abbrev pub is_spared : Connection → ManagerCall → Bool
is_spared connection (Opens layout now opener bytes) = true
is_spared connection (Closes session bytes) = not (is_closed_by session (close_of bytes) connection)
is_spared connection (Receives now session id bytes) = not (is_named session id connection)
is_spared connection (Expires now) = is_open_at now connection
is_spared connection (Ends session) = not (is_of_session session connection)

-- A connection and a later one: the later one has a greater ID, and another triad.
pub record AreApart (earlier later : Connection) : Type 0 where
  pub ids : earlier.o_to_t_id < later.o_to_t_id
  pub triads : earlier.triad ≢ later.triad

-- The connection counts for one of these groups.
abbrev pub is_of_one_of : List ℕ → Connection → Bool
is_of_one_of groups connection = list_any (λ group. is_of_group group connection) groups
