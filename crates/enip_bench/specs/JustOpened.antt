-- Both ends right after an opening.
use Rattle.std.specs.Prelude.{◌≡◌, true, [], ◌∷◌, Ok}
use Rattle.cip_class3.specs.OriginatorRule.{originator_at_opening}
use Rattle.cip_class3.specs.TargetRule.{target_at_opening}
use Rattle.cip_manager.specs.Runs.{of_session}
use Rattle.cip_manager.specs.declared.connection.Connection.{Connection}
use Rattle.enip_adapter.specs.Calls.{AdapterState}
use Rattle.enip_client.specs.Client.{ClientState}
use Rattle.enip_client.specs.State.{is_registered, session_in, is_open, o_to_t_id_in}
use Rattle.enip_client.specs.declared.wants.Wants.{Wants}
use Rattle.enip_bench.specs.CountingOpening.{opening_between}
use Rattle.enip_bench.specs.CountingWorld.{CountingWorld}
use Rattle.enip_bench.specs.Reached.{IsNewAdapter, IsNewClient}

-- at the adapter, the client's session has one connection, with the client's IDs and sizes, and nothing is held
pub record IsOpenAtAdapter (wants : Wants) (world : CountingWorld) : Type 0 where
  pub connection : Connection
  pub alone : of_session world.peer world.adapter.state.shared.manager.connections ≡ connection ∷ []
  pub o_to_t_id : connection.o_to_t_id ≡ o_to_t_id_in world.client.state.connection_state
  pub t_to_o_id : connection.t_to_o_id ≡ wants.t_to_o_id
  pub target : connection.target ≡ target_at_opening wants.o_to_t_size wants.t_to_o_size

-- the client is registered and its connection open; no request was submitted, and the next count is the first one
pub record IsOpenAtClient (wants : Wants) (world : CountingWorld) : Type 0 where
  pub registered : is_registered world.client.state.registration ≡ true
  pub session : session_in world.client.state.registration ≡ world.peer
  pub is_opened : is_open world.client.state.connection_state ≡ true
  pub originator : world.client.state.originator
      ≡ originator_at_opening wants.first_count wants.o_to_t_size wants.t_to_o_size

-- the connection is open at both ends, the objects are unchanged, and nothing was sent, sent back or accepted
pub record IsJustOpened (adapter : AdapterState) (client : ClientState) (world : CountingWorld) : Type 0 where
  pub at_adapter : IsOpenAtAdapter client.state.wants world
  pub at_client : IsOpenAtClient client.state.wants world
  pub objects : world.adapter.state.shared.objects ≡ adapter.state.shared.objects
  pub sent : world.sent ≡ []
  pub back : world.back ≡ []
  pub accepted : world.accepted ≡ []

-- This holds after every opening of a new adapter and a new client without a refusal.
abbrev pub opening_law : Type 0
opening_law = (adapter : AdapterState) (client : ClientState) (world : CountingWorld) → IsNewAdapter adapter →
    IsNewClient client → opening_between adapter client ≡ Ok world → IsJustOpened adapter client world
