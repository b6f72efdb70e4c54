-- The state of the Connection Manager (Volume 1, Connection Manager).
use Rattle.std.specs.Prelude.{ℕ, List, []}
use Rattle.cip_message.specs.declared.key.Device.{Device}
use Rattle.cip_manager.specs.declared.connection.Connection.{Connection}

-- How many connections can be open, how many of them one group may have, the ID of the next one, the device that keys
-- are compared with, and the open connections in the order of opening.
pub record ManagerState : Type 0 where
  pub places : ℕ
  pub share : ℕ
  pub next_id : ℕ
  pub device : Device
  pub connections : List Connection

abbrev pub no_connection_with_share : ℕ → ℕ → ℕ → Device → ManagerState
no_connection_with_share places share first_id device = record {
  places = places;
  share = share;
  next_id = first_id;
  device = device;
  connections = [];
}

-- Each group may have them all.
abbrev pub no_connection : ℕ → ℕ → Device → ManagerState
no_connection places first_id device = no_connection_with_share places places first_id device

-- The manager after a request, and the whole reply to it.
pub record Turn : Type 0 where
  pub manager : ManagerState
  pub reply : List ℕ

abbrev pub turn : ManagerState → List ℕ → Turn
turn manager reply = record { manager = manager; reply = reply }
