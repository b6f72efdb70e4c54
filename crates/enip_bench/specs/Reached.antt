-- The worlds that can be reached from an opening.
use Rattle.std.specs.Prelude.{◌≡◌, List, Ok}
use Rattle.cip_ledger.specs.Device.{Device}
use Rattle.enip_adapter.specs.Adapter.{new_adapter}
use Rattle.enip_adapter.specs.Calls.{AdapterState}
use Rattle.enip_adapter.specs.declared.adapter.Limits.{Limits}
use Rattle.enip_adapter.specs.declared.shared.Listen.{Listen}
use Rattle.enip_client.specs.Client.{ClientState, new_client}
use Rattle.enip_client.specs.declared.wants.Wants.{Wants}
use Rattle.enip_bench.specs.CountingOpening.{IsWanted, opening}
use Rattle.enip_bench.specs.CountingWorld.{CountingWorld, counting_run}
use Rattle.enip_bench.specs.Events.{Event}

-- a new adapter
pub record IsNewAdapter (adapter : AdapterState) : Type 0 where
  pub objects : Device
  pub listen : Listen
  pub limits : Limits
  pub is : adapter ≡ new_adapter objects listen limits

-- a new client
pub record IsNewClient (client : ClientState) : Type 0 where
  pub wants : Wants
  pub wanted : IsWanted wants
  pub is : client ≡ new_client wants

-- an opening without a refusal, and then these events, led to this world
pub record IsReached (world : CountingWorld) : Type 0 where
  pub objects : Device
  pub listen : Listen
  pub limits : Limits
  pub wants : Wants
  pub wanted : IsWanted wants
  pub begun : CountingWorld
  pub opened : opening objects listen limits wants ≡ Ok begun
  pub events : List Event
  pub come : world ≡ counting_run begun events
