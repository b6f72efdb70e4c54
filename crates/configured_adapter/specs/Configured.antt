-- The adapter of a configuration.
use Rattle.std.specs.Prelude.{◌≡◌, ◌≤◌, ℕ, List, Option, None, Some, option_map, if◌then◌else◌}
use Rattle.cip_ledger.specs.Device.{Device, queued_device, with_reset}
use Rattle.cip_ledger.specs.Ledger.{LedgerState, empty_ledger}
use Rattle.cip_objects.specs.Configuration.{contents_of_config}
use Rattle.cip_owner.specs.Queue.{QueueState, empty_queue}
use Rattle.cip_owner.specs.Reset.{ResetState, resettable}
use Rattle.enip_adapter.specs.declared.adapter.Limits.{Limits}
use Rattle.enip_adapter.specs.declared.shared.Listen.{Listen}
use Rattle.enip_adapter.specs.Adapter.{new_adapter, shared_adapter}
use Rattle.enip_adapter.specs.Groups.{no_shares}
use Rattle.enip_adapter.specs.declared.adapter.Shares.{Shares}
use Rattle.enip_adapter.specs.Calls.{AdapterState}
use Rattle.enip_access.specs.Access.{share_or}
use Rattle.enip_access.specs.declared.access.Access.{Access}
use Rattle.enip_config.specs.declared.configuration.Configuration.{Configuration}
use Rattle.enip_config.specs.declared.ledger.LedgerConfig.{LedgerConfig}
use Rattle.enip_config.specs.Commands.{queue_limit}
use Rattle.enip_config.specs.Documents.{IsDescribed}

-- the address and port that ListIdentity reports
abbrev pub listen_of : Configuration → Listen
listen_of c = record { address = c.address; port = c.port }

-- how many peers and connections the adapter serves, and its first handle and ID
abbrev pub limits_of : Configuration → Limits
limits_of c = record {
  peers = c.peers;
  connections = c.connections;
  first_handle = c.first_handle;
  first_id = c.first_id;
}

-- so many peers and connections an adapter can have, and numbers begin at 1
pub record AreLimits (l : Limits) : Type 0 where
  pub peers_from : 1 ≤ l.peers
  pub peers_to : l.peers ≤ 16
  pub connections_from : 1 ≤ l.connections
  pub connections_to : l.connections ≤ 64
  pub handle : 1 ≤ l.first_handle
  pub id : 1 ≤ l.first_id

-- how much one address may hold: without the table `access`, as much as there is
abbrev pub shares_from : Option Access → Shares
shares_from None = no_shares
shares_from (Some access) =
    record { peers = share_or 16 access.per_address; connections = share_or 64 access.connections_per_address }

-- an empty ledger, if the configuration has one
abbrev pub ledger_from : Option LedgerConfig → Option LedgerState
ledger_from ledger = option_map (λ l. empty_ledger l.originators l.life) ledger

-- an empty queue, if a service is queued
abbrev pub queue_from : Option ℕ → Option QueueState
queue_from limit = option_map empty_queue limit

-- what the device needs to be reset, if clients can do so
abbrev pub reset_from : Configuration → Option ResetState
reset_from c = if c.reset then Some (resettable c.objects) else None

-- the device, with this ledger
abbrev pub device_from : Option LedgerConfig → Configuration → Device
device_from ledger c =
    with_reset (reset_from c)
    (queued_device (ledger_from ledger) (contents_of_config c.objects) (queue_from (queue_limit c)))

-- a new adapter, as a text describes it
abbrev pub IsAdapterOf : List ℕ → AdapterState → Type 0
IsAdapterOf text adapter =
    (c : Configuration) × (IsDescribed text c
    × (adapter ≡ shared_adapter (device_from c.ledger c) (listen_of c) (limits_of c) (shares_from c.access)))

-- the same, without the shares of the table `access`
abbrev pub IsUnsharedAdapterOf : List ℕ → AdapterState → Type 0
IsUnsharedAdapterOf text adapter =
    (c : Configuration) × (IsDescribed text c
    × (adapter ≡ new_adapter (device_from c.ledger c) (listen_of c) (limits_of c)))

-- the text is a configuration that the objects accept
abbrev pub IsAccepted : List ℕ → Type 0
IsAccepted text = (described : Configuration) × IsDescribed text described
