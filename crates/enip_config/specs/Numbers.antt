-- The numbers of a configuration, in the parts in which they are read.
use Rattle.std.specs.Prelude.{◌≡◌, Some}
use Rattle.toml.specs.Data.{Members}
use Rattle.cip_objects.specs.declared.config.CounterConfig.{CounterConfig}
use Rattle.enip_config.specs.declared.configuration.Identity.{Identity}
use Rattle.enip_config.specs.declared.configuration.Limits.{Limits}
use Rattle.enip_config.specs.declared.key.NumberKey.TheVariants as keys
use Rattle.enip_config.specs.Keys.{number_of, counter_enabled}

-- the numbers of the Identity object
pub record HasIdentity (described : Members) (i : Identity) : Type 0 where
  pub vendor : number_of keys.Vendor described ≡ Some i.vendor
  pub device_type : number_of keys.DeviceType described ≡ Some i.device_type
  pub product_code : number_of keys.ProductCode described ≡ Some i.product_code
  pub major : number_of keys.Major described ≡ Some i.major
  pub minor : number_of keys.Minor described ≡ Some i.minor
  pub serial : number_of keys.Serial described ≡ Some i.serial
  pub status : number_of keys.Status described ≡ Some i.status
  pub state : number_of keys.State described ≡ Some i.state

-- the counter
pub record HasCounter (described : Members) (c : CounterConfig) : Type 0 where
  pub enabled : counter_enabled described ≡ Some c.enabled
  pub value : number_of keys.CounterValue described ≡ Some c.value
  pub limit : number_of keys.CounterLimit described ≡ Some c.limit

-- the port and the limits
pub record HasLimits (described : Members) (l : Limits) : Type 0 where
  pub port : number_of keys.Port described ≡ Some l.port
  pub peers : number_of keys.Peers described ≡ Some l.peers
  pub connections : number_of keys.Connections described ≡ Some l.connections
  pub first_handle : number_of keys.FirstHandle described ≡ Some l.first_handle
  pub first_id : number_of keys.FirstId described ≡ Some l.first_id
