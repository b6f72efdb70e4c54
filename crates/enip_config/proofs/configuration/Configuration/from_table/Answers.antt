use Rattle.std.proofs.Common.{subst}
use Rattle.toml.specs.View.{table_view}
use Rattle.cip_application.specs.declared.message_router.MessageRouter.{MessageRouter}
use Rattle.enip_config.specs.RouterObject.{HasAllObjects}
use Rattle.enip_config.proofs.NumberLemmas.{each_key}
use Rattle.enip_config.proofs.configuration.Configuration.from_table.Goals as goal

pub returns-clause-read : goal.returns-clause-read
returns-clause-read c = record {
  numbers = each_key _ c.in_ok-identity.ensures.read.vendor c.in_ok-identity.ensures.read.device_type c.in_ok-identity.ensures.read.product_code c.in_ok-identity.ensures.read.major c.in_ok-identity.ensures.read.minor c.in_ok-identity.ensures.read.serial c.in_ok-identity.ensures.read.status c.in_ok-identity.ensures.read.state c.in_ok-limits.ensures.read.port c.in_ok-limits.ensures.read.peers c.in_ok-limits.ensures.read.connections c.in_ok-limits.ensures.read.first_handle c.in_ok-limits.ensures.read.first_id c.in_ok-counter.ensures.read.value c.in_ok-counter.ensures.read.limit;
  name = c.in_ok-name.ensures.read;
  address = c.in_ok-address.ensures.read;
  assemblies = c.in_ok-assemblies.ensures.read;
  ledger = c.in_ok-ledger.ensures.read;
  queue = c.in_ok-queue.ensures.read;
  ahead = c.in_ok-ahead.ensures.read;
  enabled = c.in_ok-counter.ensures.read.enabled;
  reset = c.in_ok-reset.ensures.read;
  objects = subst (λ (router : MessageRouter). HasAllObjects (table_view c.args.text.now) router c.in_ok-objects.objects.items) c.router_of-router.ensures c.in_ok-objects.ensures.read;
  shares = c.in_ok-access.ensures.read;
  interfaces = c.in_ok-interfaces.ensures.read;
  types = c.in_ok-attribute_types.ensures;
}
