-- What a device starts from, by its configuration.
use Rattle.std.specs.Prelude.{ℕ, ◌≡◌, option_map}
use Rattle.std.specs.List.Sorted.{IsPermutation}
use Rattle.cip_objects.specs.declared.config.Config.{Config}
use Rattle.configured_adapter.specs.Configured.{limits_of, listen_of, shares_from}
use Rattle.enip_config.specs.Commands.{queue_limit}
use Rattle.enip_config.specs.declared.configuration.Configuration.{Configuration}
use Rattle.enip_config.specs.declared.ledger.LedgerConfig.{LedgerConfig}
use Rattle.kept_adapter.specs.declared.adapter_start.AdapterStart.{AdapterStart}
use Rattle.kept_adapter.specs.declared.adapter_start.LedgerStart.{LedgerStart}

-- The same objects, whose assemblies and own objects may be in another order.
pub record IsReordered (old new : Config) : Type 0 where
  pub assemblies : IsPermutation old.assemblies.items new.assemblies.items
  pub objects : IsPermutation old.objects.items new.objects.items
  pub same : new ≡ record old { assemblies = new.assemblies; objects = new.objects }

-- The ledger of a configuration, in a life that begins now.
abbrev pub ledger_start : ℕ → LedgerConfig → LedgerStart
ledger_start life ledger = record { originators = ledger.originators; life = life }

-- All but the objects is as the configuration says.
pub record IsStartOf (c : Configuration) (start : AdapterStart) : Type 0 where
  pub life : ℕ
  pub ledger : start.ledger ≡ option_map (ledger_start life) c.ledger
  pub queue : start.queue ≡ queue_limit c
  pub reset : start.reset ≡ c.reset
  pub listen : start.listen ≡ listen_of c
  pub limits : start.limits ≡ limits_of c
  pub shares : start.shares ≡ shares_from c.access
