use Rattle.std.proofs.Common.{ap₂, ◌∙◌}
use Rattle.enip_adapter.specs.Adapter.{shared_adapter}
use Rattle.enip_config.specs.declared.configuration.Configuration.{Configuration}
use Rattle.cip_ledger.specs.Device.{queued_device, with_reset}
use Rattle.configured_adapter.specs.Configured.{ledger_from, queue_from, listen_of, limits_of, reset_from}
use Rattle.enip_config.specs.Commands.{queue_limit}
use Rattle.configured_adapter.proofs.ObjectLemmas.{objects_fail, limits_by}
use Rattle.configured_adapter.proofs.adapter.adapter_from.Goals as goal

pub returns-clause-accepted : goal.returns-clause-accepted
returns-clause-accepted c = (c.in_ok-configuration.configuration, c.in_ok-configuration.ensures.read)

pub returns-in_err-objects-clause-refused : goal.returns-in_err-objects-clause-refused
returns-in_err-objects-clause-refused c =
    objects_fail c.args.config.now c.in_ok-configuration.configuration c.objects_of.result c.in_err-objects.field-0.0 c.from_residual-in_err-objects.result
    c.in_ok-configuration.ensures.read c.objects_of.ensures.allowed c.in_err-objects.was c.from_residual-in_err-objects.ensures

pub returns-clause-made : goal.returns-clause-made
returns-clause-made c =
    let c0 : Configuration = c.in_ok-configuration.configuration in (
      c0,
      (
        c.in_ok-configuration.ensures.read,
        c.in_ok-adapter.ensures ∙ ap₂ (λ objects shares. shared_adapter (with_reset (reset_from c0) (queued_device (ledger_from c0.ledger) objects (queue_from (queue_limit c0)))) (listen_of c0) (limits_of c0) shares) c.in_ok-objects.ensures.made c.shares_from-shares.ensures.value,
      ),
    )

pub adapter_of-requires-clause-limits : goal.adapter_of-requires-clause-limits
adapter_of-requires-clause-limits c = limits_by c.in_ok-configuration.configuration c.in_ok-configuration.ensures.in_range
