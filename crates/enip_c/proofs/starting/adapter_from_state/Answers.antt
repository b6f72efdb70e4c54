use Rattle.std.proofs.Common.{ap, is_some, sym, ◌∙◌}
use Rattle.enip_config.specs.Commands.{queue_limit}
use Rattle.enip_c.proofs.QueuedLemmas.{none_if}
use Rattle.enip_c.proofs.starting.adapter_from_state.Goals as goal

pub returns-in-Ok-start-clause-made : goal.returns-in-Ok-start-clause-made
returns-in-Ok-start-clause-made c =
    let no_queue = none_if (queue_limit c.in-Ok.configuration) (ap is_some (sym c.queue_limit.ensures.value) ∙ sym c.is_some.ensures ∙ c.if-is_some.false) in (
      c.start_of-configured.result,
      (
        (c.in-Ok.configuration, (c.in-Ok.ensures.read, (no_queue, c.start_of-configured.ensures))),
        c.in-Ok-start.ensures.started,
      ),
    )

pub returns-in-Ok-clause-refused : goal.returns-in-Ok-clause-refused
returns-in-Ok-clause-refused c =
    let no_queue = none_if (queue_limit c.in-Ok.configuration) (ap is_some (sym c.queue_limit.ensures.value) ∙ sym c.is_some.ensures ∙ c.if-is_some.false) in (
      c.start_of-configured.result,
      (
        (c.in-Ok.configuration, (c.in-Ok.ensures.read, (no_queue, c.start_of-configured.ensures))),
        c.in-Err.ensures.cause,
      ),
    )

pub returns-then-is_some-clause-refused : goal.returns-then-is_some-clause-refused
returns-then-is_some-clause-refused c = (
  c.in-Ok.configuration,
  (c.in-Ok.ensures.read, ap is_some (sym c.queue_limit.ensures.value) ∙ sym c.is_some.ensures ∙ c.if-is_some.true),
)
