use Rattle.std.proofs.Common.{is_some, subst, sym, ◌∙◌}
use Rattle.configured_adapter.specs.Configured.{IsAdapterOf}
use Rattle.enip_c.specs.AdapterCalls.{has_no_queue}
use Rattle.enip_c.proofs.QueuedLemmas.{make_fails, none_if, queued_text, same_some}
use Rattle.enip_c.proofs.adapter.boxed_adapter.Goals as goal

pub returns-in_err-adapter-clause-refused : goal.returns-in_err-adapter-clause-refused
returns-in_err-adapter-clause-refused c =
    make_fails c.args.text.now c.in_err-adapter.field-0.0 c.from_residual.result c.from_residual.ensures
    c.in_err-adapter.ensures.refused

pub returns-then-is_some-clause-refused : goal.returns-then-is_some-clause-refused
returns-then-is_some-clause-refused c =
    queued_text c.args.text.now c.in_ok-adapter.adapter c.in_ok-adapter.ensures.made
    (same_some (λ queue. queue.now) c.queue.result c.in_ok-adapter.adapter.state.shared.objects.router.queue c.queue.ensures
    ∙ sym c.is_some.ensures ∙ c.if-is_some.true)

pub returns-clause-made : goal.returns-clause-made
returns-clause-made c = subst (IsAdapterOf c.args.text.now) (sym c.in_ok-boxed.ensures.ok) c.in_ok-adapter.ensures.made

pub returns-clause-no_queue : goal.returns-clause-no_queue
returns-clause-no_queue c =
    subst has_no_queue (sym c.in_ok-boxed.ensures.ok)
    (none_if c.in_ok-adapter.adapter.state.shared.objects.router.queue
    (same_some (λ queue. queue.now) c.queue.result c.in_ok-adapter.adapter.state.shared.objects.router.queue c.queue.ensures
    ∙ sym c.is_some.ensures ∙ c.if-is_some.false))
