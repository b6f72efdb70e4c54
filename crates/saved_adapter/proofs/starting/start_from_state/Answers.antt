use Rattle.std.proofs.Common.{ap, subst, ◌∙◌}
use Rattle.enip_keep.specs.Kept.{pairs_of}
use Rattle.saved_adapter.specs.Entries.{kept_in}
use Rattle.saved_adapter.specs.Starting.{IsFaultWith, IsStartedWith, IsStateFault}
use Rattle.saved_adapter.proofs.ReadLemmas.{if_ok, if_err, with_entries}
use Rattle.saved_adapter.proofs.starting.start_from_state.Goals as goal

pub returns-in-Ok-clause-started : goal.returns-in-Ok-clause-started
returns-in-Ok-clause-started c =
    if_ok (IsStartedWith c.args.configured.now (pairs_of c.deref.result.now))
    (IsStartedWith c.args.configured.now (kept_in c.args.state.now.entries))
    (λ a. subst (λ k. IsStartedWith c.args.configured.now k a) (ap pairs_of c.deref.ensures.value ∙ c.in-Ok.ensures))
    c.start_from.result c.start_from.ensures.started

pub returns-in-Ok-clause-cause : goal.returns-in-Ok-clause-cause
returns-in-Ok-clause-cause c =
    if_err (IsFaultWith c.args.configured.now (pairs_of c.deref.result.now))
    (IsStateFault c.args.configured.now c.args.state.now)
    (λ why. with_entries c.args.configured.now c.args.state.now (pairs_of c.deref.result.now) why
    (ap pairs_of c.deref.ensures.value ∙ c.in-Ok.ensures))
    c.start_from.result c.start_from.ensures.cause
