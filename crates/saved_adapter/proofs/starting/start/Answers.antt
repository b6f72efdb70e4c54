use Rattle.std.proofs.Common.{[], sym, ◌∙◌}
use Rattle.saved_adapter.specs.Entries.{kept_in}
use Rattle.saved_adapter.specs.Starting.{IsFaultWith, IsRestoreFault, IsStartedFrom, IsStartedWith, IsStateFault}
use Rattle.saved_adapter.proofs.ReadLemmas.{if_ok, if_err, first_start, first_fault, last_is, state_start, state_fault}
use Rattle.saved_adapter.proofs.starting.start.Goals as goal

pub returns-then-is_empty-clause-started : goal.returns-then-is_empty-clause-started
returns-then-is_empty-clause-started c =
    if_ok (IsStartedWith c.args.configured.now []) (IsStartedFrom c.args.configured.now c.args.bytes.now)
    (λ a. first_start c.args.configured.now c.args.bytes.now a (sym c.is_empty.ensures ∙ c.if-is_empty.true))
    c.start_from.result c.start_from.ensures.started

pub returns-then-is_empty-clause-cause : goal.returns-then-is_empty-clause-cause
returns-then-is_empty-clause-cause c =
    if_err (IsFaultWith c.args.configured.now []) (IsRestoreFault c.args.configured.now c.args.bytes.now)
    (λ why. first_fault c.args.configured.now c.args.bytes.now why (sym c.is_empty.ensures ∙ c.if-is_empty.true))
    c.start_from.result c.start_from.ensures.cause

pub returns-in-Ok-clause-started : goal.returns-in-Ok-clause-started
returns-in-Ok-clause-started c =
    if_ok (IsStartedWith c.args.configured.now (kept_in c.in-Ok.state.entries))
    (IsStartedFrom c.args.configured.now c.args.bytes.now)
    (λ a. state_start c.args.configured.now c.args.bytes.now c.in-Ok.state a
    (last_is c.args.bytes.now c.read.result (sym c.is_empty.ensures ∙ c.if-is_empty.false) c.read.ensures.spelled
    c.read.ensures.refused ∙ c.in-Ok.is))
    c.start_from_state.result c.start_from_state.ensures.started

pub returns-in-Ok-clause-cause : goal.returns-in-Ok-clause-cause
returns-in-Ok-clause-cause c =
    if_err (IsStateFault c.args.configured.now c.in-Ok.state)
    (IsRestoreFault c.args.configured.now c.args.bytes.now)
    (λ why. state_fault c.args.configured.now c.args.bytes.now c.in-Ok.state why
    (last_is c.args.bytes.now c.read.result (sym c.is_empty.ensures ∙ c.if-is_empty.false) c.read.ensures.spelled
    c.read.ensures.refused ∙ c.in-Ok.is))
    c.start_from_state.result c.start_from_state.ensures.cause

pub returns-in-Err-clause-cause : goal.returns-in-Err-clause-cause
returns-in-Err-clause-cause c =
    last_is c.args.bytes.now c.read.result (sym c.is_empty.ensures ∙ c.if-is_empty.false) c.read.ensures.spelled
    c.read.ensures.refused
    ∙ c.in-Err.is
