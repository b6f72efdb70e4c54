use Rattle.std.proofs.Common.{sym, ◌∙◌, arith}
use Rattle.cip_ledger.specs.Kept.{kept_in}
use Rattle.cip_ledger.specs.Ledger.{is_withdrawn}
use Rattle.device_state.proofs.WithdrawnSlots.{step, found, none_at, none_past}
use Rattle.device_state.proofs.ledger.has_withdrawn.Goals as goal

pub returns-in_default : goal.returns-in_default
returns-in_default c =
    none_at is_withdrawn c.args.ledger.now.taken c.loop-index.index c.in_default.ensures.kept c.loop-index.invariant

pub returns-then-is_withdrawn : goal.returns-then-is_withdrawn
returns-then-is_withdrawn c =
    found is_withdrawn c.args.ledger.now.taken c.loop-index.index (kept_in c.in-Some.kept) c.in-Some.ensures.kept
    (sym c.is_withdrawn.ensures ∙ c.if-is_withdrawn.true) c.loop-index.invariant

pub loop-index-preserved : goal.loop-index-preserved
loop-index-preserved c =
    step is_withdrawn c.args.ledger.now.taken c.loop-index.index (kept_in c.in-Some.kept) c.in-Some.ensures.kept
    (sym c.is_withdrawn.ensures ∙ c.if-is_withdrawn.false) c.loop-index.invariant

pub returns : goal.returns
returns c =
    none_past is_withdrawn c.args.ledger.now.taken c.loop-index.index
    (omega (arith, c.loop-index-test.false, c.slot_count-index-end.ensures.count)) c.loop-index.invariant
