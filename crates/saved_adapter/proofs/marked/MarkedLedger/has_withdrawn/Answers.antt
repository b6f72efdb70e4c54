use Rattle.std.proofs.Common.{◌+◌, ◌≤◌, length, sym, ap, ◌∙◌, arith, subst}
use Rattle.cip_ledger.specs.Kept.{kept_in}
use Rattle.cip_ledger.specs.Ledger.{LedgerState, is_withdrawn}
use Rattle.device_state.proofs.WithdrawnSlots.{step, found, none_at, none_past}
use Rattle.saved_adapter.proofs.MarkLemmas.{few_slots}
use Rattle.saved_adapter.proofs.marked.MarkedLedger.has_withdrawn.Goals as goal

pub returns-in_default : goal.returns-in_default
returns-in_default c =
    none_at is_withdrawn c.args.self.now.taken c.loop-index.index c.in_default.ensures c.loop-index.invariant

pub returns-then-is_withdrawn : goal.returns-then-is_withdrawn
returns-then-is_withdrawn c =
    found is_withdrawn c.args.self.now.taken c.loop-index.index (kept_in c.in-Some.kept) c.in-Some.ensures
    (sym c.is_withdrawn.ensures ∙ c.if-is_withdrawn.true) c.loop-index.invariant

pub loop-index-preserved : goal.loop-index-preserved
loop-index-preserved c =
    step is_withdrawn c.args.self.now.taken c.loop-index.index (kept_in c.in-Some.kept) c.in-Some.ensures
    (sym c.is_withdrawn.ensures ∙ c.if-is_withdrawn.false) c.loop-index.invariant

pub returns : goal.returns
returns c =
    let few : length c.args.self.now.taken ≤ length c.self.inside.ledger.now.taken + 1
    = subst (λ (l : LedgerState). length l.taken ≤ length c.self.inside.ledger.now.taken + 1) c.self.view_is
    (few_slots c.self.inside.ledger.now c.self.inside.doubt) in
    none_past is_withdrawn c.args.self.now.taken c.loop-index.index
    (omega (arith, few, c.loop-index-test.false, c.slot_count-index-end.ensures.count)) c.loop-index.invariant
