use Rattle.std.proofs.Common.{◌∙◌, refl, ap, inl, inr, arith}
use Rattle.saved_state.proofs.EntryLemmas.{entries_fault_step, order_found}
use Rattle.saved_state.proofs.entry.entries_fault.Goals as goal
use Rattle.saved_state.proofs.entry.entries_fault.Goals.{then-entry-least-via-then-entry-least, then-entry-least-via-else-entry-least+then-entry-ge-KEY_END}

pub returns-then-entry-least : goal.returns-then-entry-least
returns-then-entry-least c =
    order_found c.args.count c.loop-index.index c.loop-index.least c.in-Some.entry.key c.loop-index.rest.now
    c.loop-index-test.true c.in-Some.ensures.0 (ap (λ e. e.key) c.in-Some.ensures.1)
    (elim c.then-entry-least.branch [
      | then-entry-least-via-then-entry-least w ↦ inl w.if-entry-least.true
      | then-entry-least-via-else-entry-least+then-entry-ge-KEY_END w ↦ inr w.if-entry-ge-KEY_END.true
    ])
    ∙ c.loop-index.invariant.left

pub loop-index-preserved : goal.loop-index-preserved
loop-index-preserved c =
    record {
      left = entries_fault_step c.args.count c.loop-index.index c.loop-index.least c.in-Some.entry.key _
          c.loop-index.rest.now c.in-Some.next.now c.loop-index-test.true c.in-Some.ensures.0
          (ap (λ e. e.key) c.in-Some.ensures.1) c.if-entry-least.false c.if-entry-ge-KEY_END.false refl
          c.in-Some.ensures.2
          ∙ c.loop-index.invariant.left;
      least = omega (arith, c.if-entry-ge-KEY_END.false);
    }
