use Rattle.std.proofs.Common.{◌≡◌, ◌||◌, get_or, ap, sym, ◌∙◌}
use Rattle.std.specs.Prelude.{slice_set}
use Rattle.cip_ledger.specs.Pending.{is_pending_at, completed_slot}
use Rattle.cip_ledger.proofs.CompletedSlots.{front-at, front-step, front-end, any-step, any-end}
use Rattle.cip_ledger.proofs.slots.complete_in.Goals as goal
use Rattle.cip_ledger.proofs.slots.complete_in.Goals.{then-any, else-any}

pub loop-index-preserved : goal.loop-index-preserved
loop-index-preserved c =
    let taken = c.args.taken.now in
    let ticket = c.args.ticket in
    let reply = c.args.reply.now in
    let index = c.loop-index.index in
    let read = c.index-taken-index.result in
    let was = c.loop-index.invariant in
    let old : get_or c.loop-index.taken index read ≡ get_or taken index read
    = ap (λ xs. get_or xs index read) was.taken ∙ front-at index ticket reply taken read c.loop-index-test.true in
    let pending = is_pending_at ticket (get_or taken index read) in
    record {
      taken = ap (λ s. slice_set c.loop-index.taken index s) (c.complete-was_pending.ensures.slot ∙ ap (completed_slot ticket reply) old)
          ∙ ap (λ xs. slice_set xs index (completed_slot ticket reply (get_or taken index read))) was.taken
          ∙ front-step index ticket reply taken read c.loop-index-test.true;
      any = elim c.if-any.branch [
        | then-any w ↦ w.any-is ∙ w.if-any.true ∙ sym (ap (λ any. any || pending) (sym was.any ∙ w.if-any.true))
            ∙ any-step index ticket taken read c.loop-index-test.true
        | else-any w ↦ w.any-is ∙ c.complete-was_pending.ensures.result ∙ ap (is_pending_at ticket) old
            ∙ sym (ap (λ any. any || pending) (sym was.any ∙ w.if-any.false))
            ∙ any-step index ticket taken read c.loop-index-test.true
      ];
    }

pub returns-clause-taken : goal.returns-clause-taken
returns-clause-taken c =
    c.loop-index.invariant.taken
    ∙ front-end c.loop-index.index c.args.ticket c.args.reply.now c.args.taken.now c.loop-index-test.false

pub returns-clause-result : goal.returns-clause-result
returns-clause-result c =
    c.loop-index.invariant.any ∙ any-end c.loop-index.index c.args.ticket c.args.taken.now c.loop-index-test.false
