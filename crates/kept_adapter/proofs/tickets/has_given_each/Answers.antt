use Rattle.std.proofs.Common.{sym, ap, ◌∙◌, arith}
use Rattle.std.specs.Prelude.{option_map}
use Rattle.cip_ledger.specs.Kept.{kept_in}
use Rattle.kept_adapter.specs.Started.{has_given}
use Rattle.kept_adapter.proofs.TicketSlots.{each_more, each_fails, each_end, each_past}
use Rattle.kept_adapter.proofs.tickets.has_given_each.Goals as goal

pub returns-in_default : goal.returns-in_default
returns-in_default c =
    each_end c.args.ledger.now.taken c.loop-index.index (option_map (λ q. q.now) c.args.queue) c.in_default.ensures.kept
    ∙ c.loop-index.invariant

pub returns-then-not-has_given : goal.returns-then-not-has_given
returns-then-not-has_given c =
    each_fails c.args.ledger.now.taken c.loop-index.index (kept_in c.in-Some.kept)
    (option_map (λ q. q.now) c.args.queue) c.in-Some.ensures.kept
    (sym (c.has_given.ensures ∙ ap (λ t. has_given t (option_map (λ q. q.now) c.args.queue)) c.pending_ticket.ensures)
    ∙ c.if-not-has_given.true)
    ∙ c.loop-index.invariant

pub loop-index-preserved : goal.loop-index-preserved
loop-index-preserved c =
    each_more c.args.ledger.now.taken c.loop-index.index (kept_in c.in-Some.kept)
    (option_map (λ q. q.now) c.args.queue) c.in-Some.ensures.kept
    (sym (c.has_given.ensures ∙ ap (λ t. has_given t (option_map (λ q. q.now) c.args.queue)) c.pending_ticket.ensures)
    ∙ c.if-not-has_given.false)
    ∙ c.loop-index.invariant

pub returns : goal.returns
returns c =
    each_past c.args.ledger.now.taken c.loop-index.index (option_map (λ q. q.now) c.args.queue)
    (omega (arith, c.loop-index-test.false, c.slot_count-index-end.ensures.count))
    ∙ c.loop-index.invariant
