use Rattle.std.proofs.Common.{refl, sym, subst, ◌<◌, ◌≤◌, ◌∙◌}
use Rattle.cip_owner.specs.Queue.{result_ticket}
use Rattle.cip_owner.proofs.ListLemmas.{found_at, missing_in}
use Rattle.cip_owner.proofs.queue.results.index_of.Goals as goal

pub returns-then-ticket-clause-found : goal.returns-then-ticket-clause-found
returns-then-ticket-clause-found c =
    found_at result_ticket _ _ _ _ c.index.result.now refl
    (subst (λ n. c.loop-index.index < n) (c.len-index-end.ensures ∙ c.args.results.now.ok.0) c.loop-index-test.true)
    c.loop-index.invariant c.index.ensures (sym c.ticket.ensures ∙ c.if-ticket.true)

pub returns-clause-missing : goal.returns-clause-missing
returns-clause-missing c =
    missing_in result_ticket _ _ _ _ refl
    (subst (λ n. n ≤ c.loop-index.index) (c.len-index-end.ensures ∙ c.args.results.now.ok.0) c.loop-index-test.false)
    c.loop-index.invariant
