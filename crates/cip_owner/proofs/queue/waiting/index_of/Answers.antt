use Rattle.std.proofs.Common.{refl, rules}
use Rattle.cip_owner.specs.Queue.{command_ticket}
use Rattle.cip_owner.proofs.ListLemmas.{found_at, missing_in}
use Rattle.cip_owner.proofs.queue.waiting.index_of.Goals as goal

pub returns-then-ticket-clause-found : goal.returns-then-ticket-clause-found
returns-then-ticket-clause-found c =
    found_at command_ticket _ _ _ _ c.index-commands-index.result refl c.loop-index-test.true c.loop-index.invariant c.index-commands-index.is (search rules)

pub returns-clause-missing : goal.returns-clause-missing
returns-clause-missing c =
    missing_in command_ticket _ _ _ _ refl c.loop-index-test.false c.loop-index.invariant
