use Rattle.std.specs.Borrow.{Bor}
use Rattle.cip_owner.specs.Queue.{QueueState}
use Rattle.enip_keep.specs.Kept.{pairs_of}
use Rattle.kept_adapter.proofs.CompareLemmas.{all_of_queue}
use Rattle.kept_adapter.proofs.comparing.are_of_queue.Goals as goal

pub returns-in-Some : goal.returns-in-Some
returns-in-Some c =
    all_of_queue (λ (q : Bor QueueState). q.now) c.args.queue c.in-Some.queue c.are_all_of_queue.result
    (pairs_of c.args.entries.now) c.in-Some.is c.are_all_of_queue.ensures
