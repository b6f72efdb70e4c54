use Rattle.cip_owner.specs.Queue.{result_ticket}
use Rattle.cip_owner.proofs.ListLemmas.{NoneBefore}
use Rattle.cip_owner.proofs.queue.results.index_of.Given as goal

abbrev pub invariant-loop-index : goal.invariant-loop-index
invariant-loop-index l = NoneBefore result_ticket l.ticket l.index l.results.items
