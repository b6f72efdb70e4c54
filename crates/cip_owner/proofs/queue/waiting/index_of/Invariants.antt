use Rattle.cip_owner.specs.Queue.{command_ticket}
use Rattle.cip_owner.proofs.ListLemmas.{NoneBefore}
use Rattle.cip_owner.proofs.queue.waiting.index_of.Given as goal

abbrev pub invariant-loop-index : goal.invariant-loop-index
invariant-loop-index l = NoneBefore command_ticket l.ticket l.index l.commands
