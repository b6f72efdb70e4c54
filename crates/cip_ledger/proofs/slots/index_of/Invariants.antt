use Rattle.cip_ledger.proofs.SlotLemmas.{NoneBefore}
use Rattle.cip_ledger.proofs.slots.index_of.Given as goal

abbrev pub invariant-loop-index : goal.invariant-loop-index
invariant-loop-index l = NoneBefore l.originator l.index l.taken
