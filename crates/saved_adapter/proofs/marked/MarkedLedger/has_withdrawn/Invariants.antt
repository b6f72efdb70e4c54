use Rattle.cip_ledger.specs.Ledger.{is_withdrawn}
use Rattle.device_state.proofs.WithdrawnSlots.{AsFrom}
use Rattle.saved_adapter.proofs.marked.MarkedLedger.has_withdrawn.Given as goal

abbrev pub invariant-loop-index : goal.invariant-loop-index
invariant-loop-index l = AsFrom is_withdrawn l.index l.self.taken
