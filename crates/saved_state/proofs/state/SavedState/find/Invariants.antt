use Rattle.std.proofs.Common.{◌≡◌}
use Rattle.saved_state.specs.States.{kept_under}
use Rattle.saved_state.proofs.state.SavedState.find.Given as goal

abbrev pub invariant-loop-entry : goal.invariant-loop-entry
invariant-loop-entry l = kept_under l.key l.entry-iterator ≡ kept_under l.key l.self.entries
