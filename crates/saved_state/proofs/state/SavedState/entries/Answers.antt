use Rattle.std.proofs.Common.{length, ap, arith}
use Rattle.saved_state.proofs.state.SavedState.entries.Goals as goal

pub returns-clause-few : goal.returns-clause-few
returns-clause-few c =
    let same = ap (λ s. length s.entries) c.self.view_is in omega (arith, same, c.of.ensures.few)
