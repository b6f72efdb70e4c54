use Rattle.std.proofs.Common.{arith}
use Rattle.saved_state.proofs.SpelledLemmas.{read_iff, refused_iff}
use Rattle.saved_state.proofs.state.SavedState.read.Goals as goal

pub returns-clause-spelled : goal.returns-clause-spelled
returns-clause-spelled c s =
    read_iff c.args.bytes.now c.read_state.result s (λ i. omega (arith, c.type_inv.bytes i)) c.read_state.ensures

pub returns-clause-refused : goal.returns-clause-refused
returns-clause-refused c fault = refused_iff c.args.bytes.now c.read_state.result fault c.read_state.ensures
