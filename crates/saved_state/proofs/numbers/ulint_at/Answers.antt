use Rattle.std.proofs.Common.{◌∙◌}
use Rattle.saved_state.proofs.NumberLemmas.{ulint_behind}
use Rattle.saved_state.proofs.numbers.ulint_at.Goals as goal

pub returns : goal.returns
returns c = c.read_u64.ensures ∙ ulint_behind c.args.offset c.args.bytes.now
