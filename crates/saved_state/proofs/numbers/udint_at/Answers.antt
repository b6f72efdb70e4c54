use Rattle.std.proofs.Common.{◌∙◌}
use Rattle.saved_state.proofs.NumberLemmas.{udint_behind}
use Rattle.saved_state.proofs.numbers.udint_at.Goals as goal

pub returns : goal.returns
returns c = c.read_u32.ensures ∙ udint_behind c.args.offset c.args.bytes.now
