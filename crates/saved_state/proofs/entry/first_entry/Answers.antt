use Rattle.std.proofs.Common.{arith}
use Rattle.saved_state.proofs.EntryLemmas.{whole_entry}
use Rattle.saved_state.proofs.entry.first_entry.Goals as goal

pub returns : goal.returns
returns c =
    whole_entry c.args.text.now c.ulint_at-key.result c.udint_at-length.result c.ulint_at-key.ensures
    c.udint_at-length.ensures (omega arith) (omega arith)
