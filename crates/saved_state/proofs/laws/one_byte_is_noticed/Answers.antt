use Rattle.saved_state.proofs.ChangeLemmas.{changed_lem}
use Rattle.saved_state.proofs.laws.one_byte_is_noticed.Goals as goal

pub returns : goal.returns
returns c = changed_lem
