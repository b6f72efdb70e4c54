use Rattle.saved_state.proofs.LawLemmas.{checksum_lem}
use Rattle.saved_state.proofs.laws.checksum_is_compared.Goals as goal

pub returns : goal.returns
returns c = checksum_lem
