use Rattle.saved_adapter.proofs.SameLemmas.{same_exactly}
use Rattle.saved_adapter.proofs.laws.same_entries.Goals as goal

pub returns : goal.returns
returns c = same_exactly
