use Rattle.cip_ledger.proofs.KeptLemmas.{restored_is}
use Rattle.cip_ledger.proofs.laws.restored_is_kept.Goals as goal

pub returns : goal.returns
returns c = restored_is
