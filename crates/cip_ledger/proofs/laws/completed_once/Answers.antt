use Rattle.cip_ledger.proofs.Pendings.{completed-once}
use Rattle.cip_ledger.proofs.laws.completed_once.Goals as goal

pub returns : goal.returns
returns c = completed-once
