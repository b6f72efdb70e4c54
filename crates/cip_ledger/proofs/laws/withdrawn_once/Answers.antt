use Rattle.cip_ledger.proofs.Withdrawals.{withdrawn-once}
use Rattle.cip_ledger.proofs.laws.withdrawn_once.Goals as goal

pub returns : goal.returns
returns c = withdrawn-once
