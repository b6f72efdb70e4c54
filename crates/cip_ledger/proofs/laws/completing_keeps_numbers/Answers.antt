use Rattle.cip_ledger.proofs.Pendings.{completed-numbers}
use Rattle.cip_ledger.proofs.laws.completing_keeps_numbers.Goals as goal

pub returns : goal.returns
returns c = completed-numbers
