use Rattle.cip_ledger.proofs.Doubts.{settled-numbers}
use Rattle.cip_ledger.proofs.laws.settling_keeps_numbers.Goals as goal

pub returns : goal.returns
returns c = settled-numbers
