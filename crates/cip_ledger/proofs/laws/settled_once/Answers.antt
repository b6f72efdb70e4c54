use Rattle.cip_ledger.proofs.Doubts.{settled-once}
use Rattle.cip_ledger.proofs.laws.settled_once.Goals as goal

pub returns : goal.returns
returns c = settled-once
