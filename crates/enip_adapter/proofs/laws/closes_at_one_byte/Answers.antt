use Rattle.enip_adapter.proofs.CloseLemmas.{closed-last, closed-same, closed-told}
use Rattle.enip_adapter.proofs.laws.closes_at_one_byte.Goals as goal

pub returns-clause-last : goal.returns-clause-last
returns-clause-last c = closed-last

pub returns-clause-same : goal.returns-clause-same
returns-clause-same c = closed-same

pub returns-clause-told : goal.returns-clause-told
returns-clause-told c = closed-told
