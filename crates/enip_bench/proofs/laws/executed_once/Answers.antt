use Rattle.enip_bench.proofs.OnceLemmas.{once, order}
use Rattle.enip_bench.proofs.laws.executed_once.Goals as goal

pub returns-clause-once : goal.returns-clause-once
returns-clause-once c = once

pub returns-clause-order : goal.returns-clause-order
returns-clause-order c = order
