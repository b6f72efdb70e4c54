use Rattle.enip_bench.proofs.ArrivalLemmas.{arrival}
use Rattle.enip_bench.proofs.laws.executed_on_arrival.Goals as goal

pub returns : goal.returns
returns c = arrival
