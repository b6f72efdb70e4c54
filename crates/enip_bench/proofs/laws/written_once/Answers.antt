use Rattle.enip_bench.proofs.WriteLemmas.{writes}
use Rattle.enip_bench.proofs.laws.written_once.Goals as goal

pub returns : goal.returns
returns c = writes
