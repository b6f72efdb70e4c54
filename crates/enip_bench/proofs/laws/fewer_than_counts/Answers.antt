use Rattle.enip_bench.proofs.OnceLemmas.{window}
use Rattle.enip_bench.proofs.laws.fewer_than_counts.Goals as goal

pub returns : goal.returns
returns c = window
