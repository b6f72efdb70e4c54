use Rattle.enip_bench.proofs.JustOpenedLemmas.{just_opened}
use Rattle.enip_bench.proofs.laws.ends_just_opened.Goals as goal

pub returns : goal.returns
returns c = just_opened
