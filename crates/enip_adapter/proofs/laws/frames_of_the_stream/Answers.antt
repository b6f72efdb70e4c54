use Rattle.enip_adapter.proofs.StreamLemmas.{cut-of-run}
use Rattle.enip_adapter.proofs.laws.frames_of_the_stream.Goals as goal

pub returns : goal.returns
returns c = cut-of-run
