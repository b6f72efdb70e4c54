use Rattle.enip_client.proofs.StreamLemmas.{cut-of-calls}
use Rattle.enip_client.proofs.laws.frames_of_the_stream.Goals as goal

pub returns : goal.returns
returns c = cut-of-calls
