use Rattle.enip_adapter.proofs.SoundLemmas.{some-taken}
use Rattle.enip_adapter.proofs.laws.progress.Goals as goal

pub returns : goal.returns
returns c = some-taken
