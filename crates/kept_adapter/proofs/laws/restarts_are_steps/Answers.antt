use Rattle.kept_adapter.proofs.StepLemmas.{device_end}
use Rattle.kept_adapter.proofs.laws.restarts_are_steps.Goals as goal

pub returns : goal.returns
returns c = device_end
