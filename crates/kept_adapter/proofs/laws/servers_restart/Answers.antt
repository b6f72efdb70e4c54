use Rattle.kept_adapter.proofs.StepLemmas.{adapter_end, kept_end, left_end}
use Rattle.kept_adapter.proofs.laws.servers_restart.Goals as goal

pub returns-clause-adapter : goal.returns-clause-adapter
returns-clause-adapter g c = adapter_end

pub returns-clause-kept : goal.returns-clause-kept
returns-clause-kept g c = kept_end

pub returns-clause-left : goal.returns-clause-left
returns-clause-left g c = left_end
