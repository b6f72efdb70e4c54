use Rattle.owner_port.proofs.SetLemmas.{reports}
use Rattle.owner_port.proofs.laws.each_set_is_reported.Goals as goal

pub returns : goal.returns
returns c = reports
