use Rattle.enip_client.proofs.ConnectionLemmas.{of-originator}
use Rattle.enip_client.proofs.laws.connection_of_an_originator.Goals as goal

pub returns : goal.returns
returns c = of-originator
