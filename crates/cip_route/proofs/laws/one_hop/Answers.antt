use Rattle.cip_route.proofs.Hops.{hop_is_one}
use Rattle.cip_route.proofs.laws.one_hop.Goals as goal

pub returns : goal.returns
returns c = hop_is_one
