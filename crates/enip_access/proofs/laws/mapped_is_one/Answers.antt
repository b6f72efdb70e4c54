use Rattle.enip_access.proofs.Addresses.{mapped_is_one}
use Rattle.enip_access.proofs.laws.mapped_is_one.Goals as goal

pub returns : goal.returns
returns c = mapped_is_one
