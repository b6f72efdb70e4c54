use Rattle.std.proofs.Common.{refl}
use Rattle.enip_access.proofs.Addresses.{canonical}
use Rattle.enip_access.proofs.address.address_of.Goals as goal

pub returns : goal.returns
returns c = canonical c.args.number _ _ c.from_bits.ensures c.to_canonical.ensures
