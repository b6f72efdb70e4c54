use Rattle.enip_access.proofs.Texts.{addresses_are_texts}
use Rattle.enip_access.proofs.laws.addresses_are_texts.Goals as goal

pub returns : goal.returns
returns c = addresses_are_texts
