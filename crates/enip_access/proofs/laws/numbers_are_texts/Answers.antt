use Rattle.enip_access.proofs.Numbers.{numbers_are_texts}
use Rattle.enip_access.proofs.laws.numbers_are_texts.Goals as goal

pub returns : goal.returns
returns c = numbers_are_texts
