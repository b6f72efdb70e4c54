use Rattle.enip_owner.proofs.ReadingLemmas.{one_reading as law}
use Rattle.enip_owner.proofs.laws.line_says_one_thing.Goals as goal

pub returns : goal.returns
returns c = law
