use Rattle.enip_owner.proofs.StreamLemmas.{same_lines as law}
use Rattle.enip_owner.proofs.laws.cuts_do_not_matter.Goals as goal

pub returns : goal.returns
returns c = law
