use Rattle.enip_owner.proofs.StreamLemmas.{no_line_yet as law}
use Rattle.enip_owner.proofs.laws.unended_line_is_none.Goals as goal

pub returns : goal.returns
returns c = law
