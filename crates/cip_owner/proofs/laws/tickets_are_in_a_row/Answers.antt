use Rattle.cip_owner.proofs.RunLemmas.{numbers as law}
use Rattle.cip_owner.proofs.laws.tickets_are_in_a_row.Goals as goal

pub returns : goal.returns
returns c = law
