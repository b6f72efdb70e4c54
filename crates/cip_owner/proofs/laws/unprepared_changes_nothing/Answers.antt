use Rattle.cip_owner.proofs.OwnerLemmas.{unprepared as law}
use Rattle.cip_owner.proofs.laws.unprepared_changes_nothing.Goals as goal

pub returns : goal.returns
returns c = law
