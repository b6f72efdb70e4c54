use Rattle.cip_objects.proofs.Members.{member_after_set as law}
use Rattle.cip_objects.proofs.laws.member_after_set.Goals as goal

pub returns : goal.returns
returns c = law
