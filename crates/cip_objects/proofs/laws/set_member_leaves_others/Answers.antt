use Rattle.cip_objects.proofs.OtherMembers.{set_member_leaves_others as law}
use Rattle.cip_objects.proofs.laws.set_member_leaves_others.Goals as goal

pub returns : goal.returns
returns c = law
