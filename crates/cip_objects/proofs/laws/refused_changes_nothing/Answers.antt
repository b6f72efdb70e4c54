use Rattle.cip_objects.proofs.Refused.{refused as law}
use Rattle.cip_objects.proofs.laws.refused_changes_nothing.Goals as goal

pub returns : goal.returns
returns c = law
