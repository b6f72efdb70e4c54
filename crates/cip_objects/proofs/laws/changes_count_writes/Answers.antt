use Rattle.cip_objects.proofs.ChangeCounts.{changes_count as law}
use Rattle.cip_objects.proofs.laws.changes_count_writes.Goals as goal

pub returns : goal.returns
returns c = law
