use Rattle.std.proofs.Common.{length}
use Rattle.owner_port.proofs.attribute_table.+type_at.Given as goal

abbrev pub decreases-type_at : goal.decreases-type_at
decreases-type_at l = length l.types.now
