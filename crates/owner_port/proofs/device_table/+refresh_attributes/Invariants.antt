use Rattle.std.proofs.Common.{length}
use Rattle.owner_port.proofs.device_table.+refresh_attributes.Given as goal

abbrev pub decreases-refresh_attributes : goal.decreases-refresh_attributes
decreases-refresh_attributes l = length l.attributes.now
