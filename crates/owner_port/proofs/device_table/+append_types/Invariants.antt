use Rattle.std.proofs.Common.{length}
use Rattle.owner_port.proofs.device_table.+append_types.Given as goal

abbrev pub decreases-append_types : goal.decreases-append_types
decreases-append_types l = length l.attributes.now
