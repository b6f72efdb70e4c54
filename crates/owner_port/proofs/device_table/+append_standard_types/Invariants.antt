use Rattle.std.proofs.Common.{length}
use Rattle.owner_port.proofs.device_table.+append_standard_types.Given as goal

abbrev pub decreases-append_standard_types : goal.decreases-append_standard_types
decreases-append_standard_types l = length l.attributes.now
