use Rattle.std.proofs.Common.{length}
use Rattle.owner_port.proofs.device_table.+append_settable.Given as goal

abbrev pub decreases-append_settable : goal.decreases-append_settable
decreases-append_settable l = length l.attributes.now
