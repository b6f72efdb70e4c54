use Rattle.std.proofs.Common.{length}
use Rattle.owner_port.proofs.device_table.+append_own.Given as goal

abbrev pub decreases-append_own : goal.decreases-append_own
decreases-append_own l = length l.objects.now
