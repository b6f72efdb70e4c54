use Rattle.std.proofs.Common.{length}
use Rattle.owner_port.proofs.device_table.+append_standard.Given as goal

abbrev pub decreases-append_standard : goal.decreases-append_standard
decreases-append_standard l = length l.objects.now
