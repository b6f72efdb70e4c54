use Rattle.std.proofs.Common.{length}
use Rattle.owner_port.proofs.device_table.+refresh.Given as goal

abbrev pub decreases-refresh : goal.decreases-refresh
decreases-refresh l = length l.objects.now
