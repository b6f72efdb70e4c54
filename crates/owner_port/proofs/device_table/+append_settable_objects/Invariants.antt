use Rattle.std.proofs.Common.{length}
use Rattle.owner_port.proofs.device_table.+append_settable_objects.Given as goal

abbrev pub decreases-append_settable_objects : goal.decreases-append_settable_objects
decreases-append_settable_objects l = length l.objects.now
