use Rattle.std.proofs.Common.{length}
use Rattle.owner_port.proofs.device_table.+append_settable_data.Given as goal

abbrev pub decreases-append_settable_data : goal.decreases-append_settable_data
decreases-append_settable_data l = length l.assemblies.now
