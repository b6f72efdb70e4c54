use Rattle.std.proofs.Common.{◌-◌, length}
use Rattle.owner_port.proofs.handing.+collect_from.Given as goal

abbrev pub decreases-collect_from : goal.decreases-collect_from
decreases-collect_from l = length l.queue.now.waiting - l.index
