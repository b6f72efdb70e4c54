use Rattle.std.proofs.Common.{◌-◌, length}
use Rattle.cip_layouts.proofs.writing.+write_from.Given as goal

abbrev pub decreases-write_from : goal.decreases-write_from
decreases-write_from l = length l.fields.now - l.index
