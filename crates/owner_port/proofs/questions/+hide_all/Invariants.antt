use Rattle.std.proofs.Common.{length}
use Rattle.owner_port.proofs.questions.+hide_all.Given as goal

abbrev pub decreases-hide_all : goal.decreases-hide_all
decreases-hide_all l = length l.list.now
