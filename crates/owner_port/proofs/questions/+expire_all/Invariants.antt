use Rattle.std.proofs.Common.{length}
use Rattle.owner_port.proofs.questions.+expire_all.Given as goal

abbrev pub decreases-expire_all : goal.decreases-expire_all
decreases-expire_all l = length l.list.now
