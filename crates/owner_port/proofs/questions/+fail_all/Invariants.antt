use Rattle.std.proofs.Common.{length}
use Rattle.owner_port.proofs.questions.+fail_all.Given as goal

abbrev pub decreases-fail_all : goal.decreases-fail_all
decreases-fail_all l = length l.list.now
