use Rattle.std.proofs.Common.{length}
use Rattle.owner_port.proofs.questions.+answer_in.Given as goal

abbrev pub decreases-answer_in : goal.decreases-answer_in
decreases-answer_in l = length l.list.now
