use Rattle.std.proofs.Common.{length}
use Rattle.owner_port.proofs.questions.+earliest_in.Given as goal

abbrev pub decreases-earliest_in : goal.decreases-earliest_in
decreases-earliest_in l = length l.list.now
