use Rattle.std.proofs.Common.{length}
use Rattle.owner_port.proofs.questions.+show_in.Given as goal

abbrev pub decreases-show_in : goal.decreases-show_in
decreases-show_in l = length l.list.now
