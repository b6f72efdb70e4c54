use Rattle.enip_replay.specs.Drawing.{Grows}
use Rattle.enip_replay.proofs.ladder.Ladder.draw.Given as goal

abbrev pub invariant-loop-happened : goal.invariant-loop-happened
invariant-loop-happened g l = Grows (g.W.Write.contents l.initial.output) (g.W.Write.contents l.output)
