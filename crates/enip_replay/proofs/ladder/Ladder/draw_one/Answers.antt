use Rattle.enip_replay.proofs.LadderLemmas.{grown-if}
use Rattle.enip_replay.proofs.ladder.Ladder.draw_one.Goals as goal

pub returns-in_ok-draw_rung-in-Reached-default-Some-clause-drawn :
    goal.returns-in_ok-draw_rung-in-Reached-default-Some-clause-drawn
returns-in_ok-draw_rung-in-Reached-default-Some-clause-drawn g c =
    grown-if (g.W.Write.contents c.args.output.now) (g.W.Write.contents c.draw_rung-in-Reached-default-Some.new.output)
    (g.W.Write.contents c.draw_rung-in-Reached-default-Some-2.new.output) c.draw_rung-in-Reached-default-Some-2.result
    c.in_ok-draw_rung-in-Reached-default-Some.ensures.drawn c.draw_rung-in-Reached-default-Some-2.ensures.drawn
