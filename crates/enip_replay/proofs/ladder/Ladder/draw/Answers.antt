use Rattle.enip_replay.proofs.LadderLemmas.{grown-more, grown-line}
use Rattle.enip_replay.proofs.ladder.Ladder.draw.Goals as goal

pub loop-happened-preserved : goal.loop-happened-preserved
loop-happened-preserved g c =
    grown-more (g.W.Write.contents c.writeln.new.self) (g.W.Write.contents c.loop-happened.output) (g.W.Write.contents c.draw_one.new.output)
    c.loop-happened.invariant c.in_ok-draw_one.ensures.drawn

pub returns-clause-drawn : goal.returns-clause-drawn
returns-clause-drawn g c =
    grown-more (g.W.Write.contents c.args.output.now) (g.W.Write.contents c.writeln.new.self) (g.W.Write.contents c.loop-happened.output)
    (grown-line (g.W.Write.contents c.args.output.now) (g.W.Write.contents c.writeln.new.self) _ c.in_ok-writeln.ensures.bytes) c.loop-happened.invariant
