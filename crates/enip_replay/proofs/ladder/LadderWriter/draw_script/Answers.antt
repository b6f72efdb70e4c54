use Rattle.enip_replay.specs.declared.ladder.LadderWriter.{LadderWriter}
use Rattle.enip_replay.proofs.PlayLemmas.{drawn, drawing_stopped}
use Rattle.enip_replay.proofs.ladder.LadderWriter.draw_script.Goals as goal

pub returns-clause-drawn : goal.returns-clause-drawn
returns-clause-drawn g c =
    drawn (λ (climber : LadderWriter). climber.bench) c.args.script.now c.args.self.now c.read_lines-ran.new.taker
    (g.W.Write.contents c.args.output.now) (g.W.Write.contents c.read_lines-ran.new.output) (g.W.Write.contents c.draw.new.output)
    (g.W.Write.contents c.end.new.output) c.read_lines-ran.result c.end.result c.read_lines-ran.ensures c.in_ok-draw.ensures.drawn
    c.end.ensures.drawn c.end.ensures.silent

pub returns-clause-stopped : goal.returns-clause-stopped
returns-clause-stopped g c =
    drawing_stopped (λ (climber : LadderWriter). climber.bench) c.args.script.now c.args.self.now c.read_lines-ran.new.taker
    (g.W.Write.contents c.args.output.now) (g.W.Write.contents c.read_lines-ran.new.output) (g.W.Write.contents c.draw.new.output)
    (g.W.Write.contents c.end.new.output) c.read_lines-ran.result c.end.result c.read_lines-ran.ensures c.in_ok-draw.ensures.drawn
    c.end.ensures.silent c.end.ensures.refused
