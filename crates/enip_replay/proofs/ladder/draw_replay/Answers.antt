use Rattle.enip_replay.specs.Drawing.{IsDrawn, IsDrawnFrom, IsDrawnUpTo}
use Rattle.enip_replay.proofs.PlayLemmas.{replay_done, replay_stopped}
use Rattle.enip_replay.proofs.ladder.draw_replay.Goals as goal

pub returns-clause-drawn : goal.returns-clause-drawn
returns-clause-drawn g c =
    let before = g.W.Write.contents c.args.output.now in
    let after = g.W.Write.contents c.draw_script.new.output in
    replay_done c.draw_script.result c.map_err.result (IsDrawnFrom c.in_ok-bench.bench c.args.script.now before after)
    (IsDrawn c.args.adapter c.args.script.now before after) c.map_err.ensures.cases
    (λ drawn. (c.in_ok-bench.bench, c.in_ok-bench.ensures.made, drawn)) c.draw_script.ensures.drawn

pub returns-clause-stopped : goal.returns-clause-stopped
returns-clause-stopped g c =
    let before = g.W.Write.contents c.args.output.now in
    let after = g.W.Write.contents c.draw_script.new.output in
    replay_stopped c.args.adapter c.in_ok-bench.bench (λ opened. IsDrawnUpTo opened c.args.script.now before after) before after
    c.draw_script.result c.map_err.result c.in_ok-bench.ensures.made c.map_err.ensures.cases c.draw_script.ensures.stopped
