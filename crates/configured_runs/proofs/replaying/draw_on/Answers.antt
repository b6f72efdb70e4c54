use Rattle.enip_replay.specs.Drawing.{IsDrawnUpTo}
use Rattle.enip_replay.specs.Replay.{OnceOpened}
use Rattle.configured_runs.proofs.StatusLemmas.{replay_fails}
use Rattle.configured_runs.proofs.replaying.draw_on.Goals as goal

pub returns-in_err-draw_replay-clause-refused : goal.returns-in_err-draw_replay-clause-refused
returns-in_err-draw_replay-clause-refused g c =
    let before = g.W.Write.contents c.args.output.now in
    let after = g.W.Write.contents c.draw_replay.new.output in
    let adapter = c.in_ok-adapter.adapter in
    replay_fails c.args.config.now adapter (λ number. OnceOpened adapter (λ opened. IsDrawnUpTo opened c.args.script.now before after number)) before after
    c.in_err-draw_replay.field-0.0 c.from_residual-in_err-draw_replay.result c.from_residual-in_err-draw_replay.ensures
    c.in_ok-adapter.ensures.made c.in_ok-adapter.ensures.accepted c.in_err-draw_replay.ensures.stopped
