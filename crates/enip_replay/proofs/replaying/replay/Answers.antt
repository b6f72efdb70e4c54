use Rattle.enip_replay.specs.Replay.{IsPlayed, IsPlayedFrom, IsPlayedUpTo}
use Rattle.enip_replay.proofs.PlayLemmas.{replay_done, replay_stopped}
use Rattle.enip_replay.proofs.replaying.replay.Goals as goal

pub returns-clause-played : goal.returns-clause-played
returns-clause-played g c =
    let before = g.W.Write.contents c.args.output.now in
    let after = g.W.Write.contents c.play.new.output in
    replay_done c.play.result c.map_err.result (IsPlayedFrom c.in_ok-bench.bench c.args.script.now before after)
    (IsPlayed c.args.adapter c.args.script.now before after) c.map_err.ensures.cases
    (λ played. (c.in_ok-bench.bench, c.in_ok-bench.ensures.made, played)) c.play.ensures.played

pub returns-clause-stopped : goal.returns-clause-stopped
returns-clause-stopped g c =
    let before = g.W.Write.contents c.args.output.now in
    let after = g.W.Write.contents c.play.new.output in
    replay_stopped c.args.adapter c.in_ok-bench.bench (λ opened. IsPlayedUpTo opened c.args.script.now before after) before after
    c.play.result c.map_err.result c.in_ok-bench.ensures.made c.map_err.ensures.cases c.play.ensures.stopped
