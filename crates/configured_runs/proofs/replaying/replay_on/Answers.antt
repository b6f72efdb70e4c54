use Rattle.enip_replay.specs.Replay.{IsPlayedUpTo, OnceOpened}
use Rattle.configured_runs.proofs.StatusLemmas.{replay_fails}
use Rattle.configured_runs.proofs.replaying.replay_on.Goals as goal

pub returns-in_err-replay-clause-refused : goal.returns-in_err-replay-clause-refused
returns-in_err-replay-clause-refused g c =
    let before = g.W.Write.contents c.args.output.now in
    let after = g.W.Write.contents c.replay.new.output in
    let adapter = c.in_ok-adapter.adapter in
    replay_fails c.args.config.now adapter (λ number. OnceOpened adapter (λ opened. IsPlayedUpTo opened c.args.script.now before after number)) before after
    c.in_err-replay.field-0.0 c.from_residual-in_err-replay.result c.from_residual-in_err-replay.ensures
    c.in_ok-adapter.ensures.made c.in_ok-adapter.ensures.accepted c.in_err-replay.ensures.stopped
