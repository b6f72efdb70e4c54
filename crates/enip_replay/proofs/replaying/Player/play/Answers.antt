use Rattle.enip_replay.specs.Replay.{IsPlayedUpTo, IsStopAt}
use Rattle.enip_replay.specs.declared.replaying.Player.{Player}
use Rattle.enip_replay.proofs.PlayLemmas.{on_ok, passed_on, played, play_stopped}
use Rattle.enip_replay.proofs.replaying.Player.play.Goals as goal

pub returns-in_err-read_lines-clause-stopped : goal.returns-in_err-read_lines-clause-stopped
returns-in_err-read_lines-clause-stopped g c =
    let before = g.W.Write.contents c.args.output.now in
    let after = g.W.Write.contents c.read_lines.new.output in
    passed_on (IsStopAt (IsPlayedUpTo c.args.self.now.bench c.args.script.now before after)) c.in_err-read_lines.field-0.0
    c.from_residual.result c.from_residual.ensures
    (play_stopped (λ (player : Player). player.bench) c.args.script.now c.args.self.now before after c.in_err-read_lines.field-0.0
    c.in_err-read_lines.ensures)

pub returns-clause-played : goal.returns-clause-played
returns-clause-played g c =
    let before = g.W.Write.contents c.args.output.now in
    let between = g.W.Write.contents c.read_lines.new.output in
    let after = g.W.Write.contents c.print_ending.new.output in
    on_ok c.print_ending.result
    (λ ended. played (λ (player : Player). player.bench) c.args.script.now c.args.self.now c.read_lines.new.taker before between after
    c.in_ok-read_lines.ensures ended)
    c.print_ending.ensures.printed
