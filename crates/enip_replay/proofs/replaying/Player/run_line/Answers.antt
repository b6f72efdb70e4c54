use Rattle.enip_bench.specs.Stored.{event_in}
use Rattle.enip_replay.proofs.RunLemmas.{run-event}
use Rattle.enip_replay.proofs.replaying.Player.run_line.Goals as goal

pub returns-clause-run : goal.returns-clause-run
returns-clause-run g c = λ same.
    let meant = rw c.in-Some.is at c.in_ok-event.ensures.meant in
    run-event c.args.text.now (event_in c.in-Some.event) c.args.self.now.bench c.run_event.new.self.bench
    (g.W.Write.contents c.args.output.now) (g.W.Write.contents c.run_event.new.output) meant c.in_ok-run_event.ensures.done
