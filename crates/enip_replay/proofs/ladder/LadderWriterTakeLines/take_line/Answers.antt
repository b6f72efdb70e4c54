use Rattle.std.proofs.Common.{IfErr, rules}
use Rattle.std.specs.Io.KnownBytes.{Keeps}
use Rattle.enip_bench.specs.Stored.{event_in}
use Rattle.enip_replay.specs.Script.{IsRefusedLine}
use Rattle.enip_faults.specs.Statuses.{IsOfDevices}
use Rattle.enip_lines.proofs.InputLemmas.{devices_at}
use Rattle.enip_replay.proofs.PlayLemmas.{on_ok}
use Rattle.enip_replay.proofs.RunLemmas.{silent-event}
use Rattle.enip_replay.proofs.ladder.LadderWriterTakeLines.take_line.Goals as goal

pub returns-in_err-event-clause-refused : goal.returns-in_err-event-clause-refused
returns-in_err-event-clause-refused g c =
    let output = g.W.Write.contents c.args._output.now in
    let run : IfErr c.from_residual.result IsOfDevices = search rules in
    devices_at (IsRefusedLine c.args.text.now × Keeps output output) c.args.number c.from_residual.result run

pub returns-clause-done : goal.returns-clause-done
returns-clause-done g c =
    let meant = rw c.in-Some.is at c.in_ok-event.ensures.meant in
    on_ok c.run_event.result
    (λ done. silent-event c.args.text.now (event_in c.in-Some.event) c.args.self.now.bench c.run_event.new.self.bench
    (g.W.Write.contents c.args._output.now) meant done)
    c.run_event.ensures.done

pub returns-clause-refused : goal.returns-clause-refused
returns-clause-refused g c =
    let output = g.W.Write.contents c.args._output.now in
    devices_at (IsRefusedLine c.args.text.now × Keeps output output) c.args.number c.run_event.result c.run_event.ensures.refused
