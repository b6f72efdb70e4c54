use Rattle.std.proofs.Common.{◌++◌, subst}
use Rattle.std.proofs.KnownBytes.{Appends-trans}
use Rattle.std.specs.Io.KnownBytes.{Appends}
use Rattle.enip_bench.specs.FrameLaw.{ShowsNumbers}
use Rattle.enip_lines.specs.Lines.{with_newline}
use Rattle.enip_replay.specs.Drawing.{same_line}
use Rattle.enip_replay.specs.Outcome.{final_line}
use Rattle.enip_replay.specs.Replay.{ending, objects_printed}
use Rattle.enip_replay.proofs.ladder.print_end.Goals as goal

pub returns-clause-drawn : goal.returns-clause-drawn
returns-clause-drawn g c =
    let a = g.W.Write.contents c.args.output.now in
    let b = g.W.Write.contents c.print_state.new.output in
    let d = g.W.Write.contents c.writeln.new.self in
    let state : Appends a b (ending c.args.bench.now) =
    subst (λ shown. Appends a b (objects_printed shown.router.router.objects ++ with_newline (final_line shown.stage))) c.seen-seen.ensures.seen
    c.in_ok-print_state.ensures.printed in
    record {
      same = subst (ShowsNumbers c.args.bench.now) c.seen-seen.ensures.seen c.seen-seen.ensures.headline;
      printed = Appends-trans a b d (ending c.args.bench.now) (with_newline same_line) state c.in_ok-writeln.ensures.bytes;
    }
