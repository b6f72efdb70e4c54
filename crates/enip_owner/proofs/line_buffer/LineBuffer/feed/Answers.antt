use Rattle.std.proofs.Common.{drop}
use Rattle.enip_lines.proofs.InputLemmas.{first_line, none_found, bytes_from}
use Rattle.enip_owner.proofs.StreamLemmas.{fed_line, fed_part, none_left}
use Rattle.enip_owner.proofs.line_buffer.LineBuffer.feed.Goals as goal

pub returns-in-Some : goal.returns-in-Some
returns-in-Some c =
    let front = c.split_at.result.0.now in
    let back = c.split_at.result.1.now in
    let found = first_line c.in-Some.end c.args.bytes.now front back c.split_at.ensures.front c.split_at.ensures.back c.in-Some.ensures.0.high
    c.in-Some.ensures.0.before c.in-Some.ensures.1 in
    rw (bytes_from 1 back, c.end.ensures.outcome, c.end.ensures.ended, c.extend.ensures, c.begin.ensures)
    (fed_line c.args.self.now c.args.bytes.now front (drop 1 back) found.1 found.0)

pub returns-in-None : goal.returns-in-None
returns-in-None c =
    rw (none_left c.args.bytes.now, c.extend-in-None.ensures, c.begin.ensures)
    (fed_part c.args.self.now c.args.bytes.now (none_found c.args.bytes.now c.in-None.ensures))
