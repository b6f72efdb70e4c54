use Rattle.std.proofs.Common.{drop}
use Rattle.std.proofs.lemmas.Result.{err_from_is_err_and}
use Rattle.enip_lines.proofs.InputLemmas.{line_done, line_stops, chunk_done, first_line, none_found, bytes_from}
use Rattle.enip_lines.proofs.input_lines.take_chunk.Goals as goal

pub returns-in_err-take_line : goal.returns-in_err-take_line
returns-in_err-take_line g c bytes first before taken =
    let p = err_from_is_err_and c.from_residual.result c.from_residual.ensures.1 in
    let found = first_line c.in-Some.end c.loop-end.rest.now c.split_at.result.0.now c.split_at.result.1.now c.split_at.ensures.front
    c.split_at.ensures.back c.in-Some.ensures.0.high c.in-Some.ensures.0.before c.in-Some.ensures.1 in
    rw (p.1, p.2)
    (line_stops g.T.TakeLines.does g.T.TakeLines.refuses c.args.chunk.now c.args.line.now.items c.args.number c.args.taker.now c.loop-end.taker
    c.take_line.new.taker (g.W.Write.contents c.args.output.now) (g.W.Write.contents c.loop-end.output) (g.W.Write.contents c.take_line.new.output)
    c.loop-end.rest.now c.loop-end.line.items c.split_at.result.0.now (drop 1 c.split_at.result.1.now) c.take_line.new.line.items c.loop-end.number
    c.in_err-take_line.field-0.0 c.loop-end.invariant found.1 found.0 c.in_err-take_line.ensures.refused bytes first before taken)

pub loop-end-preserved : goal.loop-end-preserved
loop-end-preserved g c =
    let found = first_line c.in-Some.end c.loop-end.rest.now c.split_at.result.0.now c.split_at.result.1.now c.split_at.ensures.front
    c.split_at.ensures.back c.in-Some.ensures.0.high c.in-Some.ensures.0.before c.in-Some.ensures.1 in
    rw (bytes_from 1 c.split_at.result.1.now)
    (line_done g.T.TakeLines.does c.args.chunk.now c.args.line.now.items c.args.number c.args.taker.now c.loop-end.taker c.take_line.new.taker
    (g.W.Write.contents c.args.output.now) (g.W.Write.contents c.loop-end.output) (g.W.Write.contents c.take_line.new.output)
    c.loop-end.rest.now c.loop-end.line.items c.split_at.result.0.now (drop 1 c.split_at.result.1.now) c.take_line.new.line.items c.loop-end.number
    c.in_ok-number.number c.loop-end.invariant found.1 found.0 c.in_ok-take_line.ensures.done c.in_ok-take_line.ensures.cleared
    c.in_ok-number.ensures.next)

pub returns : goal.returns
returns g c =
    chunk_done g.T.TakeLines.does c.args.chunk.now c.args.line.now.items c.args.number c.args.taker.now c.loop-end.taker
    (g.W.Write.contents c.args.output.now) (g.W.Write.contents c.loop-end.output) c.loop-end.rest.now c.loop-end.line.items
    c.extend_from_slice.new.self.items c.loop-end.number c.loop-end.invariant (none_found c.loop-end.rest.now c.in_default.ensures)
    c.in_ok-extend_from_slice.ensures.items
