use Rattle.std.proofs.Common.{◌≡◌, ◌<◌, length, rules}
use Rattle.enip_lines.proofs.InputLemmas.{ends_with_newline, ends_with_line}
use Rattle.enip_lines.proofs.input_lines.take_last.Goals as goal

pub returns-then-is_empty : goal.returns-then-is_empty
returns-then-is_empty g c input left bytes first before consumed end taken =
    let empty : length c.args.line.now ≡ 0 = search rules in
    ends_with_newline g.T.TakeLines.does input left bytes c.args.line.now c.args.number first c.args.taker.now before
    (g.W.Write.contents c.args.output.now) empty consumed end taken

pub returns : goal.returns
returns g c input left bytes first before consumed end taken =
    let some : 0 < length c.args.line.now = search rules in
    ends_with_line g.T.TakeLines.does g.T.TakeLines.refuses input left bytes c.args.line.now c.without_return.result.now c.args.number first
    c.args.taker.now c.take_line.new.self before (g.W.Write.contents c.args.output.now) (g.W.Write.contents c.take_line.new.output)
    c.take_line.result some c.without_return.ensures consumed end taken c.take_line.ensures.done c.take_line.ensures.refused
