use Rattle.enip_lines.proofs.InputLemmas.{end_kept}
use Rattle.enip_lines.proofs.input_lines.read_lines.Goals as goal

pub returns : goal.returns
returns g c =
    end_kept g.T.TakeLines.does g.T.TakeLines.refuses (g.R.Read.remaining c.args.input.now) c.args.taker.now c.take_lines-taken.new.taker
    (g.W.Write.contents c.args.output.now) (g.W.Write.contents c.take_lines-taken.new.output) (g.W.Write.contents c.flush.new.self)
    c.take_lines-taken.result c.take_lines-taken.ensures c.flush.ensures.bytes
