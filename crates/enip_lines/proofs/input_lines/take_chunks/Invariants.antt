use Rattle.enip_lines.proofs.InputLemmas.{Reading}
use Rattle.enip_lines.proofs.input_lines.take_chunks.Given as goal

abbrev pub invariant-loop : goal.invariant-loop
invariant-loop g l =
    Reading g.T.TakeLines.does (g.R.Read.remaining l.fn.input) (g.R.Read.remaining l.input) l.line.items l.number l.fn.taker l.taker
    (g.W.Write.contents l.fn.output) (g.W.Write.contents l.output)
