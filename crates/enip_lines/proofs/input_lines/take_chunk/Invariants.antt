use Rattle.std.proofs.Common.{length}
use Rattle.enip_lines.proofs.InputLemmas.{Taking}
use Rattle.enip_lines.proofs.input_lines.take_chunk.Given as goal

abbrev pub invariant-loop-end : goal.invariant-loop-end
invariant-loop-end g l =
    Taking g.T.TakeLines.does l.fn.chunk l.fn.line.items l.fn.number l.fn.taker (g.W.Write.contents l.fn.output)
    l.rest l.line.items l.number l.taker (g.W.Write.contents l.output)

abbrev pub decreases-loop-end : goal.decreases-loop-end
decreases-loop-end g l = length l.rest
