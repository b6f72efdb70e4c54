use Rattle.std.proofs.Common.{length}
use Rattle.enip_answer.proofs.AnswerLemmas.{Feeding}
use Rattle.enip_answer.proofs.answering.feed_all.Given as goal

abbrev pub invariant-loop-rest : goal.invariant-loop-rest
invariant-loop-rest g l =
    Feeding l.number l.now l.peer l.fn.adapter l.fn.piece (g.W.Write.contents l.fn.output) l.adapter l.rest (g.W.Write.contents l.output)

abbrev pub decreases-loop-rest : goal.decreases-loop-rest
decreases-loop-rest g l = length l.rest
