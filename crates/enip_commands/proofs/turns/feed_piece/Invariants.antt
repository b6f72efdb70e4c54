use Rattle.std.proofs.Common.{length}
use Rattle.enip_commands.proofs.TurnLemmas.{Fed}
use Rattle.enip_commands.proofs.turns.feed_piece.Given as goal

abbrev pub invariant-loop-rest : goal.invariant-loop-rest
invariant-loop-rest l = Fed l.turn l.fn.client l.client l.fn.reply.items l.reply.items l.fn.piece l.rest l.is_heard

abbrev pub decreases-loop-rest : goal.decreases-loop-rest
decreases-loop-rest l = length l.rest
