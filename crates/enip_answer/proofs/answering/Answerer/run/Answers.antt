use Rattle.enip_answer.proofs.answering.Answerer.run.Goals as goal

pub returns-in-Piece-clause-run : goal.returns-in-Piece-clause-run
returns-in-Piece-clause-run g c = rw c.in-Piece.is c.run_piece.ensures.run
