use Rattle.std.specs.Io.KnownBytes.{Keeps}
use Rattle.enip_answer.proofs.AnswerLemmas.{refused_if}
use Rattle.enip_answer.proofs.answering.Answerer.run_line.Goals as goal

pub returns-in-Some-clause-refused : goal.returns-in-Some-clause-refused
returns-in-Some-clause-refused g c =
    refused_if c.args.text.now c.in-Some.line (Keeps (g.W.Write.contents c.args.output.now) (g.W.Write.contents c.run.new.output)) c.run.result
    c.in-Some.ensures.read c.run.ensures.refused
