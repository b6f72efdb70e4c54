use Rattle.enip_answer.proofs.AnswerLemmas.{answered_all, answered_until}
use Rattle.enip_answer.proofs.answering.answer.Goals as goal

pub returns-clause-run : goal.returns-clause-run
returns-clause-run g c =
    answered_all (g.R.Read.remaining c.args.input) c.args.adapter c.new-desk.result c.read_lines.new.taker (g.W.Write.contents c.args.output.now)
    (g.W.Write.contents c.read_lines.new.output) c.read_lines.result c.new-desk.ensures c.read_lines.ensures

pub returns-clause-refused : goal.returns-clause-refused
returns-clause-refused g c =
    answered_until (g.R.Read.remaining c.args.input) c.args.adapter c.new-desk.result c.read_lines.new.taker (g.W.Write.contents c.args.output.now)
    (g.W.Write.contents c.read_lines.new.output) c.read_lines.result c.new-desk.ensures c.read_lines.ensures
