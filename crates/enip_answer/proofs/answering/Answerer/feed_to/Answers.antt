use Rattle.std.proofs.Common.{refl}
use Rattle.enip_answer.proofs.AnswerLemmas.{fed_to}
use Rattle.enip_answer.specs.Answering.{desk_of}
use Rattle.enip_answer.proofs.answering.Answerer.feed_to.Goals as goal

pub returns-clause-fed : goal.returns-clause-fed
returns-clause-fed g c =
    fed_to c.args.peer c.args.number c.args.self.now.piece.items c.as_slice.result.now (desk_of c.args.self.now) _ c.feed_all.new.adapter
    c.in_ok-is_closed.is_closed (g.W.Write.contents c.args.output.now) (g.W.Write.contents c.feed_all.new.output) c.as_slice.ensures.value
    c.in_ok-is_closed.ensures.fed (rw (c.index.ensures.value, c.after_feed.ensures) refl)
