use Rattle.std.proofs.Common.{◌≡◌, ◌<◌, ◌∙◌, sym, length, rules}
use Rattle.enip_answer.proofs.AnswerLemmas.{more_fed, fed_to_close, fed_whole}
use Rattle.enip_lines.proofs.InputLemmas.{bytes_from}
use Rattle.enip_answer.proofs.answering.feed_all.Goals as goal

pub returns-then-close-clause-fed : goal.returns-then-close-clause-fed
returns-then-close-clause-fed g c =
    let some : 0 < length c.loop-rest.rest.now = search rules in
    fed_to_close c.args.number c.args.now c.args.peer.now c.args.adapter.now c.loop-rest.adapter c.feed_once.new.adapter c.args.piece.now
    c.loop-rest.rest.now (g.W.Write.contents c.args.output.now) (g.W.Write.contents c.loop-rest.output) (g.W.Write.contents c.feed_once.new.output)
    (g.W.Write.contents c.print_closed.new.output) c.loop-rest.invariant some (sym c.in_ok-taken.ensures.close ∙ c.if-close.true)
    c.in_ok-taken.ensures.state c.in_ok-taken.ensures.printed c.in_ok-print_closed.ensures.printed

pub loop-rest-preserved : goal.loop-rest-preserved
loop-rest-preserved g c =
    let some : 0 < length c.loop-rest.rest.now = search rules in
    more_fed c.args.number c.args.now c.args.peer.now c.args.adapter.now c.loop-rest.adapter c.feed_once.new.adapter c.args.piece.now
    c.loop-rest.rest.now _ (g.W.Write.contents c.args.output.now) (g.W.Write.contents c.loop-rest.output)
    (g.W.Write.contents c.feed_once.new.output) c.in_ok-taken.taken c.loop-rest.invariant some (sym c.in_ok-taken.ensures.close ∙ c.if-close.false)
    c.in_ok-taken.ensures.state c.in_ok-taken.ensures.taken (bytes_from c.in_ok-taken.taken c.loop-rest.rest.now) c.in_ok-taken.ensures.printed

pub returns-clause-fed : goal.returns-clause-fed
returns-clause-fed g c =
    let none : length c.loop-rest.rest.now ≡ 0 = search rules in
    fed_whole c.args.number c.args.now c.args.peer.now c.args.adapter.now c.loop-rest.adapter c.args.piece.now c.loop-rest.rest.now
    (g.W.Write.contents c.args.output.now) (g.W.Write.contents c.loop-rest.output) c.loop-rest.invariant none
