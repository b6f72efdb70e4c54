use Rattle.std.proofs.Common.{Ok, Err, sym, ap, ◌∙◌}
use Rattle.std.proofs.lemmas.Result.{err_from_is_err_and}
use Rattle.enip_client.specs.Asking.{lends, client_failure}
use Rattle.enip_client.specs.Calls.{resends}
use Rattle.enip_commands.specs.declared.turns.Turn.TheVariants as turns
use Rattle.enip_commands.specs.Sessions.{session_ends, lent_again}
use Rattle.enip_commands.proofs.TurnLemmas.{turn_sent, turn_not_sent, sent_by, again_lent, again_stays, again_refused}
use Rattle.enip_commands.proofs.turns.ask_again.Goals as goal

pub returns-in_default : goal.returns-in_default
returns-in_default g c =
    again_refused c.args.client.now.state (resends c.args.client.now.state)
    (session_ends c.args.client.now (g.R.Source.left c.args.reader.now) (g.R.Source.reads c.args.reader.now) (g.R.Source.failures c.args.reader.now) (g.W.Sink.written c.args.writer.now) (g.W.Sink.failures c.args.writer.now) c.args.reply.now.items)
    (session_ends c.resend.follows.lender-at-none (g.R.Source.left c.args.reader.now) (g.R.Source.reads c.args.reader.now) (g.R.Source.failures c.args.reader.now) (g.W.Sink.written c.args.writer.now) (g.W.Sink.failures c.args.writer.now) c.args.reply.now.items)
    c.in_default.ensures.lent
    (ap (λ client. session_ends client (g.R.Source.left c.args.reader.now) (g.R.Source.reads c.args.reader.now) (g.R.Source.failures c.args.reader.now) (g.W.Sink.written c.args.writer.now) (g.W.Sink.failures c.args.writer.now) c.args.reply.now.items) c.resend.follows.holds-at-none)

pub returns-in_err-send : goal.returns-in_err-send
returns-in_err-send g c =
    let p = err_from_is_err_and c.from_residual.result c.from_residual.ensures.1 in
    rw (p.1, p.2)
    (turn_not_sent (lends client_failure (lent_again c.args.client.now.state (resends c.args.client.now.state))) turns.Request
    (session_ends c.args.client.now (g.R.Source.left c.args.reader.now) (g.R.Source.reads c.args.reader.now) (g.R.Source.failures c.args.reader.now) (g.W.Sink.written c.args.writer.now) (g.W.Sink.failures c.args.writer.now) c.args.reply.now.items)
    (session_ends c.resend.follows.lender-at-none (g.R.Source.left c.args.reader.now) (g.R.Source.reads c.args.reader.now) (g.R.Source.failures c.args.reader.now) (g.W.Sink.written c.send.new.writer) (g.W.Sink.failures c.send.new.writer) c.args.reply.now.items)
    c.in_err-send.field-0.0
    (sent_by client_failure (lent_again c.args.client.now.state (resends c.args.client.now.state)) c.args.client.now c.resend.follows.lender-at-none (g.R.Source.left c.args.reader.now) (g.R.Source.reads c.args.reader.now) (g.R.Source.failures c.args.reader.now)
    (g.W.Sink.written c.args.writer.now) (g.W.Sink.written c.send.new.writer) (g.W.Sink.failures c.args.writer.now) (g.W.Sink.failures c.send.new.writer)
    c.args.reply.now.items c.in-Some.frame.now (Err c.in_err-send.field-0.0)
    (again_lent c.args.client.now.state (resends c.args.client.now.state) c.in-Some.frame.now c.in-Some.ensures.lent)
    (c.resend.follows.holds-at-none ∙ sym (again_stays c.args.client.now (resends c.args.client.now.state))) c.in_err-send.ensures))

pub returns : goal.returns
returns g c =
    turn_sent (lends client_failure (lent_again c.args.client.now.state (resends c.args.client.now.state))) turns.Request
    (session_ends c.args.client.now (g.R.Source.left c.args.reader.now) (g.R.Source.reads c.args.reader.now) (g.R.Source.failures c.args.reader.now) (g.W.Sink.written c.args.writer.now) (g.W.Sink.failures c.args.writer.now) c.args.reply.now.items)
    (session_ends c.resend.follows.lender-at-none (g.R.Source.left c.args.reader.now) (g.R.Source.reads c.args.reader.now) (g.R.Source.failures c.args.reader.now) (g.W.Sink.written c.send.new.writer) (g.W.Sink.failures c.send.new.writer) c.args.reply.now.items)
    (session_ends c.await_answer.new.client (g.R.Source.left c.await_answer.new.reader) (g.R.Source.reads c.await_answer.new.reader) (g.R.Source.failures c.await_answer.new.reader) (g.W.Sink.written c.send.new.writer) (g.W.Sink.failures c.send.new.writer) c.await_answer.new.reply.items)
    c.await_answer.result
    (sent_by client_failure (lent_again c.args.client.now.state (resends c.args.client.now.state)) c.args.client.now c.resend.follows.lender-at-none (g.R.Source.left c.args.reader.now) (g.R.Source.reads c.args.reader.now) (g.R.Source.failures c.args.reader.now)
    (g.W.Sink.written c.args.writer.now) (g.W.Sink.written c.send.new.writer) (g.W.Sink.failures c.args.writer.now) (g.W.Sink.failures c.send.new.writer)
    c.args.reply.now.items c.in-Some.frame.now (Ok tt)
    (again_lent c.args.client.now.state (resends c.args.client.now.state) c.in-Some.frame.now c.in-Some.ensures.lent)
    (c.resend.follows.holds-at-none ∙ sym (again_stays c.args.client.now (resends c.args.client.now.state))) c.in_ok-send.ensures)
    (c.await_answer.ensures (g.W.Sink.written c.send.new.writer) (g.W.Sink.failures c.send.new.writer))
