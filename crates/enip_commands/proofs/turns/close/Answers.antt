use Rattle.std.proofs.Common.{Ok}
use Rattle.enip_client.specs.Asking.{lends, client_failure}
use Rattle.enip_client.specs.Calls.{closes_over}
use Rattle.enip_commands.specs.declared.turns.Turn.TheVariants as turns
use Rattle.enip_commands.specs.Sessions.{session_ends}
use Rattle.enip_commands.proofs.TurnLemmas.{turn_sent, sent_by}
use Rattle.enip_commands.proofs.turns.close.Goals as goal

pub returns : goal.returns
returns g c =
    turn_sent (lends client_failure (closes_over c.args.route.now c.args.client.now.state)) turns.Close
    (session_ends c.args.client.now (g.R.Source.left c.args.reader.now) (g.R.Source.reads c.args.reader.now) (g.R.Source.failures c.args.reader.now) (g.W.Sink.written c.args.writer.now) (g.W.Sink.failures c.args.writer.now) c.args.reply.now.items)
    (session_ends c.close_over.follows.lender-at-none (g.R.Source.left c.args.reader.now) (g.R.Source.reads c.args.reader.now) (g.R.Source.failures c.args.reader.now) (g.W.Sink.written c.send.new.writer) (g.W.Sink.failures c.send.new.writer) c.args.reply.now.items)
    (session_ends c.await_answer.new.client (g.R.Source.left c.await_answer.new.reader) (g.R.Source.reads c.await_answer.new.reader) (g.R.Source.failures c.await_answer.new.reader) (g.W.Sink.written c.send.new.writer) (g.W.Sink.failures c.send.new.writer) c.await_answer.new.reply.items)
    c.await_answer.result
    (sent_by client_failure (closes_over c.args.route.now c.args.client.now.state) c.args.client.now c.close_over.follows.lender-at-none (g.R.Source.left c.args.reader.now) (g.R.Source.reads c.args.reader.now) (g.R.Source.failures c.args.reader.now)
    (g.W.Sink.written c.args.writer.now) (g.W.Sink.written c.send.new.writer) (g.W.Sink.failures c.args.writer.now) (g.W.Sink.failures c.send.new.writer)
    c.args.reply.now.items c.in_ok-frame.frame.now (Ok tt) c.in_ok-frame.ensures.lent c.close_over.follows.holds-at-none c.in_ok-send.ensures)
    (c.await_answer.ensures (g.W.Sink.written c.send.new.writer) (g.W.Sink.failures c.send.new.writer))
