use Rattle.std.proofs.Common.{take, refl, sym, subst, Ok, Err, arith}
use Rattle.std.proofs.lemmas.Result.{err_from_is_err_and}
use Rattle.std.specs.Io.KnownBytes.{Appends}
use Rattle.enip_client.specs.Calls.{registers}
use Rattle.enip_client.specs.Asking.{ends}
use Rattle.enip_client.proofs.AskedLemmas.{asked_fault, asked_done, asked_read, come_on, start_refused, start_sent, start_broken, start_healthy, lent_ok, lent_err, size_read}
use Rattle.enip_client.proofs.HearingLemmas.{healthy_step}
use Rattle.enip_client.proofs.asking.ask_over.Goals as goal

pub returns-in_err-frame-clause-asked : goal.returns-in_err-frame-clause-asked
returns-in_err-frame-clause-asked g c =
    let p = err_from_is_err_and c.from_residual.result c.from_residual.ensures.1 in
    rw (p.1, p.2)
    (asked_fault (record { route = c.args.route; request = c.args.request; connected = c.args.connected })
    (ends c.args.client.now (g.R.Source.left c.args.reader.now) (g.R.Source.reads c.args.reader.now) (g.W.Sink.written c.args.writer.now) c.args.reply.now.items)
    (ends c.register.follows.lender-at-none (g.R.Source.left c.args.reader.now) (g.R.Source.reads c.args.reader.now) (g.W.Sink.written c.args.writer.now) c.args.reply.now.items)
    _ (start_refused (record { route = c.args.route; request = c.args.request; connected = c.args.connected })
    (ends c.args.client.now (g.R.Source.left c.args.reader.now) (g.R.Source.reads c.args.reader.now) (g.W.Sink.written c.args.writer.now) c.args.reply.now.items)
    c.register.follows.lender-at-none c.in_err-frame.field-0.0
    (lent_err (registers c.args.client.now.state) c.in_err-frame.field-0.0 c.in_err-frame.ensures.lent)
    c.register.follows.holds-at-none c.in_err-frame.ensures.held))

pub returns-in_err-send-clause-asked : goal.returns-in_err-send-clause-asked
returns-in_err-send-clause-asked g c =
    let p = err_from_is_err_and c.from_residual-in_err-send.result c.from_residual-in_err-send.ensures.1 in
    let l = lent_ok (registers c.args.client.now.state) c.in_ok-frame.frame.now c.in_ok-frame.ensures.lent in
    rw (p.1, p.2)
    (asked_fault (record { route = c.args.route; request = c.args.request; connected = c.args.connected })
    (ends c.args.client.now (g.R.Source.left c.args.reader.now) (g.R.Source.reads c.args.reader.now) (g.W.Sink.written c.args.writer.now) c.args.reply.now.items)
    (ends c.register.follows.lender-at-none (g.R.Source.left c.args.reader.now) (g.R.Source.reads c.args.reader.now) (g.W.Sink.written c.send.new.writer) c.args.reply.now.items)
    c.in_err-send.field-0.0 (start_broken (record { route = c.args.route; request = c.args.request; connected = c.args.connected })
    (ends c.args.client.now (g.R.Source.left c.args.reader.now) (g.R.Source.reads c.args.reader.now) (g.W.Sink.written c.args.writer.now) c.args.reply.now.items)
    c.register.follows.lender-at-none (g.W.Sink.written c.send.new.writer) l.0 c.in_ok-frame.frame.now c.in_err-send.field-0.0 l.1 l.2
    c.register.follows.holds-at-none c.in_ok-frame.ensures.held c.in_err-send.ensures.written))

pub loop-asked-init : goal.loop-asked-init
loop-asked-init g c =
    let l = lent_ok (registers c.args.client.now.state) c.in_ok-frame.frame.now c.in_ok-frame.ensures.lent in
    record {
      read_failures = refl;
      write_failures = omega (arith, c.in_ok-send.ensures.failures);
      healthy = λ w. rw (c.register.follows.holds-at-none, l.1) (start_healthy c.args.client.now.state l.0 l.1);
      so_far = start_sent (record { route = c.args.route; request = c.args.request; connected = c.args.connected })
          (ends c.args.client.now (g.R.Source.left c.args.reader.now) (g.R.Source.reads c.args.reader.now) (g.W.Sink.written c.args.writer.now) c.args.reply.now.items)
          c.register.follows.lender-at-none (g.W.Sink.written c.send.new.writer) l.0 l.1 c.register.follows.holds-at-none c.in_ok-frame.ensures.held
          (subst (Appends (g.W.Sink.written c.args.writer.now) (g.W.Sink.written c.send.new.writer)) l.2 c.in_ok-send.ensures.written);
    }

pub returns-in_err-size-clause-asked : goal.returns-in_err-size-clause-asked
returns-in_err-size-clause-asked g c =
    let p = err_from_is_err_and c.from_residual-in_err-size.result c.from_residual-in_err-size.ensures.1 in
    rw (p.1, p.2)
    (asked_read (record { route = c.args.route; request = c.args.request; connected = c.args.connected }) c.loop-asked.step
    (ends c.args.client.now (g.R.Source.left c.args.reader.now) (g.R.Source.reads c.args.reader.now) (g.W.Sink.written c.args.writer.now) c.args.reply.now.items)
    (ends c.loop-asked.client (g.R.Source.left c.loop-asked.reader) (g.R.Source.reads c.loop-asked.reader) (g.W.Sink.written c.loop-asked.writer) c.loop-asked.reply.items)
    (g.R.Source.left c.read.new.reader) (g.R.Source.reads c.read.new.reader) c.read.new.into c.in_err-size.field-0.0
    c.loop-asked.invariant.so_far (sym c.loop-asked-test.ensures) c.in_err-size.ensures.bytes)

pub returns-in_err-step-clause-asked : goal.returns-in_err-step-clause-asked
returns-in_err-step-clause-asked g c =
    let p = err_from_is_err_and c.from_residual-in_err-step.result c.from_residual-in_err-step.ensures.1 in
    rw (p.1, p.2)
    (asked_fault (record { route = c.args.route; request = c.args.request; connected = c.args.connected })
    (ends c.args.client.now (g.R.Source.left c.args.reader.now) (g.R.Source.reads c.args.reader.now) (g.W.Sink.written c.args.writer.now) c.args.reply.now.items)
    (ends c.feed_piece.new.client (g.R.Source.left c.read.new.reader) (g.R.Source.reads c.read.new.reader) (g.W.Sink.written c.feed_piece.new.writer) c.feed_piece.new.reply.items)
    c.in_err-step.field-0.0 (come_on (record { route = c.args.route; request = c.args.request; connected = c.args.connected }) c.loop-asked.step
    (ends c.args.client.now (g.R.Source.left c.args.reader.now) (g.R.Source.reads c.args.reader.now) (g.W.Sink.written c.args.writer.now) c.args.reply.now.items)
    (ends c.loop-asked.client (g.R.Source.left c.loop-asked.reader) (g.R.Source.reads c.loop-asked.reader) (g.W.Sink.written c.loop-asked.writer) c.loop-asked.reply.items)
    (ends c.feed_piece.new.client (g.R.Source.left c.read.new.reader) (g.R.Source.reads c.read.new.reader) (g.W.Sink.written c.feed_piece.new.writer) c.feed_piece.new.reply.items)
    (take c.in_ok-size.size c.read.new.into) c.in_ok-size.size (Err c.in_err-step.field-0.0) c.loop-asked.invariant.so_far
    (sym c.loop-asked-test.ensures) c.in_ok-size.ensures.bytes.0
    (size_read c.in_ok-size.size c.read.new.into c.in_ok-size.ensures.within c.in_ok-size.ensures.room)
    c.in_ok-size.ensures.bytes.1 c.in_ok-size.ensures.within
    c.in_err-step.ensures.heard))

pub loop-asked-preserved : goal.loop-asked-preserved
loop-asked-preserved g c = record {
  read_failures = omega (arith, c.in_ok-size.ensures.failures, c.loop-asked.invariant.read_failures);
  write_failures = omega (arith, c.in_ok-step.ensures.failures, c.loop-asked.invariant.write_failures);
  healthy = healthy_step c.feed_piece.new.client.state c.in_ok-step.step c.in_ok-step.ensures.healthy;
  so_far = come_on (record { route = c.args.route; request = c.args.request; connected = c.args.connected }) c.loop-asked.step
      (ends c.args.client.now (g.R.Source.left c.args.reader.now) (g.R.Source.reads c.args.reader.now) (g.W.Sink.written c.args.writer.now) c.args.reply.now.items)
      (ends c.loop-asked.client (g.R.Source.left c.loop-asked.reader) (g.R.Source.reads c.loop-asked.reader) (g.W.Sink.written c.loop-asked.writer) c.loop-asked.reply.items)
      (ends c.feed_piece.new.client (g.R.Source.left c.read.new.reader) (g.R.Source.reads c.read.new.reader) (g.W.Sink.written c.feed_piece.new.writer) c.feed_piece.new.reply.items)
      (take c.in_ok-size.size c.read.new.into) c.in_ok-size.size (Ok c.in_ok-step.step) c.loop-asked.invariant.so_far
      (sym c.loop-asked-test.ensures) c.in_ok-size.ensures.bytes.0
      (size_read c.in_ok-size.size c.read.new.into c.in_ok-size.ensures.within c.in_ok-size.ensures.room)
      c.in_ok-size.ensures.bytes.1 c.in_ok-size.ensures.within
      c.in_ok-step.ensures.heard;
}

pub returns-clause-asked : goal.returns-clause-asked
returns-clause-asked g c =
    asked_done (record { route = c.args.route; request = c.args.request; connected = c.args.connected })
    (ends c.args.client.now (g.R.Source.left c.args.reader.now) (g.R.Source.reads c.args.reader.now) (g.W.Sink.written c.args.writer.now) c.args.reply.now.items)
    (ends c.loop-asked.client (g.R.Source.left c.loop-asked.reader) (g.R.Source.reads c.loop-asked.reader) (g.W.Sink.written c.loop-asked.writer) c.loop-asked.reply.items)
    c.loop-asked.step c.loop-asked.invariant.so_far (sym c.loop-asked-test.ensures)
