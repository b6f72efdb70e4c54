use Rattle.std.proofs.Common.{◌≡◌, ◌<◌, ◌+◌, ◌-◌, ◌++◌, length, take, drop, refl, sym, ap, ◌∙◌, true, false, Ok, Err, arith, length-drop}
use Rattle.std.proofs.lemmas.Result.{err_from_is_err_and}
use Rattle.cip_bytes.proofs.Bytes.{rest_slice}
use Rattle.enip_wire.specs.Stream.{bytes_taken}
use Rattle.enip_client.proofs.HearingLemmas.{none_fed, fed_more, so_far_of, piece_of_fault, piece_of_step, slice_bytes, healthy_step, front_more}
use Rattle.enip_client.proofs.asking.feed_piece.Goals as goal

pub loop-heard-init : goal.loop-heard-init
loop-heard-init g c = record {
  within = omega arith;
  failures = refl;
  some = λ ended. let no : true ≡ false = sym c.requires.awaiting ∙ ended in cc;
  healthy = λ w. c.requires.healthy;
  so_far = λ partial sent. none_fed c.args.asked c.args.step
      (record { client = c.args.client.now; written = g.W.Sink.written c.args.writer.now; reply = c.args.reply.now.items }) sent partial;
}

pub returns-in_err-progress-clause-heard : goal.returns-in_err-progress-clause-heard
returns-in_err-progress-clause-heard g c partial sent =
    let p = err_from_is_err_and c.from_residual.result c.from_residual.ensures.1 in
    let rest = take (length c.args.piece.now - c.loop-heard.heard) (drop c.loop-heard.heard c.args.piece.now) in
    let waits = sym (c.if-awaits.ensures) in
    piece_of_fault c.args.asked c.args.step c.args.piece.now c.loop-heard.heard rest
    (record { client = c.args.client.now; written = g.W.Sink.written c.args.writer.now; reply = c.args.reply.now.items })
    (record { client = c.loop-heard.client; written = g.W.Sink.written c.loop-heard.writer; reply = c.loop-heard.reply.items })
    (record { client = c.advance.new.client; written = g.W.Sink.written c.advance.new.writer; reply = c.advance.new.reply.items })
    c.in_err-progress.field-0.0 c.from_residual.result sent (rest_slice c.loop-heard.heard c.args.piece.now) (p.1 ∙ ap (λ x. Err x) p.2)
    c.loop-heard-test.true c.in_err-progress.ensures.some_fed
    (fed_more c.args.asked c.args.step c.loop-heard.step (take c.loop-heard.heard c.args.piece.now) rest
    (record { client = c.args.client.now; written = g.W.Sink.written c.args.writer.now; reply = c.args.reply.now.items })
    (record { client = c.loop-heard.client; written = g.W.Sink.written c.loop-heard.writer; reply = c.loop-heard.reply.items })
    (record { client = c.advance.new.client; written = g.W.Sink.written c.advance.new.writer; reply = c.advance.new.reply.items })
    (Err c.in_err-progress.field-0.0) sent (c.loop-heard.invariant.so_far partial sent) waits (c.loop-heard.invariant.healthy waits)
    (slice_bytes c.loop-heard.heard c.args.piece.now (λ i. omega (arith, c.type_inv.piece i))) c.in_err-progress.ensures.heard)

pub loop-heard-preserved : goal.loop-heard-preserved
loop-heard-preserved g c =
    let rest = take (length c.args.piece.now - c.loop-heard.heard) (drop c.loop-heard.heard c.args.piece.now) in
    let same : rest ≡ drop c.loop-heard.heard c.args.piece.now = rest_slice c.loop-heard.heard c.args.piece.now in
    let waits = sym (c.if-awaits.ensures) in
    record {
      within = omega (arith, c.in_ok-progress.ensures.within, ap length same, length-drop c.loop-heard.heard c.args.piece.now, c.loop-heard.invariant.within);
      failures = omega (arith, c.in_ok-progress.ensures.failures, c.loop-heard.invariant.failures);
      some = λ ended.
          let left : 0 < length rest = omega (arith, ap length same, length-drop c.loop-heard.heard c.args.piece.now, c.loop-heard-test.true) in
          omega (arith, c.in_ok-progress.ensures.some left);
      healthy = healthy_step c.advance.new.client.state c.in_ok-progress.progress.step c.in_ok-progress.ensures.healthy;
      so_far = λ partial sent.
          so_far_of c.args.asked c.args.step c.in_ok-progress.progress.step
          (take c.loop-heard.heard c.args.piece.now ++ take (bytes_taken c.loop-heard.client.held rest) rest)
          (take (c.loop-heard.heard + c.in_ok-progress.progress.taken) c.args.piece.now)
          (record { client = c.args.client.now; written = g.W.Sink.written c.args.writer.now; reply = c.args.reply.now.items })
          (record { client = c.advance.new.client; written = g.W.Sink.written c.advance.new.writer; reply = c.advance.new.reply.items })
          sent (sym (front_more c.loop-heard.heard c.in_ok-progress.progress.taken (bytes_taken c.loop-heard.client.held rest) c.args.piece.now rest same c.in_ok-progress.ensures.taken))
          (fed_more c.args.asked c.args.step c.loop-heard.step (take c.loop-heard.heard c.args.piece.now) rest
          (record { client = c.args.client.now; written = g.W.Sink.written c.args.writer.now; reply = c.args.reply.now.items })
          (record { client = c.loop-heard.client; written = g.W.Sink.written c.loop-heard.writer; reply = c.loop-heard.reply.items })
          (record { client = c.advance.new.client; written = g.W.Sink.written c.advance.new.writer; reply = c.advance.new.reply.items })
          (Ok c.in_ok-progress.progress.step) sent (c.loop-heard.invariant.so_far partial sent) waits (c.loop-heard.invariant.healthy waits)
          (slice_bytes c.loop-heard.heard c.args.piece.now (λ i. omega (arith, c.type_inv.piece i))) c.in_ok-progress.ensures.heard);
    }

pub returns-else-awaits-clause-heard : goal.returns-else-awaits-clause-heard
returns-else-awaits-clause-heard g c partial sent =
    piece_of_step c.args.asked c.args.step c.loop-heard.step c.args.piece.now c.loop-heard.heard
    (record { client = c.args.client.now; written = g.W.Sink.written c.args.writer.now; reply = c.args.reply.now.items })
    (record { client = c.loop-heard.client; written = g.W.Sink.written c.loop-heard.writer; reply = c.loop-heard.reply.items })
    sent (λ w. let no : true ≡ false = sym w ∙ sym c.if-awaits.ensures in cc) (λ any. c.loop-heard.invariant.some (sym c.if-awaits.ensures)) (c.loop-heard.invariant.so_far partial sent)

pub returns-after-loop-heard-clause-heard : goal.returns-after-loop-heard-clause-heard
returns-after-loop-heard-clause-heard g c partial sent =
    piece_of_step c.args.asked c.args.step c.loop-heard.step c.args.piece.now c.loop-heard.heard
    (record { client = c.args.client.now; written = g.W.Sink.written c.args.writer.now; reply = c.args.reply.now.items })
    (record { client = c.loop-heard.client; written = g.W.Sink.written c.loop-heard.writer; reply = c.loop-heard.reply.items })
    sent (λ w. c.loop-heard-test.false) (λ any. omega (arith, c.loop-heard-test.false)) (c.loop-heard.invariant.so_far partial sent)
