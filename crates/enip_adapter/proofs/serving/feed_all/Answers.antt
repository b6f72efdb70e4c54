use Rattle.std.proofs.Common.{◌≡◌, ◌-◌, length, take, drop, ap, arith, length-drop}
use Rattle.cip_bytes.proofs.Bytes.{rest_slice}
use Rattle.enip_adapter.proofs.ActionLemmas.{fed_feeds, one_more}
use Rattle.enip_adapter.proofs.ServeLemmas.{more_fed}
use Rattle.enip_adapter.proofs.serving.feed_all.Goals as goal

pub loop-fed-preserved : goal.loop-fed-preserved
loop-fed-preserved g c =
    let same : take (length c.args.piece.now - c.loop-fed.fed) (drop c.loop-fed.fed c.args.piece.now) ≡ drop c.loop-fed.fed c.args.piece.now
    = rest_slice c.loop-fed.fed c.args.piece.now in
    record {
      within = omega (arith, c.in_ok-taken.ensures.within, ap length same, length-drop c.loop-fed.fed c.args.piece.now, c.loop-fed.invariant.within);
      failures = omega (arith, c.in_ok-taken.ensures.failures, c.loop-fed.invariant.failures);
      so_far = more_fed c.args.now c.args.peer.now c.args.adapter.now c.loop-fed.adapter c.feed_once.new.adapter c.args.piece.now
          (take (length c.args.piece.now - c.loop-fed.fed) (drop c.loop-fed.fed c.args.piece.now)) c.loop-fed.fed c.in_ok-taken.taken c.in_ok-taken.close
          (g.W.Sink.written c.args.writer.now) (g.W.Sink.written c.loop-fed.writer) (g.W.Sink.written c.feed_once.new.writer)
          c.loop-fed.invariant.so_far c.loop-fed-test.true same c.feed_once.ensures.state c.in_ok-taken.ensures.taken
          c.in_ok-taken.ensures.close c.if-close.false c.in_ok-taken.ensures.bytes;
    }

pub returns-in_err-taken-clause-feeds : goal.returns-in_err-taken-clause-feeds
returns-in_err-taken-clause-feeds g c =
    one_more c.args.now c.args.peer.now c.args.adapter.now c.loop-fed.adapter c.feed_once.new.adapter
    (take (length c.args.piece.now - c.loop-fed.fed) (drop c.loop-fed.fed c.args.piece.now))
    (fed_feeds c.args.now c.args.peer.now c.args.adapter.now c.loop-fed.adapter c.args.piece.now c.loop-fed.fed
    (g.W.Sink.written c.args.writer.now) (g.W.Sink.written c.loop-fed.writer) c.loop-fed.invariant.so_far) c.feed_once.ensures.state

pub returns-then-close-clause-feeds : goal.returns-then-close-clause-feeds
returns-then-close-clause-feeds g c =
    one_more c.args.now c.args.peer.now c.args.adapter.now c.loop-fed.adapter c.feed_once.new.adapter
    (take (length c.args.piece.now - c.loop-fed.fed) (drop c.loop-fed.fed c.args.piece.now))
    (fed_feeds c.args.now c.args.peer.now c.args.adapter.now c.loop-fed.adapter c.args.piece.now c.loop-fed.fed
    (g.W.Sink.written c.args.writer.now) (g.W.Sink.written c.loop-fed.writer) c.loop-fed.invariant.so_far) c.feed_once.ensures.state

pub returns-clause-feeds : goal.returns-clause-feeds
returns-clause-feeds g c =
    fed_feeds c.args.now c.args.peer.now c.args.adapter.now c.loop-fed.adapter c.args.piece.now c.loop-fed.fed
    (g.W.Sink.written c.args.writer.now) (g.W.Sink.written c.loop-fed.writer) c.loop-fed.invariant.so_far
