use Rattle.std.proofs.Common.{◌≡◌, ◌≤◌, ◌-◌, length}
use Rattle.enip_adapter.proofs.ServeLemmas.{HasFed}
use Rattle.enip_adapter.proofs.serving.feed_all.Given as goal

abbrev pub invariant-loop-fed : goal.invariant-loop-fed
invariant-loop-fed g l = record {
  within : l.fed ≤ length l.piece;
  failures : g.W.Sink.failures l.writer ≡ g.W.Sink.failures l.fn.writer;
  so_far : HasFed l.now l.peer l.fn.adapter l.piece l.fed l.adapter (g.W.Sink.written l.fn.writer) (g.W.Sink.written l.writer);
}

abbrev pub decreases-loop-fed : goal.decreases-loop-fed
decreases-loop-fed g l = length l.piece - l.fed
