use Rattle.std.proofs.Common.{Some, ap, ◌∙◌, arith, subst, take}
use Rattle.std.proofs.lemmas.List.{length-drop}
use Rattle.std.specs.Io.KnownBytes.{Appends}
use Rattle.enip_server.proofs.FlushLemmas.{from_index, more_written, write_reads, told_some}
use Rattle.enip_server.proofs.TurnLemmas.{still_after}
use Rattle.enip_server.proofs.peer_io.write_front.Goals as goal

pub loop-written-preserved : goal.loop-written-preserved
loop-written-preserved g c = record {
  within = omega (arith, c.in-Some.ensures.size, length-drop c.loop-written.written c.args.bytes.now);
  appended = more_written (g.W.Wire.written c.args.wire.now) (g.W.Wire.written c.loop-written.wire)
      (g.W.Wire.written c.write.new.self) c.args.bytes.now c.loop-written.written c.in-Some.size
      c.loop-written.invariant.appended
      (subst (λ rest. Appends (g.W.Wire.written c.loop-written.wire) (g.W.Wire.written c.write.new.self)
      (take c.in-Some.size rest)) (from_index c.args.bytes.now c.loop-written.written) c.in-Some.ensures.written);
  left = c.in-Some.ensures.left ∙ c.loop-written.invariant.left;
  known = c.in-Some.ensures.known ∙ c.loop-written.invariant.known;
  reads = ap (λ t. t.reads) c.in-Some.ensures.counts
      ∙ write_reads (Some c.in-Some.size) (g.W.Wire.counts c.loop-written.wire) ∙ c.loop-written.invariant.reads;
  goes_on = still_after (g.W.Wire.counts c.args.wire.now) (g.W.Wire.counts c.loop-written.wire)
      (g.W.Wire.counts c.write.new.self) c.loop-written.invariant.goes_on
      (told_some c.in-Some.size (g.W.Wire.counts c.loop-written.wire) (g.W.Wire.counts c.write.new.self)
      c.in-Some.size-test.1 c.in-Some.ensures.counts);
}
