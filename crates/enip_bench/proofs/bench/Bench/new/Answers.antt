use Rattle.std.proofs.Common.{arith}
use Rattle.enip_bench.proofs.BenchLemmas.{opening_reached}
use Rattle.enip_bench.proofs.bench.Bench.new.Goals as goal

pub invariant_of-result : goal.invariant_of-result
invariant_of-result c = record {
  reached = opening_reached c.args.adapter c.args.client _ c.requires.adapter c.requires.client c.in_ok-peer.ensures;
  counted = omega arith;
}
