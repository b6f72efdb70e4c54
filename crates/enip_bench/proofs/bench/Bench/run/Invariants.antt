use Rattle.enip_bench.proofs.BenchLemmas.{RunsTo}
use Rattle.enip_bench.proofs.bench.Bench.run.Given as goal

-- the events before this position were done
abbrev pub invariant-loop-position : goal.invariant-loop-position
invariant-loop-position l = RunsTo l.fn.self l.events l.position l.self-inside.world
