use Rattle.enip_bench.proofs.RunLemmas.{are_steps, is_run}
use Rattle.enip_bench.proofs.laws.log_is_a_run.Goals as goal

pub returns-clause-steps : goal.returns-clause-steps
returns-clause-steps c = are_steps

pub returns-clause-run : goal.returns-clause-run
returns-clause-run c = is_run
