use Rattle.enip_adapter.proofs.DeviceLemmas.{calls-end, calls-run, objects-end, commands-once, numbers-rise}
use Rattle.enip_adapter.proofs.LedgerStepLemmas.{calls-steps}
use Rattle.enip_adapter.proofs.laws.device_runs_requests.Goals as goal

pub returns-clause-device : goal.returns-clause-device
returns-clause-device c = calls-end

pub returns-clause-run : goal.returns-clause-run
returns-clause-run c = calls-run

pub returns-clause-steps : goal.returns-clause-steps
returns-clause-steps c = calls-steps

pub returns-clause-objects : goal.returns-clause-objects
returns-clause-objects c = objects-end

pub returns-clause-once : goal.returns-clause-once
returns-clause-once c = commands-once

pub returns-clause-rising : goal.returns-clause-rising
returns-clause-rising c = numbers-rise
