use Rattle.enip_client.proofs.RunLemmas.{state-calls, lent-calls, heard_event-calls, each-call}
use Rattle.enip_client.proofs.laws.answers_of_events.Goals as goal

pub returns-clause-state : goal.returns-clause-state
returns-clause-state c = state-calls

pub returns-clause-lent : goal.returns-clause-lent
returns-clause-lent c = lent-calls

pub returns-clause-heard : goal.returns-clause-heard
returns-clause-heard c = heard_event-calls

pub returns-clause-each : goal.returns-clause-each
returns-clause-each c = each-call
