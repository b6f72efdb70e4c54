use Rattle.enip_client.proofs.FaultLemmas.{same-client, none-lent, none-heard, none-taken, all-answer}
use Rattle.enip_client.proofs.laws.faults_last.Goals as goal

pub returns-clause-same : goal.returns-clause-same
returns-clause-same c = same-client

pub returns-clause-lent : goal.returns-clause-lent
returns-clause-lent c = none-lent

pub returns-clause-heard : goal.returns-clause-heard
returns-clause-heard c = none-heard

pub returns-clause-taken : goal.returns-clause-taken
returns-clause-taken c = none-taken

pub returns-clause-answered : goal.returns-clause-answered
returns-clause-answered c = all-answer
