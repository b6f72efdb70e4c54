use Rattle.enip_client.proofs.CutLemmas.{cuts-heard_event, cuts-client, some-pour}
use Rattle.enip_client.proofs.laws.cuts_change_nothing.Goals as goal

pub returns-clause-heard_event : goal.returns-clause-heard_event
returns-clause-heard_event c = cuts-heard_event

pub returns-clause-client : goal.returns-clause-client
returns-clause-client c = cuts-client

pub returns-clause-some : goal.returns-clause-some
returns-clause-some c = some-pour
