use Rattle.enip_adapter.proofs.AskedLemmas.{one-asked, asked-alike, repeat-asks, given-feed, unasked-feed, nobody-feed}
use Rattle.enip_adapter.proofs.AskedLemmas.{answered, calls-ask, asked-once}
use Rattle.enip_adapter.proofs.laws.owner_is_asked.Goals as goal

pub returns-clause-one : goal.returns-clause-one
returns-clause-one c = one-asked

pub returns-clause-alike : goal.returns-clause-alike
returns-clause-alike c = asked-alike

pub returns-clause-repeat : goal.returns-clause-repeat
returns-clause-repeat c = repeat-asks

pub returns-clause-given : goal.returns-clause-given
returns-clause-given c = given-feed

pub returns-clause-answered : goal.returns-clause-answered
returns-clause-answered c = answered

pub returns-clause-unasked : goal.returns-clause-unasked
returns-clause-unasked c = unasked-feed

pub returns-clause-nobody : goal.returns-clause-nobody
returns-clause-nobody c = nobody-feed

pub returns-clause-calls : goal.returns-clause-calls
returns-clause-calls c = calls-ask

pub returns-clause-once : goal.returns-clause-once
returns-clause-once c = asked-once
