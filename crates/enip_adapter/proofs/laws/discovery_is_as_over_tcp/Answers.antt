use Rattle.enip_adapter.proofs.DiscoveryLemmas.{answered_to_call, left_by_call}
use Rattle.enip_adapter.proofs.laws.discovery_is_as_over_tcp.Goals as goal

pub returns-clause-answer : goal.returns-clause-answer
returns-clause-answer c = answered_to_call

pub returns-clause-adapter : goal.returns-clause-adapter
returns-clause-adapter c = left_by_call
