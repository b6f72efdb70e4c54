use Rattle.enip_adapter.proofs.PeerLemmas.{session-calls, held-calls, connections-calls}
use Rattle.enip_adapter.proofs.laws.peers_apart.Goals as goal

pub returns-clause-session : goal.returns-clause-session
returns-clause-session c = session-calls

pub returns-clause-held : goal.returns-clause-held
returns-clause-held c = held-calls

pub returns-clause-connections : goal.returns-clause-connections
returns-clause-connections c = connections-calls
