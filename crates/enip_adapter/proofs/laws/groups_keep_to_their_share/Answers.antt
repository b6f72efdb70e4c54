use Rattle.enip_adapter.proofs.ConnectionShareLemmas.{connections-within}
use Rattle.enip_adapter.proofs.ShareLemmas.{peers-within, refused-begin, under-share, slot-for-each}
use Rattle.enip_adapter.proofs.laws.groups_keep_to_their_share.Goals as goal

pub returns-clause-peers : goal.returns-clause-peers
returns-clause-peers c = peers-within

pub returns-clause-refused : goal.returns-clause-refused
returns-clause-refused c = refused-begin

pub returns-clause-under : goal.returns-clause-under
returns-clause-under c = under-share

pub returns-clause-slot : goal.returns-clause-slot
returns-clause-slot c = slot-for-each

pub returns-clause-connections : goal.returns-clause-connections
returns-clause-connections c = connections-within
