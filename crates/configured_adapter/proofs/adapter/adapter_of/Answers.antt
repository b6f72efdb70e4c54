use Rattle.configured_adapter.proofs.adapter.adapter_of.Goals as goal

pub queued-requires-clause-peers_from : goal.queued-requires-clause-peers_from
queued-requires-clause-peers_from c = c.requires.limits.peers_from

pub queued-requires-clause-peers_to : goal.queued-requires-clause-peers_to
queued-requires-clause-peers_to c = c.requires.limits.peers_to

pub queued-requires-clause-connections_from : goal.queued-requires-clause-connections_from
queued-requires-clause-connections_from c = c.requires.limits.connections_from

pub queued-requires-clause-connections_to : goal.queued-requires-clause-connections_to
queued-requires-clause-connections_to c = c.requires.limits.connections_to

pub queued-requires-clause-handle : goal.queued-requires-clause-handle
queued-requires-clause-handle c = c.requires.limits.handle

pub queued-requires-clause-id : goal.queued-requires-clause-id
queued-requires-clause-id c = c.requires.limits.id
