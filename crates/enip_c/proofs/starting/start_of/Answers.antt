use Rattle.enip_config.specs.declared.key.NumberKey.TheVariants.{Peers, Connections, FirstHandle, FirstId}
use Rattle.enip_c.proofs.StartLemmas as lemma
use Rattle.enip_c.proofs.starting.start_of.Goals as goal

pub invariant_of-result-clause-accepted : goal.invariant_of-result-clause-accepted
invariant_of-result-clause-accepted c =
    lemma.accepted c.args.configuration.objects c.into_objects.result c.into_objects.ensures c.requires.accepted

pub invariant_of-result-clause-slots_from : goal.invariant_of-result-clause-slots_from
invariant_of-result-clause-slots_from c =
    lemma.slots_from c.args.life c.args.configuration.ledger _ c.requires.ledger c.ledger_if_any.ensures

pub invariant_of-result-clause-slots_to : goal.invariant_of-result-clause-slots_to
invariant_of-result-clause-slots_to c =
    lemma.slots_to c.args.life c.args.configuration.ledger _ c.requires.ledger c.ledger_if_any.ensures

pub invariant_of-result-clause-peers_from : goal.invariant_of-result-clause-peers_from
invariant_of-result-clause-peers_from c = (c.requires.numbers Peers).0

pub invariant_of-result-clause-peers_to : goal.invariant_of-result-clause-peers_to
invariant_of-result-clause-peers_to c = (c.requires.numbers Peers).1

pub invariant_of-result-clause-connections_from : goal.invariant_of-result-clause-connections_from
invariant_of-result-clause-connections_from c = (c.requires.numbers Connections).0

pub invariant_of-result-clause-connections_to : goal.invariant_of-result-clause-connections_to
invariant_of-result-clause-connections_to c = (c.requires.numbers Connections).1

pub invariant_of-result-clause-handle : goal.invariant_of-result-clause-handle
invariant_of-result-clause-handle c = (c.requires.numbers FirstHandle).0

pub invariant_of-result-clause-id : goal.invariant_of-result-clause-id
invariant_of-result-clause-id c = (c.requires.numbers FirstId).0
