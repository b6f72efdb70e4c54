use Rattle.enip_adapter.proofs.ReaderLemmas.{readers-change-nothing, readers-ask-nothing}
use Rattle.enip_adapter.proofs.laws.readers_change_nothing.Goals as goal

pub returns-clause-device : goal.returns-clause-device
returns-clause-device c = readers-change-nothing

pub returns-clause-owner : goal.returns-clause-owner
returns-clause-owner c = readers-ask-nothing
