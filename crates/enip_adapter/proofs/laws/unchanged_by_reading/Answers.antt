use Rattle.enip_adapter.proofs.ReadingLemmas.{unchanged, nothing-asked}
use Rattle.enip_adapter.proofs.laws.unchanged_by_reading.Goals as goal

pub returns-clause-device : goal.returns-clause-device
returns-clause-device c = unchanged

pub returns-clause-owner : goal.returns-clause-owner
returns-clause-owner c = nothing-asked
