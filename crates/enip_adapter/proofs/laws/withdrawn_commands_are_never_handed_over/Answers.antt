use Rattle.enip_adapter.proofs.WithdrawnLemmas.{never-handed, slot-says, never-executed, no-earlier-waits}
use Rattle.enip_adapter.proofs.laws.withdrawn_commands_are_never_handed_over.Goals as goal

pub returns-clause-handed : goal.returns-clause-handed
returns-clause-handed c = never-handed

pub returns-clause-slot : goal.returns-clause-slot
returns-clause-slot c = slot-says

pub returns-clause-executed : goal.returns-clause-executed
returns-clause-executed c = never-executed

pub returns-clause-later : goal.returns-clause-later
returns-clause-later c = no-earlier-waits
