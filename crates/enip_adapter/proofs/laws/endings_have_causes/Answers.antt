use Rattle.enip_adapter.proofs.CauseLemmas.{causes-reasons, causes-closed}
use Rattle.enip_adapter.proofs.laws.endings_have_causes.Goals as goal

pub returns-clause-reasons : goal.returns-clause-reasons
returns-clause-reasons c = causes-reasons

pub returns-clause-closed : goal.returns-clause-closed
returns-clause-closed c = causes-closed
