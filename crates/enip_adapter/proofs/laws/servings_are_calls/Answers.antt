use Rattle.enip_adapter.proofs.ActionLemmas.{deeds_stand, deeds_for_other}
use Rattle.enip_adapter.proofs.laws.servings_are_calls.Goals as goal

pub returns-clause-calls : goal.returns-clause-calls
returns-clause-calls c = deeds_stand

pub returns-clause-others : goal.returns-clause-others
returns-clause-others c = deeds_for_other
