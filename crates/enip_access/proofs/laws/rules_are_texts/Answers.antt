use Rattle.enip_access.proofs.Rules.{rules_are_texts}
use Rattle.enip_access.proofs.laws.rules_are_texts.Goals as goal

pub returns : goal.returns
returns c = rules_are_texts
