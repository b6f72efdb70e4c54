use Rattle.cip_ledger.proofs.WithdrawnAnswers.{withdrawn-answer}
use Rattle.cip_ledger.proofs.laws.withdraw_says_so.Goals as goal

pub returns : goal.returns
returns c = withdrawn-answer
