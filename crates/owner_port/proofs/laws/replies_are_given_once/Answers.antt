use Rattle.owner_port.proofs.QuestionLemmas.{given_once, given_to_asked}
use Rattle.owner_port.proofs.laws.replies_are_given_once.Goals as goal

pub returns : goal.returns
returns c = record { once = given_once; asked = given_to_asked }
