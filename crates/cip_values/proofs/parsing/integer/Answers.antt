use Rattle.cip_values.proofs.ParsingLemmas.{negative_told, plain}
use Rattle.cip_values.proofs.parsing.integer.Goals as goal

pub returns-in_ok-number_of-in-Some : goal.returns-in_ok-number_of-in-Some
returns-in_ok-number_of-in-Some c =
    negative_told c.args.word.now c.in-Some.digits.now c.in_ok-number_of-in-Some.field-0 c.in-Some.ensures
    c.in_ok-number_of-in-Some.ensures.0 c.in_ok-number_of-in-Some.ensures.1

pub returns-in-None : goal.returns-in-None
returns-in-None c = plain c.args.word.now c.number_of-in-None.result c.in-None.ensures c.number_of-in-None.ensures
