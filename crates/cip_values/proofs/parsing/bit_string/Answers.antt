use Rattle.cip_values.proofs.ParsingLemmas.{hexadecimal, bits}
use Rattle.cip_values.proofs.parsing.bit_string.Goals as goal

pub returns-in-Some : goal.returns-in-Some
returns-in-Some c = hexadecimal c.args.word.now c.in-Some.digits.now c.number_of.result c.in-Some.ensures c.number_of.ensures

pub returns-in-None : goal.returns-in-None
returns-in-None c = bits c.args.word.now c.integer.result c.in-None.ensures c.integer.ensures
