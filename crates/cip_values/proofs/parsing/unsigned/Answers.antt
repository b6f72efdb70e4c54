use Rattle.cip_values.proofs.ParsingLemmas.{sized_wide, sized_plain}
use Rattle.cip_values.proofs.parsing.unsigned.Goals as goal

pub returns-then-size-eq8 : goal.returns-then-size-eq8
returns-then-size-eq8 c =
    sized_wide c.args.size c.args.word.now c.bit_string.result c.if-size-eq8.true c.bit_string.ensures

pub returns-else-size-eq8 : goal.returns-else-size-eq8
returns-else-size-eq8 c =
    sized_plain c.args.size c.args.word.now c.integer.result c.if-size-eq8.false c.integer.ensures
