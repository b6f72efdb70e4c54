use Rattle.std.proofs.Common.{rules}
use Rattle.std.proofs.lemmas.Int.{ints}
use Rattle.cip_values.specs.Types.{IsSized}
use Rattle.cip_values.proofs.ParsingLemmas.{unsigned_beyond}
use Rattle.cip_values.proofs.parsing.parse_word.Goals as goal

pub returns-then-not-fits_unsigned-clause-missed : goal.returns-then-not-fits_unsigned-clause-missed
returns-then-not-fits_unsigned-clause-missed c =
    let sized : IsSized c.args.form = c.requires in
    let both = rw c.in-Unsigned.is at sized in
    rw c.in-Unsigned.is (unsigned_beyond c.in-Unsigned.size c.args.word.now c.in_ok-number-in-Unsigned.number _ both.1
    c.in_ok-number-in-Unsigned.ensures (search (rules, ints))
    (λ fits. absurd (let is = c.if-not-fits_unsigned.ensures.1 fits in cc)))
