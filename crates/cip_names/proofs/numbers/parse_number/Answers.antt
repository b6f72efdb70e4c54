use Rattle.std.proofs.Common.{rules}
use Rattle.cip_names.proofs.NumberLemmas.{none_within}
use Rattle.cip_names.proofs.numbers.parse_number.Goals as goal

pub returns-in_default : goal.returns-in_default
returns-in_default c =
    none_within c.args.least c.args.most c.args.text.now c.ranges.most.fits (search rules)
