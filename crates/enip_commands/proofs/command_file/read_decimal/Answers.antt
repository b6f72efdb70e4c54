use Rattle.std.proofs.Common.{◌≡◌, ℕ, ◌+◌, ◌<◌, List, [], ◌∷◌, ◌++◌, codes, length, false, true, None, Some, Ok, refl, sym, ap, ◌∙◌, arith, rules}
use Rattle.enip_commands.proofs.CommandFileLemmas.{leading_zero, decimal_read, decimal_lacking}
use Rattle.enip_commands.proofs.command_file.read_decimal.Goals as goal

pub returns-then-has_leading_zero-clause-lacking : goal.returns-then-has_leading_zero-clause-lacking
returns-then-has_leading_zero-clause-lacking c = λ none number fits e.
    let zero_first = c.has_leading_zero.ensures.0 (search rules) in
    leading_zero c.args.digits.now number zero_first.0 zero_first.1 fits e

pub returns-clause-read : goal.returns-clause-read
returns-clause-read c =
    decimal_read c.args.digits.now c.decimal.result c.decimal.ensures (λ long zero_first.
    let found : false ≡ true = c.if-has_leading_zero.ensures.1 (long, zero_first) in absurd cc)

pub returns-clause-lacking : goal.returns-clause-lacking
returns-clause-lacking c = decimal_lacking c.args.digits.now c.decimal.result c.decimal.ensures
