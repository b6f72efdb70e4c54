use Rattle.std.proofs.Common.{rules}
use Rattle.cip_names.proofs.NumberLemmas.{all-from_digits}
use Rattle.cip_names.proofs.numbers.hexadecimal.Goals as goal

pub returns-then-not-are_digits : goal.returns-then-not-are_digits
returns-then-not-are_digits c = λ numeral below.
    let all = all-from_digits 16 c.args.digits.now numeral.1 in
    search (rules, all)
