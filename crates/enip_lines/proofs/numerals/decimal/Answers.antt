use Rattle.std.proofs.Common.{◌≡◌, ◌<◌, ◌+◌, ◌*◌, get_or, rules, arith}
use Rattle.std.specs.Char.{digit_value}
use Rattle.std.specs.Int.{IsInRange}
use Rattle.std.proofs.lemmas.Str.{digit_value_digit}
use Rattle.std.proofs.lemmas.List.{drop_all}
use Rattle.enip_lines.proofs.DecimalLemmas.{next_least}
use Rattle.enip_lines.proofs.numerals.decimal.Goals as goal

pub returns-in_err-checked_mul : goal.returns-in_err-checked_mul
returns-in_err-checked_mul c =
    let (value, to, from, fits) = c.loop-digit.invariant in
    let over : (c.loop-digit.number * 10 < 18446744073709551616) → ⊥ = rw c.in_err-checked_mul.was at c.checked_mul.ensures in
    let least = next_least c.loop-digit.number c.loop-digit.digit-index c.args.digits.now c.loop-digit-test.true in
    rw c.from_residual.ensures (λ p. over (omega (arith, least, value, p.1)))

pub returns-in_err-number : goal.returns-in_err-number
returns-in_err-number c =
    let (value, to, from, fits) = c.loop-digit.invariant in
    let over : (c.in_ok-checked_mul.field-0 + c.from.result < 18446744073709551616) → ⊥ = rw c.in_err-number.was at c.checked_add.ensures in
    let tens : c.in_ok-checked_mul.field-0 ≡ c.loop-digit.number * 10 = search rules in
    let digit = get_or c.args.digits.now c.loop-digit.digit-index 0 in
    let range : IsInRange 48 57 digit = search rules in
    let ones : c.from.result ≡ digit_value digit = omega (arith, c.from.ensures, digit_value_digit digit range) in
    let least = next_least c.loop-digit.number c.loop-digit.digit-index c.args.digits.now c.loop-digit-test.true in
    rw c.from_residual-in_err-number.ensures (λ p. over (omega (arith, least, value, tens, ones, p.1)))

pub returns : goal.returns
returns c =
    let (value, to, from, fits) = c.loop-digit.invariant in
    let none = drop_all c.loop-digit.digit-index c.args.digits.now (search rules) in
    let same = rw none at value in
    (((search rules, from (rw none tt)), omega (arith, same, fits)), same)
