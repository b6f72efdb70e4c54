use Rattle.std.proofs.Common.{◌≡◌, ℕ, ◌+◌, ◌<◌, List, [], ◌∷◌, ◌++◌, codes, length, None, Some, Ok, refl, sym, ap, ◌∙◌, arith, rules}
use Rattle.std.specs.Fmt.{decimal}
use Rattle.std.proofs.lemmas.Fmt.{decimal_injective}
use Rattle.enip_commands.proofs.CommandFileLemmas.{decimal_no_feed, lines_agree}
use Rattle.enip_commands.proofs.command_file.read_number.Goals as goal

pub returns-in_err-digits-clause-lacking : goal.returns-in_err-digits-clause-lacking
returns-in_err-digits-clause-lacking c = λ none number rest fits e.
    c.in_err-digits.ensures.lacking refl (decimal number) rest (record { whole = e; one = decimal_no_feed number (omega arith) })

pub returns-in_err-read_decimal-clause-lacking : goal.returns-in_err-read_decimal-clause-lacking
returns-in_err-read_decimal-clause-lacking c = λ none number rest fits e.
    let agree = lines_agree (codes "number ") c.in_ok-digits.digits.now (decimal number) c.in_ok-digits.rest.now rest c.in_ok-digits.ensures.read.one (decimal_no_feed number (omega arith))
    (sym c.in_ok-digits.ensures.read.whole ∙ e) in
    c.in_err-read_decimal.ensures.lacking refl number (omega arith) agree.0

pub returns-in-Err-clause-lacking : goal.returns-in-Err-clause-lacking
returns-in-Err-clause-lacking c = λ none number rest fits e.
    let agree = lines_agree (codes "number ") c.in_ok-digits.digits.now (decimal number) c.in_ok-digits.rest.now rest c.in_ok-digits.ensures.read.one (decimal_no_feed number (omega arith))
    (sym c.in_ok-digits.ensures.read.whole ∙ e) in
    let spelled : decimal c.in_ok-read_decimal.field-0 ≡ decimal number = sym c.in_ok-read_decimal.ensures.read ∙ agree.0 in
    let same : c.in_ok-read_decimal.field-0 ≡ number = decimal_injective c.in_ok-read_decimal.field-0 number c.in_ok-read_decimal.ensures.fits (omega arith) spelled in
    c.in-Err.ensures (omega (arith, same))
