use Rattle.std.proofs.Common.{◌≡◌, ℕ, ◌+◌, ◌<◌, List, [], ◌∷◌, ◌++◌, codes, length, None, Some, Ok, refl, sym, ap, ◌∙◌, arith, rules}
use Rattle.std.specs.Fmt.{decimal}
use Rattle.enip_commands.proofs.CommandFileLemmas.{decimal_no_feed, lines_agree}
use Rattle.enip_commands.proofs.command_file.read_life.Goals as goal

pub returns-in_err-digits-clause-lacking : goal.returns-in_err-digits-clause-lacking
returns-in_err-digits-clause-lacking c = λ none life rest fits e.
    c.in_err-digits.ensures.lacking refl (decimal life) rest (record { whole = e; one = decimal_no_feed life fits })

pub returns-in_err-read_decimal-clause-lacking : goal.returns-in_err-read_decimal-clause-lacking
returns-in_err-read_decimal-clause-lacking c = λ none life rest fits e.
    let agree = lines_agree (codes "life ") c.in_ok-digits.digits.now (decimal life) c.in_ok-digits.rest.now rest c.in_ok-digits.ensures.read.one (decimal_no_feed life fits)
    (sym c.in_ok-digits.ensures.read.whole ∙ e) in
    c.in_err-read_decimal.ensures.lacking refl life fits agree.0
