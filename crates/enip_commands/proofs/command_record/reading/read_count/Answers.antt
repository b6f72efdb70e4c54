use Rattle.std.proofs.Common.{◌≡◌, ℕ, ◌+◌, ◌<◌, ◌≤◌, List, ◌++◌, codes, length, refl, sym, ◌∙◌, arith}
use Rattle.std.specs.Fmt.{decimal}
use Rattle.std.proofs.lemmas.Fmt.{decimal_injective}
use Rattle.enip_commands.proofs.CommandFileLemmas.{decimal_no_feed, lines_agree}
use Rattle.enip_commands.proofs.command_record.reading.read_count.Goals as goal

pub returns-in_err-digits-clause-lacking : goal.returns-in_err-digits-clause-lacking
returns-in_err-digits-clause-lacking c = λ none count rest fits e.
    c.in_err-digits.ensures.lacking refl (decimal count) rest (record { whole = e; one = decimal_no_feed count (omega arith) })

pub returns-in_err-count-clause-lacking : goal.returns-in_err-count-clause-lacking
returns-in_err-count-clause-lacking c = λ none count rest fits e.
    let agree = lines_agree (codes "ids ") c.in_ok-digits.digits.now (decimal count) c.in_ok-digits.rest.now rest c.in_ok-digits.ensures.read.one (decimal_no_feed count (omega arith))
    (sym c.in_ok-digits.ensures.read.whole ∙ e) in
    c.in_err-count.ensures.lacking refl count (omega arith) agree.0

pub returns-then-count-gt-MOST_IDS-clause-lacking : goal.returns-then-count-gt-MOST_IDS-clause-lacking
returns-then-count-gt-MOST_IDS-clause-lacking c = λ none count rest fits e.
    let agree = lines_agree (codes "ids ") c.in_ok-digits.digits.now (decimal count) c.in_ok-digits.rest.now rest c.in_ok-digits.ensures.read.one (decimal_no_feed count (omega arith))
    (sym c.in_ok-digits.ensures.read.whole ∙ e) in
    let same : c.in_ok-count.count ≡ count = decimal_injective c.in_ok-count.count count c.in_ok-count.ensures.fits (omega arith) (sym c.in_ok-count.ensures.read ∙ agree.0) in
    omega (arith, same, c.if-count-gt-MOST_IDS.true)
