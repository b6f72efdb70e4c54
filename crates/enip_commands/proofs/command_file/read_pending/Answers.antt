use Rattle.std.proofs.Common.{◌≡◌, ℕ, ◌+◌, ◌<◌, List, [], ◌∷◌, ◌++◌, codes, length, false, None, Some, Ok, refl, sym, ap, ◌∙◌, arith, rules}
use Rattle.std.specs.Str.{bytes_eq}
use Rattle.enip_commands.specs.CommandFiles.{pending_digits}
use Rattle.enip_commands.proofs.CommandFileLemmas.{pending_no_feed, lines_agree, lacks_pending}
use Rattle.enip_commands.proofs.command_file.read_pending.Goals as goal

pub returns-in_err-digits-clause-lacking : goal.returns-in_err-digits-clause-lacking
returns-in_err-digits-clause-lacking c = λ none pending rest fits e.
    c.in_err-digits.ensures.lacking refl (pending_digits pending) rest (record { whole = e; one = pending_no_feed pending })

pub returns-in_err-read_request-clause-lacking : goal.returns-in_err-read_request-clause-lacking
returns-in_err-read_request-clause-lacking c = λ none pending rest fits e.
    let agree = lines_agree (codes "pending ") c.in_ok-digits.digits.now (pending_digits pending) c.in_ok-digits.rest.now rest
    c.in_ok-digits.ensures.read.one (pending_no_feed pending) (sym c.in_ok-digits.ensures.read.whole ∙ e) in
    let none_text : c.as_slice.result.now ≡ codes "none" = search rules in
    let differs : bytes_eq c.in_ok-digits.digits.now c.as_slice.result.now ≡ false = sym c.eq.ensures ∙ c.if-eq.false in
    lacks_pending c.in_ok-digits.digits.now pending (ap (bytes_eq c.in_ok-digits.digits.now) (sym none_text) ∙ differs) (c.in_err-read_request.ensures.lacking refl) fits agree.0
