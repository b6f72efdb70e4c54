use Rattle.std.proofs.Common.{inr, arith}
use Rattle.cip_values.proofs.ParsingLemmas.{behind_separator}
use Rattle.cip_values.proofs.parsing.date_and_time.Goals as goal

pub returns-in-Ok-clause-parses : goal.returns-in-Ok-clause-parses
returns-in-Ok-clause-parses c =
    (omega arith, c.if-text-ne84.false, rw (behind_separator c.args.text.now) at c.in-Ok.ensures.parses)

pub returns-in-Err-Form-clause-missed : goal.returns-in-Err-Form-clause-missed
returns-in-Err-Form-clause-missed c =
    inr (inr (rw (behind_separator c.args.text.now, c.in-Err-Form.field-0-is) at c.in-Err-Form.ensures.missed))

pub returns-in-Err-Range-clause-missed : goal.returns-in-Err-Range-clause-missed
returns-in-Err-Range-clause-missed c = (
  omega arith,
  c.if-text-ne84.false,
  rw (behind_separator c.args.text.now, c.in-Err-Range.field-0-is) at c.in-Err-Range.ensures.missed,
)
