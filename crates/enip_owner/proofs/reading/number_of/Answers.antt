use Rattle.std.proofs.Common.{◌+◌, arith}
use Rattle.enip_owner.proofs.ReadingLemmas.{view-Number, in_range, over_range, no_number}
use Rattle.enip_owner.proofs.reading.number_of.Goals as goal

pub returns-in-Some-clause-number : goal.returns-in-Some-clause-number
returns-in-Some-clause-number c =
    rw (c.in-Number.is, view-Number c.in-Number.text)
    (in_range (c.args.most + 1) c.args.key c.in-Number.text.now c.as_bytes.result.now c.in-Some.number c.as_bytes.ensures.value
    c.in-Some.ensures.0.0 c.in-Some.ensures.1 (omega (arith, c.if-number-from.true, c.from.ensures)))

pub returns-in_default-decimal-clause-number : goal.returns-in_default-decimal-clause-number
returns-in_default-decimal-clause-number c =
    rw (c.in-Number.is, view-Number c.in-Number.text)
    (over_range (c.args.most + 1) c.args.key c.in-Number.text.now c.as_bytes.result.now c.in-Some.number c.as_bytes.ensures.value
    c.in-Some.ensures.1 (omega (arith, c.if-number-from.false, c.from.ensures)))

pub returns-in_default-decimal-2-clause-number : goal.returns-in_default-decimal-2-clause-number
returns-in_default-decimal-2-clause-number c =
    rw (c.in-Number.is, view-Number c.in-Number.text)
    (no_number (c.args.most + 1) c.args.key c.in-Number.text.now c.as_bytes.result.now c.as_bytes.ensures.value
    (omega (arith, c.ranges.most.fits)) c.in_default-decimal.ensures)
