use Rattle.std.proofs.Common.{arith}
use Rattle.enip_wire.proofs.ParseFrameLemmas.{parse_frame-long, parse_frame-whole, parse_frame-more, kind-long, kind-whole}
use Rattle.enip_wire.proofs.reader.parse_frame.Goals as goal

pub returns-then-header-gt-LONGEST_BODY-clause-shown : goal.returns-then-header-gt-LONGEST_BODY-clause-shown
returns-then-header-gt-LONGEST_BODY-clause-shown c =
    parse_frame-long c.args.bytes.now c.in-Some.head.now c.read-header.result c.in-Some.ensures.cases.0 (omega (arith, c.in-Some.ensures.cases.2)) c.read-header.ensures.value
    c.if-header-gt-LONGEST_BODY.true

pub returns-then-body-header-clause-shown : goal.returns-then-body-header-clause-shown
returns-then-body-header-clause-shown c =
    parse_frame-whole c.args.bytes.now c.in-Some.head.now c.in-Some.body.now c.read-header.result c.in-Some.ensures.cases.0 c.in-Some.ensures.cases.1
    (omega (arith, c.in-Some.ensures.cases.2)) (λ i. omega (arith, c.type_inv.bytes i)) c.read-header.ensures.value c.read-header.ensures.spelled
    c.if-header-gt-LONGEST_BODY.false c.if-body-header.true

pub returns-else-body-header-clause-shown : goal.returns-else-body-header-clause-shown
returns-else-body-header-clause-shown c =
    parse_frame-more c.args.bytes.now c.in-Some.head.now c.in-Some.body.now c.read-header.result c.in-Some.ensures.cases.0 c.in-Some.ensures.cases.1
    c.read-header.ensures.value c.if-header-gt-LONGEST_BODY.false c.if-body-header.false

pub returns-then-header-gt-LONGEST_BODY-clause-kind : goal.returns-then-header-gt-LONGEST_BODY-clause-kind
returns-then-header-gt-LONGEST_BODY-clause-kind c =
    kind-long c.args.bytes.now c.read-header.result
    (parse_frame-long c.args.bytes.now c.in-Some.head.now c.read-header.result c.in-Some.ensures.cases.0 (omega (arith, c.in-Some.ensures.cases.2)) c.read-header.ensures.value
    c.if-header-gt-LONGEST_BODY.true)

pub returns-then-body-header-clause-kind : goal.returns-then-body-header-clause-kind
returns-then-body-header-clause-kind c =
    kind-whole c.args.bytes.now c.in-Some.head.now c.in-Some.body.now c.read-header.result c.in-Some.ensures.cases.0 c.in-Some.ensures.cases.1
    (omega (arith, c.in-Some.ensures.cases.2)) c.read-header.ensures.value
    c.if-header-gt-LONGEST_BODY.false c.if-body-header.true
