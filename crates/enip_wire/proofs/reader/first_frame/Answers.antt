use Rattle.std.proofs.Common.{◌≡◌, ◌+◌, ◌≤◌, length, take, drop, ap, ◌∙◌, arith}
use Rattle.enip_wire.specs.Headers.{header_at, header_spelling}
use Rattle.enip_wire.proofs.FirstLemmas.{first-taken, first-shown, first-kind}
use Rattle.enip_wire.proofs.reader.first_frame.Goals as goal

long : (c : goal.Else-rest-size) → 24 ≤ length c.args.piece.now
long c = omega (arith, c.in_ok-head.ensures.cases.2)

is : (c : goal.Else-rest-size) → c.read-header.result ≡ header_at (take 24 c.args.piece.now)
is c = c.read-header.ensures.value ∙ ap header_at c.in_ok-head.ensures.cases.0

spelled : (c : goal.Else-rest-size) → header_spelling c.read-header.result ≡ take 24 c.args.piece.now
spelled c = c.read-header.ensures.spelled ∙ c.in_ok-head.ensures.cases.0

within : (c : goal.Else-rest-size) → c.read-header.result.length ≤ 65511
within c = omega (arith, c.if-header-gt-LONGEST_BODY.false)

whole : (c : goal.Else-rest-size) → 24 + c.read-header.result.length ≤ length c.args.piece.now
whole c = omega (arith, c.if-rest-size.false, c.from-size.ensures, c.in_ok-head.ensures.cases.2)

body : (c : goal.Else-rest-size)
    → take c.from-size.result c.in_ok-head.rest.now ≡ take c.read-header.result.length (drop 24 c.args.piece.now)
body c =
    ap (λ n. take n c.in_ok-head.rest.now) c.from-size.ensures
    ∙ ap (take c.read-header.result.length) c.in_ok-head.ensures.cases.1

pub returns-clause-size : goal.returns-clause-size
returns-clause-size c =
    first-taken c.args.piece.now (take c.from-size.result c.in_ok-head.rest.now) c.read-header.result
    (λ i. omega (arith, c.type_inv.piece i)) (long c) (is c) (within c) (whole c) (body c)

pub returns-clause-shown : goal.returns-clause-shown
returns-clause-shown c =
    first-shown c.args.piece.now (take c.from-size.result c.in_ok-head.rest.now) c.read-header.result
    (λ i. omega (arith, c.type_inv.piece i)) (long c) (is c) (spelled c) (within c) (whole c) (body c)

pub returns-clause-kind : goal.returns-clause-kind
returns-clause-kind c =
    first-kind c.args.piece.now (take c.from-size.result c.in_ok-head.rest.now) c.read-header.result
    (long c) (is c) (within c) (whole c) (body c)
