use Rattle.std.proofs.Common.{◌&&◌, drop, sym, ap, ◌∙◌, arith}
use Rattle.cip_application.specs.Numbers.{are_within}
use Rattle.cip_application.proofs.Numbers.{within_front, within_end}
use Rattle.cip_application.proofs.number.NumberRange.contains_all.Goals as goal

pub returns-then-not-contains : goal.returns-then-not-contains
returns-then-not-contains c =
    let r = c.args.self.now in
    let rest = c.loop-rest.rest.now in
    let w = c.width-width.result in
    let front = within_front r rest w c.read_uint.result c.contains.result c.width-width.ensures.width c.width-width.ensures.some
    c.loop-rest-test.true c.read_uint.ensures c.contains.ensures in
    sym (sym c.loop-rest.invariant ∙ front ∙ ap (λ t. t && are_within r (drop w rest)) c.if-not-contains.true)

pub loop-rest-preserved : goal.loop-rest-preserved
loop-rest-preserved c =
    let r = c.args.self.now in
    let rest = c.loop-rest.rest.now in
    let w = c.width-width.result in
    let front = within_front r rest w c.read_uint.result c.contains.result c.width-width.ensures.width c.width-width.ensures.some
    c.loop-rest-test.true c.read_uint.ensures c.contains.ensures in
    ap (are_within r) c.split_at.ensures.back
    ∙ sym (ap (λ t. t && are_within r (drop w rest)) c.if-not-contains.false)
    ∙ sym front ∙ c.loop-rest.invariant

pub returns : goal.returns
returns c =
    let r = c.args.self.now in
    let rest = c.loop-rest.rest.now in
    sym (sym c.loop-rest.invariant ∙ within_end r rest (omega (arith, c.width-width.ensures.width)))
