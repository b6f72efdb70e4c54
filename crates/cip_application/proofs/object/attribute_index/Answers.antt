use Rattle.std.proofs.Common.{sym, ap, ◌∙◌, arith}
use Rattle.cip_application.proofs.Lookup.{none_at, first_at, same_get}
use Rattle.cip_application.proofs.object.attribute_index.Goals as goal

pub returns-then-number : goal.returns-then-number
returns-then-number c =
    let xs = c.args.attributes.now in
    let i = c.loop-i.i in
    let a = c.index-attributes-i.result in
    first_at xs c.args.number i c.loop-i-test.true
    (λ d. ap (λ x. x.number) (same_get xs i d a c.loop-i-test.true ∙ sym c.index-attributes-i.is) ∙ sym c.number.ensures ∙ c.if-number.true)
    c.loop-i.invariant

pub returns : goal.returns
returns c = none_at c.args.attributes.now c.args.number (λ k d lt. c.loop-i.invariant k d (omega arith))
