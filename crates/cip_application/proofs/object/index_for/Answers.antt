use Rattle.std.proofs.Common.{◌≡◌, get_or, sym, ap, ◌∙◌, arith}
use Rattle.cip_application.proofs.Lookup.{placed_at, placed_last, same_get}
use Rattle.cip_application.proofs.object.index_for.Goals as goal

pub returns-then-number-clause-placed : goal.returns-then-number-clause-placed
returns-then-number-clause-placed c = λ a e.
    let xs = c.args.attributes.now in
    let i = c.loop-i.i in
    let b = c.index-attributes-i.result in
    placed_at xs a i c.loop-i-test.true
    (λ d.
    let s : (get_or xs i d).number ≡ c.number.result =
    ap (λ x. x.number) (same_get xs i d b c.loop-i-test.true ∙ sym c.index-attributes-i.is) ∙ sym c.number.ensures in
    omega arith)
    (λ k d lt. let h = c.loop-i.invariant k d lt in omega (arith, h, e))

pub returns-clause-placed : goal.returns-clause-placed
returns-clause-placed c = λ a e.
    placed_last c.args.attributes.now a (λ k d lt. let h = c.loop-i.invariant k d (omega arith) in omega (arith, h, e))
