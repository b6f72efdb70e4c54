use Rattle.std.proofs.Common.{◌≡◌, length, arith, sym, ◌∙◌}
use Rattle.std.proofs.lemmas.Bool.{eq-eqb}
use Rattle.cip_route.proofs.Routes.{found_at, found_nowhere}
use Rattle.cip_route.proofs.route.index_of.Goals as goal

pub returns-then-x-byte-clause-index : goal.returns-then-x-byte-clause-index
returns-then-x-byte-clause-index c =
    found_at c.args.byte c.args.text.now c.loop-i.i (omega arith) c.loop-i.invariant (eq-eqb _ _ c.if-x-byte.true)

pub returns-clause-index : goal.returns-clause-index
returns-clause-index c =
    let end : c.loop-i.i ≡ length c.args.text.now = omega arith in
    sym end ∙ found_nowhere c.args.byte c.args.text.now c.loop-i.i end c.loop-i.invariant
