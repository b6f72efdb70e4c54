use Rattle.std.proofs.Common.{◌≡◌, length, arith, sym, ◌∙◌}
use Rattle.std.proofs.lemmas.Bool.{eq-eqb}
use Rattle.enip_access.proofs.Slashes.{found_at, found_nowhere}
use Rattle.enip_access.proofs.prefix.slash_in.Goals as goal

pub returns-then-byte-eq47-clause-index : goal.returns-then-byte-eq47-clause-index
returns-then-byte-eq47-clause-index c =
    found_at c.args.text.now c.loop-i.i (omega arith) c.loop-i.invariant (eq-eqb _ _ c.if-byte-eq47.true)

pub returns-clause-index : goal.returns-clause-index
returns-clause-index c =
    let end : c.loop-i.i ≡ length c.args.text.now = omega arith in
    sym end ∙ found_nowhere c.args.text.now c.loop-i.i end c.loop-i.invariant
