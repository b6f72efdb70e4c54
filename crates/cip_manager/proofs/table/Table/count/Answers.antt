use Rattle.std.proofs.Common.{◌≡◌, ◌≤◌, Bool, true, false, cond, refl, ap, ◌∙◌, arith}
use Rattle.std.specs.Int.{from_bool}
use Rattle.std.proofs.lemmas.List.Filters.{length-filter_more}
use Rattle.cip_manager.specs.Table.{is_in}
use Rattle.cip_manager.proofs.table.Table.count.Goals as goal

one : (b : Bool) → (from_bool b ≡ cond b 1 0) × (from_bool b ≤ 1)
one true = (refl, omega arith)
one false = (refl, omega arith)

pub loop-position-preserved : goal.loop-position-preserved
loop-position-preserved c =
    let p = is_in c.args.selection.now in
    let tested = c.has.ensures ∙ ap p (c.at.ensures c.at.result.now) in
    let counted = c.from-count.ensures ∙ (one c.has.result).0 ∙ ap (λ b. cond b 1 0) tested in
    let more = length-filter_more p c.args.self.now.connections c.loop-position.position c.at.result.now (omega arith) in
    (omega (arith, c.loop-position.invariant.0, counted, more), omega (arith, c.loop-position.invariant.1, c.from-count.ensures, (one c.has.result).1))
