use Rattle.std.proofs.Common.{ap, sym, refl, ◌∙◌}
use Rattle.json.proofs.Trees.{view-Object}
use Rattle.json.specs.Value.{members_view}
use Rattle.enip_owner.specs.Requests.{checked, are_known}
use Rattle.enip_owner.proofs.reading.check.Goals as goal

pub returns-then-are_known : goal.returns-then-are_known
unfolding checked
returns-then-are_known c =
    let known = ap (λ items. are_known c.args.known.now (members_view items)) (sym c.as_slice.ensures.value) ∙ sym c.are_known.ensures
    ∙ c.if-are_known.true in
    rw (c.in-Object.is, view-Object c.in-Object.members, known) refl

pub returns-else-are_known : goal.returns-else-are_known
unfolding checked
returns-else-are_known c =
    let known = ap (λ items. are_known c.args.known.now (members_view items)) (sym c.as_slice.ensures.value) ∙ sym c.are_known.ensures
    ∙ c.if-are_known.false in
    rw (c.in-Object.is, view-Object c.in-Object.members, known) refl
