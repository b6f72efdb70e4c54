use Rattle.std.proofs.Common.{◌≡◌, ◌<◌, length, ap, ◌∙◌, sym}
use Rattle.std.specs.Box.{boxed_slice_items}
use Rattle.cip_application.specs.Attributes.{attribute_at, needs_approval}
use Rattle.cip_application.specs.Objects.{object_in}
use Rattle.cip_application.proofs.Writes.{here, approved_set, approved_nothing}
use Rattle.cip_application.proofs.application.ApplicationObjects.store_checked.Goals as goal

pub returns-then-needs_approval : goal.returns-then-needs_approval
returns-then-needs_approval c =
    let objects = boxed_slice_items c.self.inside.objects in
    let within : c.args.position < length objects = rw c.self.view_is c.requires in
    let there : object_in c.args.self.now c.args.position ≡ c.index.result.now =
    ap (λ x. object_in x c.args.position) (sym c.self.view_is) ∙ here objects c.args.position c.index.result.now within c.index.ensures in
    approved_set c.args.self.now c.set.new.self c.args.position c.args.number c.args.data.now c.set.result
    (ap (λ o. needs_approval (attribute_at c.args.number o.attributes)) there ∙ sym c.needs_approval.ensures ∙ c.if-needs_approval.true)
    c.set.ensures.set c.set.ensures.fault c.set.ensures.refused

pub returns-else-needs_approval : goal.returns-else-needs_approval
returns-else-needs_approval c =
    let objects = boxed_slice_items c.self.inside.objects in
    let within : c.args.position < length objects = rw c.self.view_is c.requires in
    let there : object_in c.args.self.now c.args.position ≡ c.index.result.now =
    ap (λ x. object_in x c.args.position) (sym c.self.view_is) ∙ here objects c.args.position c.index.result.now within c.index.ensures in
    approved_nothing c.args.self.now c.args.position c.args.number c.args.data.now
    (ap (λ o. needs_approval (attribute_at c.args.number o.attributes)) there ∙ sym c.needs_approval.ensures ∙ c.if-needs_approval.false)
