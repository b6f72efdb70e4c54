use Rattle.std.proofs.Common.{◌≡◌, ◌∙◌, ℕ, Option, Some, ap, arith, sym}
use Rattle.cip_application.specs.Kept.{is_kept}
use Rattle.cip_application.specs.Attributes.{AttributeValues}
use Rattle.cip_application.specs.declared.object.AttributeName.{AttributeName}
use Rattle.cip_application.proofs.Names.{name_found, name_missing}
use Rattle.cip_application.proofs.object.Object.kept_name.Goals as goal

abbrev named : ℕ → ℕ → ℕ → Option AttributeName
named class instance number = Some (record { class = class; instance = instance; attribute = number })

pub returns-then-left-eq0 : goal.returns-then-left-eq0
returns-then-left-eq0 c =
    let o = c.args.self.now in
    let name : AttributeValues → AttributeName = λ a. record { class = o.class; instance = o.instance; attribute = a.number } in
    ap (λ n. named c.self.inside.class c.self.inside.instance n) c.number.ensures
    ∙ ap (λ x. named x.class x.instance c.attribute-item.result.number) c.self.view_is
    ∙ (name_found (is_kept o.class) name c.deref-attribute-items.result.now o.attributes c.loop-attribute.attribute-index
    c.loop-attribute.left c.args.index (c.deref-attribute-items.ensures.value ∙ ap (λ x. x.attributes) c.self.view_is)
    c.loop-attribute.invariant c.attribute-item.result c.loop-attribute-test.true c.attribute-item.is
    (ap (λ x. is_kept x.class c.attribute-item.result) (sym c.self.view_is) ∙ sym c.is_kept.ensures ∙ c.if-is_kept.true) (omega (arith, c.if-left-eq0.true)))

pub returns : goal.returns
returns c =
    let o = c.args.self.now in
    let name : AttributeValues → AttributeName = λ a. record { class = o.class; instance = o.instance; attribute = a.number } in
    name_missing (is_kept o.class) name c.deref-attribute-items.result.now o.attributes c.loop-attribute.attribute-index
    c.loop-attribute.left c.args.index (c.deref-attribute-items.ensures.value ∙ ap (λ x. x.attributes) c.self.view_is)
    c.loop-attribute.invariant (omega (arith, c.loop-attribute-test.false))
