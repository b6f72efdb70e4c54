use Rattle.std.proofs.Common.{ℕ, List, [], ◌∷◌, codes, decimal, subst}
use Rattle.json.specs.Token.{Token, begin_object, key, number}
use Rattle.enip_owner.specs.Parts.{Adds}
use Rattle.enip_owner.proofs.event.write_asked_front.Goals as goal

abbrev front : ℕ → ℕ → ℕ → ℕ → List Token
front question class instance service =
    begin_object ∷ key (codes "asked") ∷ begin_object ∷ key (codes "question") ∷ number (decimal question)
    ∷ key (codes "class") ∷ number (decimal class) ∷ key (codes "instance") ∷ number (decimal instance)
    ∷ key (codes "service") ∷ number (decimal service) ∷ []

pub returns : goal.returns
returns c =
    let e = c.args.event.now in
    subst (λ q. Adds c.write_parts.result c.args.writer.now c.write_parts.new.writer (front q e.class e.instance e.service))
    c.from.ensures
    (subst (λ k. Adds c.write_parts.result c.args.writer.now c.write_parts.new.writer (front c.from.result k e.instance e.service))
    c.from-2.ensures
    (subst (λ i. Adds c.write_parts.result c.args.writer.now c.write_parts.new.writer (front c.from.result c.from-2.result i e.service))
    c.from-3.ensures
    (subst (λ s. Adds c.write_parts.result c.args.writer.now c.write_parts.new.writer (front c.from.result c.from-2.result c.from-3.result s))
    c.from-service.ensures c.write_parts.ensures)))
