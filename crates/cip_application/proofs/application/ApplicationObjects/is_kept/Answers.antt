use Rattle.std.proofs.Common.{◌≡◌, ◌<◌, false, length, Some, option_map, unwrap_or, ap, ◌∙◌, sym}
use Rattle.std.specs.Box.{boxed_slice_items}
use Rattle.cip_application.specs.Kept.{is_kept_in}
use Rattle.cip_application.specs.Objects.{object_in}
use Rattle.cip_application.proofs.Writes.{here}
use Rattle.cip_application.proofs.application.ApplicationObjects.is_kept.Goals as goal

pub returns-in-Some : goal.returns-in-Some
returns-in-Some c =
    let objects = boxed_slice_items c.self.inside.objects in
    let k = c.in-Some.position in
    let within : k < length objects = rw c.self.view_is c.in-Some.ensures.within in
    let there : object_in c.args.self.now k ≡ c.index.result.now =
    ap (λ x. object_in x k) (sym c.self.view_is) ∙ here objects k c.index.result.now within c.index.ensures in
    c.is_kept.ensures
    ∙ ap (λ o. is_kept_in o c.args.attribute) (sym there)
    ∙ ap (λ p. unwrap_or (option_map (λ x. is_kept_in (object_in c.args.self.now x) c.args.attribute) p) false) c.in-Some.ensures.position
