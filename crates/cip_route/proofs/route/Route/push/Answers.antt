use Rattle.cip_route.specs.Hop.{view}
use Rattle.cip_route.proofs.Routes.{still_route, same_items}
use Rattle.cip_route.proofs.route.Route.push.Goals as goal

pub invariant_of-self : goal.invariant_of-self
invariant_of-self c =
    still_route c.write.result (view c.args.hop) c.self.inside.bytes.items c.write.new.out.items c.self.invariant c.write.ensures.fits.0
    c.write.ensures.ok (same_items c.write.result (λ v. v.items) _ _ c.write.ensures.err)
