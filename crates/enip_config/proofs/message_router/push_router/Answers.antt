use Rattle.std.proofs.Common.{◌≡◌, ◌&&◌, nat_le, true, List, length, map, ap, subst, ◌∙◌, arith}
use Rattle.std.proofs.lemmas.Bool.Decides.{nat_tests}
use Rattle.cip_application.specs.declared.config.ObjectConfig.{ObjectConfig}
use Rattle.cip_application.specs.MessageRouter.{classes_of, router_attributes}
use Rattle.cip_application.specs.Standard.{IsStandard}
use Rattle.enip_config.proofs.RouterLemmas.{router_pushed}
use Rattle.enip_config.proofs.message_router.push_router.Goals as goal

pub returns-in_ok-push : goal.returns-in_ok-push
returns-in_ok-push c =
    let few : nat_le (length c.args.objects.now.items) 32 ≡ true = grind (arith, nat_tests) in
    router_pushed c.args.wanted c.args.router c.args.objects.now.items c.push.new.self.items c.in_ok-object.object
    (ap (λ w. w && nat_le (length c.args.objects.now.items) 32) c.if-wanted.true ∙ few)
    c.in_ok-push.ensures.items
    (subst (λ (others : List ObjectConfig). IsStandard 2 (router_attributes (classes_of c.args.router.counter c.args.router.ledger (map (λ x. x.class) others)) c.args.router.connections) c.in_ok-object.object)
    c.deref.ensures.value c.in_ok-object.ensures)
