-- The key `message_router`, and the object that it makes.
use Rattle.std.proofs.Common.{◌≡◌, ℕ, ◌≤◌, Bool, true, false, cond, ◌&&◌, nat_le, List, [], ◌∷◌, ◌++◌, length, map, Option, Some, inl, inr, refl, sym, ap, ◌∙◌, arith}
use Rattle.std.proofs.lemmas.List.{length-map}
use Rattle.toml.specs.Data.{Members}
use Rattle.cip_application.specs.declared.config.ObjectConfig.{ObjectConfig}
use Rattle.cip_application.specs.declared.message_router.MessageRouter.{MessageRouter}
use Rattle.cip_application.specs.MessageRouter.{classes_of, router_attributes}
use Rattle.cip_application.specs.Standard.{IsStandard}
use Rattle.config_refusal.specs.declared.fault.LoadFault.{LoadFault}
use Rattle.attribute_types.specs.Values.{IsBad}
use Rattle.enip_config.specs.Documents.{IsUnread}
use Rattle.enip_config.specs.Objects.{object_seen}
use Rattle.enip_config.specs.RouterObject.{router_wanted, classes_seen, with_router}
use Rattle.enip_config.specs.StandardObjects.{standard_object}
use Rattle.enip_config.proofs.StandardLemmas.{map_last, standard_seen}

pub unread_router : (described : Members) (fault : LoadFault) → IsBad (router_wanted described) fault → IsUnread described fault
unread_router described fault bad = rw bad.0 (refl, inr (inr (inr (inr (inr (inr (inr (inr (inr (inr (inl bad.1)))))))))))

same_classes : (objects : List ObjectConfig) → map (λ o. o.class) objects ≡ classes_seen (map object_seen objects)
same_classes [] = refl
same_classes (o ∷ objects) = ap (λ rest. o.class ∷ rest) (same_classes objects)

router_seen : (router : MessageRouter) (objects : List ObjectConfig) (o : ObjectConfig)
    → IsStandard 2 (router_attributes (classes_of router.counter router.ledger (map (λ x. x.class) objects)) router.connections) o
    → object_seen o ≡ standard_object 2 (router_attributes (classes_of router.counter router.ledger (classes_seen (map object_seen objects))) router.connections)
router_seen router objects o is =
    standard_seen 2 (router_attributes (classes_of router.counter router.ledger (map (λ x. x.class) objects)) router.connections) o is
    ∙ ap (λ classes. standard_object 2 (router_attributes (classes_of router.counter router.ledger classes) router.connections)) (same_classes objects)

few : (objects : List ObjectConfig) (few : Bool) → nat_le (length objects) 32 ≡ few → nat_le (length (map object_seen objects)) 32 ≡ few
few objects b e = ap (λ n. nat_le n 32) (length-map objects object_seen) ∙ e

pub router_pushed : (wanted : Bool) (router : MessageRouter) (objects after : List ObjectConfig) (o : ObjectConfig)
    → (wanted && nat_le (length objects) 32) ≡ true → after ≡ objects ++ (o ∷ [])
    → IsStandard 2 (router_attributes (classes_of router.counter router.ledger (map (λ x. x.class) objects)) router.connections) o
    → map object_seen after ≡ with_router wanted router (map object_seen objects)
router_pushed wanted router objects after o fits is standard =
    let seen = map object_seen objects in
    ap (map object_seen) is ∙ map_last objects o
    ∙ ap (λ x. seen ++ (x ∷ [])) (router_seen router objects o standard)
    ∙ sym (ap (λ t. cond t (seen ++ (standard_object 2 (router_attributes (classes_of router.counter router.ledger (classes_seen seen)) router.connections) ∷ [])) seen)
    (ap (λ n. wanted && nat_le n 32) (length-map objects object_seen) ∙ fits))

pub router_left_out : (wanted : Bool) (router : MessageRouter) (objects : List ObjectConfig)
    → (wanted && nat_le (length objects) 32) ≡ false
    → map object_seen objects ≡ with_router wanted router (map object_seen objects)
router_left_out wanted router objects fits =
    let seen = map object_seen objects in
    sym (ap (λ t. cond t (seen ++ (standard_object 2 (router_attributes (classes_of router.counter router.ledger (classes_seen seen)) router.connections) ∷ [])) seen)
    (ap (λ n. wanted && nat_le n 32) (length-map objects object_seen) ∙ fits))
