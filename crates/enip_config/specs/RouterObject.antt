-- The key `message_router` of a configuration.
use Rattle.std.specs.Prelude.{◌≡◌, ℕ, List, [], ◌∷◌, ◌++◌, Bool, true, false, ◌&&◌, nat_le, codes, length, map}
use Rattle.std.specs.Prelude.{Option, Some, option_map, if◌then◌else◌}
use Rattle.toml.specs.Data.{Members}
use Rattle.cip_application.specs.declared.config.ObjectConfig.{ObjectConfig}
use Rattle.cip_application.specs.declared.message_router.MessageRouter.{MessageRouter}
use Rattle.cip_application.specs.MessageRouter.{classes_of, router_attributes}
use Rattle.enip_config.specs.Keys.{flag_of}
use Rattle.enip_config.specs.Objects.{ObjectSeen, object_seen}
use Rattle.enip_config.specs.StandardObjects.{all_objects_of, standard_object}

-- whether the device has the object
abbrev pub router_wanted : Members → Option Bool
router_wanted described = flag_of (codes "message_router") false described

-- the classes of the objects
abbrev pub classes_seen : List ObjectSeen → List ℕ
classes_seen objects = map (λ o. o.1.0) objects

-- The Message Router is the last object, and lists the classes of the others. A device with over 32 others is refused.
abbrev pub with_router : Bool → MessageRouter → List ObjectSeen → List ObjectSeen
with_router wanted router objects =
    if wanted && nat_le (length objects) 32 then
    objects ++ (standard_object 2 (router_attributes (classes_of router.counter router.ledger (classes_seen objects)) router.connections) ∷ [])
    else objects

-- the own objects, those of the tables, and the Message Router
abbrev pub HasAllObjects : Members → MessageRouter → List ObjectConfig → Type 0
HasAllObjects described router objects =
    (wanted : Bool) × (router_wanted described ≡ Some wanted)
    × (option_map (with_router wanted router) (all_objects_of described) ≡ Some (map object_seen objects))
