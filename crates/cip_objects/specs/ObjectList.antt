-- The object list of the Message Router, and the classes that answer (Volume 1, Message Router object).
use Rattle.std.specs.Prelude.{◌≡◌, ℕ, Bool, true, ◌==◌, ◌&&◌, ◌||◌, List, [], ◌∷◌, ◌++◌, map, is_some}
use Rattle.cip_application.specs.MessageRouter.{classes_of, has_class}
use Rattle.cip_bytes.specs.declared.protocol.TheConstants.{MESSAGE_ROUTER}
use Rattle.cip_objects.specs.Tables.{Shapes, services_of}

-- Whether a class answers: the class itself has services, or its first instance has. The command ledger, which is in
-- front of the objects, answers for its class, 0x65.
abbrev pub answers : Shapes → Bool → ℕ → Bool
answers shapes ledger class =
    is_some (services_of shapes class 0) || is_some (services_of shapes class 1) || (ledger && (class == 0x65))

-- The object list of a device with these objects, the Message Router after the others, has a class if and only if the
-- class answers. If any instance has services, its class answers.
abbrev pub object_list_law : Type 0
object_list_law =
    (shapes : Shapes) (ledger : Bool) (others : List ℕ) (class : ℕ)
    → map (λ o. o.class) shapes.objects ≡ others ++ (MESSAGE_ROUTER ∷ [])
    → (has_class class (classes_of shapes.has_counter ledger others) ≡ answers shapes ledger class)
    × ((instance : ℕ) → is_some (services_of shapes class instance) ≡ true → answers shapes ledger class ≡ true)
