-- The Message Router, as an application object, and the classes that answer on a device (Volume 1, Message Router
-- object).
use Rattle.std.specs.Prelude.{◌≡◌, ◌<◌, ℕ, Bool, ◌==◌, ◌&&◌, ◌||◌, nat_lt, if◌then◌else◌, List, [], ◌∷◌, ◌++◌, length}
use Rattle.std.specs.Prelude.{Option, Some, None, insert}
use Rattle.std.specs.List.{flat_map, list_any}
use Rattle.byteorder.specs.Endian.{little_bytes}
use Rattle.cip_bytes.specs.declared.protocol.TheConstants.{IDENTITY, MESSAGE_ROUTER, ASSEMBLY, CONNECTION_MANAGER}
use Rattle.cip_bytes.specs.declared.protocol.TheConstants.{COUNTER}
use Rattle.cip_application.specs.Attributes.{AttributeValues}
use Rattle.cip_application.specs.Standard.{fixed}

-- The list with one class more. A class that it has is not put in again.
abbrev pub with_class : ℕ → List ℕ → List ℕ
with_class class [] = class ∷ []
with_class class (c ∷ classes) =
    if nat_lt class c then class ∷ c ∷ classes
    else (if c == class then c ∷ classes
    else c ∷ with_class class classes)

abbrev pub with_classes : List ℕ → List ℕ → List ℕ
with_classes classes [] = classes
with_classes classes (class ∷ more) = with_classes (with_class class classes) more

abbrev pub class_if : Bool → ℕ → List ℕ
class_if has class = if has then class ∷ [] else []

-- The classes that a device has itself. The command ledger is 0x65.
abbrev pub own_classes : Bool → Bool → List ℕ
own_classes counter ledger =
    (IDENTITY ∷ MESSAGE_ROUTER ∷ ASSEMBLY ∷ CONNECTION_MANAGER ∷ []) ++ (class_if counter COUNTER ++ class_if ledger 0x65)

-- The classes that answer, rising: those that the device has itself, and those of its application objects.
abbrev pub classes_of : Bool → Bool → List ℕ → List ℕ
classes_of counter ledger classes = with_classes (own_classes counter ledger) classes

-- The number of classes, then the classes.
abbrev pub object_list : List ℕ → List ℕ
object_list classes = little_bytes 2 (length classes) ++ flat_map (little_bytes 2) classes

-- Object list, greatest number of connections, open connections. None is open at first.
abbrev pub router_attributes : List ℕ → ℕ → List AttributeValues
router_attributes classes connections =
    fixed 1 (object_list classes) ∷ fixed 2 (little_bytes 2 connections) ∷ fixed 3 (little_bytes 2 0) ∷ []

-- The list with a class put in before an index, or as it is.
abbrev pub placed : Option ℕ → ℕ → List ℕ → List ℕ
placed None class classes = classes
placed (Some i) class classes = insert classes i class

-- The class is less than the next one.
abbrev pub IsBelow : ℕ → List ℕ → Type 0
IsBelow class [] = Unit {0}
IsBelow class (c ∷ classes) = class < c

-- The classes rise, and no class is there twice.
abbrev pub AreRising : List ℕ → Type 0
AreRising [] = Unit {0}
AreRising (c ∷ classes) = IsBelow c classes × AreRising classes

abbrev pub has_class : ℕ → List ℕ → Bool
has_class class classes = list_any (λ c. c == class) classes

-- The object list rises. It has the classes that the device has itself, those of its application objects, and no
-- others.
abbrev pub object_list_law : Type 0
object_list_law =
    (counter ledger : Bool) (classes : List ℕ)
    → AreRising (classes_of counter ledger classes)
    × ((class : ℕ) → has_class class (classes_of counter ledger classes)
    ≡ has_class class (own_classes counter ledger) || has_class class classes)
