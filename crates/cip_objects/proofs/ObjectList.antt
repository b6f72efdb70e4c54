-- The object list has exactly the classes that answer.
use Rattle.std.proofs.Common.{◌≡◌, ℕ, zero, suc, eqb, Bool, true, false, cond, ◌||◌, ◌&&◌, List, [], ◌∷◌, ◌++◌, map, Option, Some, None, option_map, is_some, refl, sym, ap, ◌∙◌, arith}
use Rattle.std.proofs.lemmas.Bool.Decides.{nat_tests}
use Rattle.std.specs.List.{list_any}
use Rattle.cip_application.specs.MessageRouter.{classes_of, own_classes, class_if, has_class}
use Rattle.cip_application.proofs.ObjectList.{listed}
use Rattle.cip_bytes.specs.declared.protocol.TheConstants.{IDENTITY, MESSAGE_ROUTER, ASSEMBLY, CONNECTION_MANAGER, COUNTER}
use Rattle.cip_objects.specs.declared.service.Service.{Service}
use Rattle.cip_objects.specs.declared.service.Service.TheVariants.{GetAttributesAll, GetAttributeList, GetAttributeSingle, SetAttributeSingle, Add, Clear}
use Rattle.cip_objects.specs.ObjectList.{answers}
use Rattle.cip_objects.specs.Tables.{ObjectShape, Shapes, services_of, services_of_assembly, services_of_object, class_or_first, application_services, shape_at, object_at, is_counter_class}

turned : (a b : ℕ) → eqb a b ≡ eqb b a
turned a b = grind (arith, nat_tests)

and_turned : (a b : Bool) → a && b ≡ b && a
and_turned true true = refl
and_turned true false = refl
and_turned false true = refl
and_turned false false = refl

-- ---- the classes of the application objects

abbrev is_class : ℕ → List ObjectShape → Bool
is_class class objects = list_any (λ o. eqb o.class class) objects

of_classes : (class : ℕ) (objects : List ObjectShape) → is_class class objects ≡ has_class class (map (λ o. o.class) objects)
of_classes class [] = refl
of_classes class (o ∷ objects) = ap (λ t. eqb o.class class || t) (of_classes class objects)

or_later : (a b c : Bool) → a || (b || c) ≡ (a || b) || c
or_later true b c = refl
or_later false b c = refl

or_none : (a : Bool) → a || false ≡ a
or_none true = refl
or_none false = refl

with_last : (class last : ℕ) (others : List ℕ) → has_class class (others ++ (last ∷ [])) ≡ has_class class others || eqb last class
with_last class last [] = or_none (eqb last class)
with_last class last (c ∷ others) =
    ap (λ t. eqb c class || t) (with_last class last others) ∙ or_later (eqb c class) (has_class class others) (eqb last class)

-- an object with services has its class
by_object : (t u : Bool) (o : ObjectShape) (found : Option ObjectShape) (rest : Bool)
    → (is_some (option_map services_of_object found) ≡ true → rest ≡ true)
    → is_some (option_map services_of_object (cond (t && u) (Some o) found)) ≡ true → t || rest ≡ true
by_object true u o found rest later e = refl
by_object false u o found rest later e = later e

object_class : (class instance : ℕ) (objects : List ObjectShape) → is_some (option_map services_of_object (object_at class instance objects)) ≡ true → is_class class objects ≡ true
object_class class instance [] e = absurd (cc)
object_class class instance (o ∷ objects) e =
    by_object (eqb o.class class) (eqb o.instance instance) o (object_at class instance objects) (is_class class objects) (object_class class instance objects) e

-- ---- the device's own classes

optional : (counter ledger : Bool) (class : ℕ) → has_class class (class_if counter COUNTER ++ class_if ledger 0x65)
    ≡ (eqb class COUNTER && counter) || (ledger && eqb class 0x65)
optional true true class =
    ap (λ t. t || (eqb 0x65 class || false)) (turned COUNTER class)
    ∙ ap (λ t. eqb class COUNTER || t) (or_none (eqb 0x65 class) ∙ turned 0x65 class)
    ∙ ap (λ t. t || eqb class 0x65) (and_turned true (eqb class COUNTER))
optional true false class = ap (λ t. t || false) (turned COUNTER class ∙ and_turned true (eqb class COUNTER))
optional false true class = or_none (eqb 0x65 class) ∙ turned 0x65 class ∙ ap (λ t. t || eqb class 0x65) (and_turned false (eqb class COUNTER))
optional false false class = ap (λ t. t || false) (and_turned false (eqb class COUNTER))

own : (counter ledger : Bool) (class : ℕ) → has_class class (own_classes counter ledger)
    ≡ eqb class IDENTITY || (eqb MESSAGE_ROUTER class || (eqb class ASSEMBLY || (eqb class CONNECTION_MANAGER || ((eqb class COUNTER && counter) || (ledger && eqb class 0x65)))))
own counter ledger class =
    ap (λ t. t || (eqb MESSAGE_ROUTER class || (eqb ASSEMBLY class || (eqb CONNECTION_MANAGER class || has_class class (class_if counter COUNTER ++ class_if ledger 0x65))))) (turned IDENTITY class)
    ∙ ap (λ t. eqb class IDENTITY || (eqb MESSAGE_ROUTER class || (t || (eqb CONNECTION_MANAGER class || has_class class (class_if counter COUNTER ++ class_if ledger 0x65))))) (turned ASSEMBLY class)
    ∙ ap (λ t. eqb class IDENTITY || (eqb MESSAGE_ROUTER class || (eqb class ASSEMBLY || (t || has_class class (class_if counter COUNTER ++ class_if ledger 0x65))))) (turned CONNECTION_MANAGER class)
    ∙ ap (λ t. eqb class IDENTITY || (eqb MESSAGE_ROUTER class || (eqb class ASSEMBLY || (eqb class CONNECTION_MANAGER || t)))) (optional counter ledger class)

-- ---- both together

or_true : (a b : Bool) → a || (true || b) ≡ true
or_true true b = refl
or_true false b = refl

implied : (g y l : Bool) → (y ≡ true → g ≡ true) → g || l ≡ (g || y) || l
implied true y l h = refl
implied false true l h = absurd (let e = h refl in cc)
implied false false l h = refl

around : (r l o : Bool) → (r || l) || o ≡ (o || r) || l
around true l true = refl
around true l false = refl
around false true true = refl
around false true false = refl
around false false true = refl
around false false false = refl

some_if : (g : Bool) (services : List Service) → is_some (cond g (Some services) None) ≡ g
some_if true services = refl
some_if false services = refl

module _ (shapes : Shapes) (ledger : Bool) (class : ℕ) where
  abbrev first_services : List Service
  first_services = GetAttributesAll ∷ GetAttributeList ∷ GetAttributeSingle ∷ []

  abbrev counter_services : List Service
  counter_services = Add ∷ Clear ∷ GetAttributeList ∷ GetAttributeSingle ∷ SetAttributeSingle ∷ []

  -- the services, by the tests of the class
  abbrev by_tests : (i a m c : Bool) → ℕ → Option (List Service)
  by_tests i a m c instance =
      cond i (class_or_first instance first_services)
      (cond a (cond (eqb instance 0) (Some (GetAttributeSingle ∷ [])) (option_map services_of_assembly (shape_at instance shapes.assemblies)))
      (cond m (cond (eqb instance 1) (Some []) None)
      (cond c (class_or_first instance counter_services) (application_services class instance shapes.objects))))

  -- by the classes of the application objects
  abbrev only_own : Bool
  only_own = is_class class shapes.objects

  first_found : is_some (option_map services_of_object (object_at class 1 shapes.objects)) ≡ true → only_own ≡ true
  first_found = object_class class 1 shapes.objects

  same_tests : (i a m c r o l : Bool) → only_own ≡ o || r
      → (i || (r || (a || (m || (c || l))))) || o ≡ (is_some (by_tests i a m c 0) || is_some (by_tests i a m c 1)) || l
  same_tests true a m c r o l e = refl
  same_tests false true m c r o l e = ap (λ t. t || o) (or_true r (m || (c || l)))
  same_tests false false true c r o l e = ap (λ t. t || o) (or_true r (c || l))
  same_tests false false false true r o l e = ap (λ t. t || o) (or_true r l)
  same_tests false false false false r o l e =
      around r l o
      ∙ ap (λ t. t || l) (sym e)
      ∙ implied only_own (is_some (option_map services_of_object (object_at class 1 shapes.objects))) l first_found
      ∙ ap (λ t. (t || is_some (option_map services_of_object (object_at class 1 shapes.objects))) || l) (sym (some_if only_own (GetAttributeSingle ∷ [])))

  own_found : (zeroth : Bool) (instance : ℕ) → eqb instance 0 ≡ zeroth
      → is_some (cond zeroth (cond only_own (Some (GetAttributeSingle ∷ [])) None) (option_map services_of_object (object_at class instance shapes.objects))) ≡ true → only_own ≡ true
  own_found true instance is e = sym (some_if only_own (GetAttributeSingle ∷ [])) ∙ e
  own_found false instance is e = object_class class instance shapes.objects e

  found : (i a m c l : Bool) (instance : ℕ) → is_some (by_tests i a m c instance) ≡ true
      → (is_some (by_tests i a m c 0) || is_some (by_tests i a m c 1)) || l ≡ true
  found true a m c l instance e = refl
  found false true m c l instance e = refl
  found false false true c l instance e = refl
  found false false false true l instance e = refl
  found false false false false l instance e =
      ap (λ t. (t || is_some (option_map services_of_object (object_at class 1 shapes.objects))) || l)
      (some_if only_own (GetAttributeSingle ∷ []) ∙ own_found (eqb instance 0) instance refl e)

  pub listed_classes : (others : List ℕ) → map (λ o. o.class) shapes.objects ≡ others ++ (MESSAGE_ROUTER ∷ [])
      → has_class class (classes_of shapes.has_counter ledger others) ≡ answers shapes ledger class
  unfolding services_of
  listed_classes others are =
      (listed shapes.has_counter ledger others).1 class
      ∙ ap (λ t. t || has_class class others) (own shapes.has_counter ledger class)
      ∙ same_tests (eqb class IDENTITY) (eqb class ASSEMBLY) (eqb class CONNECTION_MANAGER) (is_counter_class shapes class)
      (eqb MESSAGE_ROUTER class) (has_class class others) (ledger && eqb class 0x65)
      (of_classes class shapes.objects ∙ ap (has_class class) are ∙ with_last class MESSAGE_ROUTER others)

  pub any_instance : (instance : ℕ) → is_some (services_of shapes class instance) ≡ true → answers shapes ledger class ≡ true
  unfolding services_of
  any_instance instance e =
      found (eqb class IDENTITY) (eqb class ASSEMBLY) (eqb class CONNECTION_MANAGER) (is_counter_class shapes class)
      (ledger && eqb class 0x65) instance e

pub law : (shapes : Shapes) (ledger : Bool) (others : List ℕ) (class : ℕ) → map (λ o. o.class) shapes.objects ≡ others ++ (MESSAGE_ROUTER ∷ [])
    → (has_class class (classes_of shapes.has_counter ledger others) ≡ answers shapes ledger class)
    × ((instance : ℕ) → is_some (services_of shapes class instance) ≡ true → answers shapes ledger class ≡ true)
law shapes ledger others class are = (listed_classes shapes ledger class others are, any_instance shapes ledger class)
