-- Which services an instance offers, by tests of its class and its number.
use Rattle.std.proofs.Common.{◌≡◌, ℕ, Bool, true, false, cond, sym, ap, ◌∙◌, Ok, List, [], ◌∷◌, Option, Some, None, option_map, Result}
use Rattle.std.specs.Option.{ok_or}
use Rattle.cip_objects.specs.declared.service.Service.{Service}
use Rattle.cip_objects.specs.declared.service.Service.TheVariants.{GetAttributesAll, GetAttributeList, GetAttributeSingle, SetAttributeSingle, Add, Clear}
use Rattle.cip_objects.specs.declared.status.Refusal.{Refusal}
use Rattle.cip_objects.specs.declared.status.Refusal.TheVariants.{PathDestinationUnknown, ServiceNotSupported}
use Rattle.cip_bytes.specs.Reading.{◌>>=◌}
use Rattle.cip_objects.specs.Service.{service_in}
use Rattle.cip_objects.specs.Tables.{Shape, ObjectShape, services_of_assembly, services_of_object}

-- a class with one instance: the class itself, the first instance
abbrev single : Bool → Bool → List Service → Option (List Service)
single zero one services = cond zero (Some (GetAttributeSingle ∷ [])) (cond one (Some services) None)

-- whether the class is Identity, Assembly, the Connection Manager, the counter; whether the instance is 0, 1; the
-- assembly of that number; whether there are application objects of the class, and the one of that number
abbrev pub table : Bool → Bool → Bool → Bool → Bool → Bool → Option Shape → Bool → Option ObjectShape → Option (List Service)
table b1 b4 b6 b100 z o x k y =
    cond b1 (single z o (GetAttributesAll ∷ GetAttributeList ∷ GetAttributeSingle ∷ []))
    (cond b4 (cond z (Some (GetAttributeSingle ∷ [])) (option_map services_of_assembly x))
    (cond b6 (cond o (Some []) None)
    (cond b100 (single z o (Add ∷ Clear ∷ GetAttributeList ∷ GetAttributeSingle ∷ SetAttributeSingle ∷ []))
    (cond z (cond k (Some (GetAttributeSingle ∷ [])) None) (option_map services_of_object y)))))

-- a service that is not for lists, whether the object has those or not
pub not_among : (code : ℕ) (lists : Bool) (ss : List Service) (s : Service) → service_in code ss ≡ None
    → ok_or (service_in code (cond lists ss [])) ServiceNotSupported ≡ Ok s → ⊥
not_among code true ss s e f =
    let g : ok_or None ServiceNotSupported ≡ Ok s = ap (λ o. ok_or o ServiceNotSupported) (sym e) ∙ f in cc
not_among code false ss s e f = cc

-- the service of this code among them
abbrev pub offered : ℕ → Option (List Service) → Result Service Refusal
offered code services = ok_or services PathDestinationUnknown >>= λ s. ok_or (service_in code s) ServiceNotSupported
