-- No set brings a value out of what its attribute may have.
use Rattle.std.proofs.Common.{◌≡◌, ℕ, zero, suc, eqb, true, false, cond, List, [], ◌∷◌, set, Result, Ok, Err, refl, sym, subst}
use Rattle.cip_bytes.specs.Reading.{map_ok}
use Rattle.cip_application.specs.declared.attribute.SetFault.{SetFault}
use Rattle.cip_application.specs.Attributes.{AttributeValues, with_attribute, AreAllowed}
use Rattle.cip_application.specs.Laws.{values_allowed_law}
use Rattle.cip_application.specs.Objects.{ObjectValues, AllAllowed, after_result, object_set, object_in, objects_set}
use Rattle.cip_application.specs.Values.{check_value}
use Rattle.cip_application.proofs.AfterSet.{was_set}

with_allowed : (b : AttributeValues) (xs : List AttributeValues) → check_value b.kind b.value ≡ Ok tt → AreAllowed xs → AreAllowed (with_attribute b xs)
with_allowed b [] ok h = tt
with_allowed b (x ∷ xs) ok h =
    elim (eqb x.number b.number) as (λ t. AreAllowed (cond t (b ∷ xs) (x ∷ with_attribute b xs))) [
      | true ↦ (ok, h.1)
      | false ↦ (h.0, with_allowed b xs ok h.1)
    ]

set_allowed : (o p : ObjectValues) (n : ℕ) (content : List ℕ) → object_set o n content ≡ Ok p → AreAllowed o.attributes → AreAllowed p.attributes
set_allowed o p n content e h =
    let w = was_set o p n content e in
    let s = w.2 in
    let P : ObjectValues → Type 0 = λ x. AreAllowed x.attributes in
    subst P (sym s.after) (with_allowed w.1 o.attributes s.allowed h)

at_allowed : (objects : List ObjectValues) (k : ℕ) → AllAllowed objects → AreAllowed (object_in objects k).attributes
at_allowed [] k h = tt
at_allowed (o ∷ objects) zero h = h.0
at_allowed (o ∷ objects) (suc k) h = at_allowed objects k h.1

put_allowed : (objects : List ObjectValues) (k : ℕ) (p : ObjectValues) → AllAllowed objects → AreAllowed p.attributes → AllAllowed (set objects k p)
put_allowed [] k p h ok = tt
put_allowed (o ∷ objects) zero p h ok = (ok, h.1)
put_allowed (o ∷ objects) (suc k) p h ok = (h.0, put_allowed objects k p h.1 ok)

result_allowed : (objects : List ObjectValues) (k : ℕ) (r : Result ObjectValues SetFault) → ((p : ObjectValues) → r ≡ Ok p → AreAllowed p.attributes) → AllAllowed objects → AllAllowed (after_result objects (map_ok (set objects k) r))
result_allowed objects k (Ok p) f h = put_allowed objects k p h (f p refl)
result_allowed objects k (Err e) f h = h

one_allowed : (objects : List ObjectValues) (k n : ℕ) (content : List ℕ) → AllAllowed objects → AllAllowed (after_result objects (objects_set objects k n content))
unfolding objects_set
one_allowed objects k n content h =
    result_allowed objects k (object_set (object_in objects k) n content)
    (λ p e. set_allowed (object_in objects k) p n content e (at_allowed objects k h)) h

pub values_allowed : values_allowed_law
values_allowed objects [] h = h
values_allowed objects (s ∷ sets) h =
    values_allowed (after_result objects (objects_set objects s.position s.number s.content)) sets
    (one_allowed objects s.position s.number s.content h)
