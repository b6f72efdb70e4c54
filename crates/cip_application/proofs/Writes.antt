-- What a set by a peer and a write by the device change, by indices.
use Rattle.std.proofs.Common.{◌≡◌, ℕ, zero, suc, ◌<◌, List, [], ◌∷◌, length, get_or, set, Option, Some, None, Result, Ok, Err, OnOk, OnErr, IfErr, true, false, cond, option_map, option_and_then, ok_or, unwrap_or, is_some, refl, sym, ap, ◌∙◌}
use Rattle.cip_bytes.specs.Reading.{◌>>=◌, ◌>>◌, map_ok}
use Rattle.cip_application.specs.declared.attribute.SetFault.{SetFault}
use Rattle.cip_application.specs.declared.attribute.SetFault.TheVariants.{AttributeNotSettable, AttributeNotSupported}
use Rattle.cip_application.specs.Attributes.{AttributeValues, attribute_at, attribute_set, attribute_by, needs_approval, one_more}
use Rattle.cip_application.specs.Check.{demand}
use Rattle.cip_application.specs.Objects.{ObjectValues, IsAttributeAt, object_with, object_set, object_by, position_of, object_in, objects_set, after_result, objects_approved, objects_by}
use Rattle.cip_application.specs.Values.{Writing, check_value}
use Rattle.cip_application.proofs.Lookup.{same_get}

-- a result whose clause follows from another's
pub on_ok : {A E : Type 0} {P Q : Type 0} (r : Result A E) → (P → Q) → OnOk r P → OnOk r Q
on_ok (Ok x) f h = f h
on_ok (Err e) f h = h

pub if_err : {A E : Type 0} (P Q : E → Type 0) (r : Result A E) → ((e : E) → P e → Q e) → IfErr r P → IfErr r Q
if_err P Q (Ok x) f h = h
if_err P Q (Err e) f h = f e h

-- a write at an index, of what was there or of something else
set-get : {A : Type 0} (xs : List A) (k : ℕ) (d : A) → set xs k (get_or xs k d) ≡ xs
set-get [] k d = refl
set-get (x ∷ xs) zero d = refl
set-get (x ∷ xs) (suc k) d = ap (λ l. x ∷ l) (set-get xs k d)

written_in : {A : Type 0} (xs : List A) (k : ℕ) (d : A) (w : Option A) → set xs k (unwrap_or w (get_or xs k d)) ≡ unwrap_or (option_map (set xs k) w) xs
written_in xs k d None = set-get xs k d
written_in xs k d (Some x) = refl

-- an attribute keeps its number
all_passed : {A E : Type 0} (s t : Result (Unit {0}) E) (x y : A) → s >> (t >> Ok x) ≡ Ok y → x ≡ y
all_passed (Ok u) (Ok v) x y e = cc
all_passed (Ok u) (Err f) x y e = absurd (cc)
all_passed (Err f) t x y e = absurd (cc)

set_number : (a b : AttributeValues) (content : List ℕ) → attribute_set a content ≡ Ok b → b.number ≡ a.number
set_number a b content e =
    sym (ap (λ x. x.number) (all_passed (demand a.settable AttributeNotSettable) (check_value a.kind content) (record a { value = content; changes = one_more a.changes }) b e))

-- Set_Attribute_Single of an object
pub set_ok : (o : ObjectValues) (n i : ℕ) (content : List ℕ) (a b : AttributeValues) → IsAttributeAt o.attributes n i → a ≡ get_or o.attributes i a → attribute_set a content ≡ Ok b → object_set o n content ≡ Ok (record o { attributes = set o.attributes i b })
set_ok o n i content a b f is e =
    let there : attribute_at n o.attributes ≡ Some a = f.here a ∙ ap (λ x. Some x) (sym is) in
    let number : b.number ≡ n = set_number a b content e ∙ ap (λ x. x.number) is ∙ f.numbered a in
    ap (λ x. ok_or x AttributeNotSupported >>= (λ y. attribute_set y content >>= (λ after. Ok (object_with o after)))) there
    ∙ ap (λ r. r >>= (λ after. Ok (object_with o after))) e
    ∙ ap (λ l. Ok (record o { attributes = l })) (f.replaced b number)

pub set_err : (o : ObjectValues) (n i : ℕ) (content : List ℕ) (a : AttributeValues) (fault : SetFault) → IsAttributeAt o.attributes n i → a ≡ get_or o.attributes i a → attribute_set a content ≡ Err fault → object_set o n content ≡ Err fault
set_err o n i content a fault f is e =
    let there : attribute_at n o.attributes ≡ Some a = f.here a ∙ ap (λ x. Some x) (sym is) in
    ap (λ x. ok_or x AttributeNotSupported >>= (λ y. attribute_set y content >>= (λ after. Ok (object_with o after)))) there
    ∙ ap (λ r. r >>= (λ after. Ok (object_with o after))) e

-- a write by the device into an attribute of an object
with_written : (o : ObjectValues) (n i : ℕ) (a : AttributeValues) (w : Option (List ℕ)) → IsAttributeAt o.attributes n i → a.number ≡ n → option_map (object_with o) (option_map (λ v. record a { value = v }) w) ≡ option_map (λ l. record o { attributes = l }) (option_map (set o.attributes i) (option_map (λ v. record a { value = v }) w))
with_written o n i a None f e = refl
with_written o n i a (Some v) f e = ap (λ l. Some (record o { attributes = l })) (f.replaced (record a { value = v }) e)

write_at : (o : ObjectValues) (n i : ℕ) (how : Writing) (a : AttributeValues) → IsAttributeAt o.attributes n i → a ≡ get_or o.attributes i a → object_by how o n ≡ option_map (λ l. record o { attributes = l }) (option_map (set o.attributes i) (attribute_by how a))
write_at o n i how a f is =
    let there : attribute_at n o.attributes ≡ Some a = f.here a ∙ ap (λ x. Some x) (sym is) in
    let number : a.number ≡ n = ap (λ x. x.number) is ∙ f.numbered a in
    ap (λ x. option_map (object_with o) (option_and_then (λ y. attribute_by how y) x)) there
    ∙ with_written o n i a (how a.kind a.value) f number

unwrap_record : (o : ObjectValues) (w : Option (List AttributeValues)) → record o { attributes = unwrap_or w o.attributes } ≡ unwrap_or (option_map (λ l. record o { attributes = l }) w) o
unwrap_record o None = refl
unwrap_record o (Some l) = refl

pub object_written : (o m : ObjectValues) (n i : ℕ) (how : Writing) (a b : AttributeValues) → o ≡ m → IsAttributeAt o.attributes n i → a ≡ get_or o.attributes i a → b ≡ unwrap_or (attribute_by how a) a → record o { attributes = set o.attributes i b } ≡ unwrap_or (object_by how m n) m
object_written o m n i how a b view f is e =
    let w = attribute_by how a in
    ap (λ x. record o { attributes = set o.attributes i x }) (e ∙ ap (unwrap_or w) is)
    ∙ ap (λ l. record o { attributes = l }) (written_in o.attributes i a w)
    ∙ unwrap_record o (option_map (set o.attributes i) w)
    ∙ ap (λ x. unwrap_or x o) (sym (write_at o n i how a f is))
    ∙ ap (λ x. unwrap_or (object_by how x n) x) view

some_mapped : {A B : Type 0} (f : A → B) (w : Option A) → is_some (option_map f w) ≡ is_some w
some_mapped f None = refl
some_mapped f (Some x) = refl

-- the objects, by the index of one
pub here : (objects : List ObjectValues) (k : ℕ) (o : ObjectValues) → k < length objects → o ≡ get_or objects k o → object_in objects k ≡ o
here objects k o lt is = same_get objects k _ o lt ∙ sym is

pub objects_set_ok : (objects : List ObjectValues) (k n : ℕ) (content : List ℕ) (o p : ObjectValues) → k < length objects → o ≡ get_or objects k o → object_set o n content ≡ Ok p → objects_set objects k n content ≡ Ok (set objects k p)
unfolding objects_set
objects_set_ok objects k n content o p lt is e =
    ap (λ x. map_ok (set objects k) (object_set x n content)) (here objects k o lt is) ∙ ap (map_ok (set objects k)) e

pub objects_set_err : (objects : List ObjectValues) (k n : ℕ) (content : List ℕ) (o : ObjectValues) (fault : SetFault) → k < length objects → o ≡ get_or objects k o → object_set o n content ≡ Err fault → objects_set objects k n content ≡ Err fault
unfolding objects_set
objects_set_err objects k n content o fault lt is e =
    ap (λ x. map_ok (set objects k) (object_set x n content)) (here objects k o lt is) ∙ ap (map_ok (set objects k)) e

-- a set that the owner approved
pub approved_set : (m new : List ObjectValues) (k n : ℕ) (content : List ℕ) (r : Result (Unit {0}) SetFault) → needs_approval (attribute_at n (object_in m k).attributes) ≡ true → OnOk r (objects_set m k n content ≡ Ok new) → IfErr r (λ fault. objects_set m k n content ≡ Err fault) → OnErr r (new ≡ m) → new ≡ objects_approved m k n content
unfolding objects_approved
approved_set m new k n content (Ok u) t ok err same =
    sym (ap (λ b. cond b (after_result m (objects_set m k n content)) m) t ∙ ap (after_result m) ok)
approved_set m new k n content (Err f) t ok err same =
    same ∙ sym (ap (λ b. cond b (after_result m (objects_set m k n content)) m) t ∙ ap (after_result m) err)

pub approved_nothing : (m : List ObjectValues) (k n : ℕ) (content : List ℕ) → needs_approval (attribute_at n (object_in m k).attributes) ≡ false → m ≡ objects_approved m k n content
unfolding objects_approved
approved_nothing m k n content f =
    sym (ap (λ b. cond b (after_result m (objects_set m k n content)) m) f)

pub write_nowhere : (objects : List ObjectValues) (class instance n : ℕ) (how : Writing) → position_of class instance objects ≡ None → objects_by how objects class instance n ≡ None
write_nowhere objects class instance n how e =
    ap (option_and_then (λ k. option_map (set objects k) (object_by how (object_in objects k) n))) e

write_there : (objects : List ObjectValues) (class instance k n : ℕ) (how : Writing) (o : ObjectValues) → position_of class instance objects ≡ Some k → k < length objects → o ≡ get_or objects k o → objects_by how objects class instance n ≡ option_map (set objects k) (object_by how o n)
write_there objects class instance k n how o e lt is =
    ap (option_and_then (λ j. option_map (set objects j) (object_by how (object_in objects j) n))) e
    ∙ ap (λ x. option_map (set objects k) (object_by how x n)) (here objects k o lt is)

pub objects_written : (objects : List ObjectValues) (class instance k n : ℕ) (how : Writing) (o p : ObjectValues) → position_of class instance objects ≡ Some k → k < length objects → o ≡ get_or objects k o → p ≡ unwrap_or (object_by how o n) o → set objects k p ≡ unwrap_or (objects_by how objects class instance n) objects
objects_written objects class instance k n how o p at lt is e =
    let w = object_by how o n in
    ap (set objects k) (e ∙ ap (unwrap_or w) is)
    ∙ written_in objects k o w
    ∙ ap (λ x. unwrap_or x objects) (sym (write_there objects class instance k n how o at lt is))

pub objects_reported : (objects : List ObjectValues) (class instance k n : ℕ) (how : Writing) (o : ObjectValues) → position_of class instance objects ≡ Some k → k < length objects → o ≡ get_or objects k o → is_some (object_by how o n) ≡ is_some (objects_by how objects class instance n)
objects_reported objects class instance k n how o at lt is =
    sym (some_mapped (set objects k) (object_by how o n))
    ∙ ap is_some (sym (write_there objects class instance k n how o at lt is))
