-- What is read after a set.
use Rattle.std.proofs.Common.{◌≡◌, ℕ, zero, suc, ◌<◌, eqb, Bool, true, false, cond, List, [], ◌∷◌, length, get_or, set, Option, Some, None, Result, Ok, Err, option_map, ok_or, refl, sym, ap, ◌∙◌, arith}
use Rattle.std.proofs.lemmas.Bool.Decides.{nat_tests}
use Rattle.std.proofs.lemmas.Bool.{eqb-true}
use Rattle.cip_bytes.specs.Reading.{◌>>=◌, ◌>>◌, map_ok}
use Rattle.cip_application.specs.declared.attribute.SetFault.{SetFault}
use Rattle.cip_application.specs.declared.attribute.SetFault.TheVariants.{AttributeNotSettable, AttributeNotSupported}
use Rattle.cip_application.specs.Attributes.{AttributeValues, attribute_at, with_attribute, attribute_set, one_more}
use Rattle.cip_application.specs.Check.{demand}
use Rattle.cip_application.specs.Laws.{get_after_set_law, set_leaves_others_law}
use Rattle.cip_application.specs.Objects.{ObjectValues, value_in, object_with, object_set, object_in, objects_set}
use Rattle.cip_application.specs.Values.{check_value}
use Rattle.cip_application.proofs.Lookup.{eqb-same, eqb-other}

apart : (a b : ℕ) → eqb a b ≡ false → a ≡ b → ⊥
apart a b e h = grind (arith, nat_tests)

-- the attribute that is found has the number
found_by : (t : Bool) (n : ℕ) (x a : AttributeValues) (xs : List AttributeValues) → eqb x.number n ≡ t → cond t (Some x) (attribute_at n xs) ≡ Some a → (attribute_at n xs ≡ Some a → a.number ≡ n) → a.number ≡ n
found_by true n x a xs e h more = let s : x ≡ a = cc in ap (λ y. y.number) (sym s) ∙ eqb-true x.number n e
found_by false n x a xs e h more = more h

found : (n : ℕ) (xs : List AttributeValues) (a : AttributeValues) → attribute_at n xs ≡ Some a → a.number ≡ n
found n [] a h = absurd (cc)
found n (x ∷ xs) a h = found_by (eqb x.number n) n x a xs refl h (found n xs a)

-- it is replaced
replaced_by : (t : Bool) (n : ℕ) (x a b : AttributeValues) (xs : List AttributeValues) → eqb x.number n ≡ t → cond t (Some x) (attribute_at n xs) ≡ Some a → b.number ≡ n → (attribute_at n xs ≡ Some a → attribute_at n (with_attribute b xs) ≡ Some b) → attribute_at n (with_attribute b (x ∷ xs)) ≡ Some b
replaced_by true n x a b xs t h e more =
    ap (λ u. attribute_at n (cond u (b ∷ xs) (x ∷ with_attribute b xs))) (eqb-same x.number b.number (eqb-true x.number n t ∙ sym e))
    ∙ ap (λ u. cond u (Some b) (attribute_at n xs)) (eqb-same b.number n e)
replaced_by false n x a b xs t h e more =
    ap (λ u. attribute_at n (cond u (b ∷ xs) (x ∷ with_attribute b xs))) (eqb-other x.number b.number (λ s. apart x.number n t (s ∙ e)))
    ∙ ap (λ u. cond u (Some x) (attribute_at n (with_attribute b xs))) t
    ∙ more h

replaced : (n : ℕ) (xs : List AttributeValues) (a b : AttributeValues) → attribute_at n xs ≡ Some a → b.number ≡ n → attribute_at n (with_attribute b xs) ≡ Some b
replaced n [] a b h e = absurd (cc)
replaced n (x ∷ xs) a b h e = replaced_by (eqb x.number n) n x a b xs refl h e (λ g. replaced n xs a b g e)

-- and no other one
kept_by : (t : Bool) (n : ℕ) (x b : AttributeValues) (xs : List AttributeValues) → eqb x.number b.number ≡ t → (n ≡ b.number → ⊥) → attribute_at n (with_attribute b xs) ≡ attribute_at n xs → attribute_at n (cond t (b ∷ xs) (x ∷ with_attribute b xs)) ≡ attribute_at n (x ∷ xs)
kept_by true n x b xs t other more =
    ap (λ u. cond u (Some b) (attribute_at n xs)) (eqb-other b.number n (λ s. other (sym s)))
    ∙ sym (ap (λ u. cond u (Some x) (attribute_at n xs)) (eqb-other x.number n (λ s. other (sym s ∙ eqb-true x.number b.number t))))
kept_by false n x b xs t other more = ap (cond (eqb x.number n) (Some x)) more

kept : (n : ℕ) (xs : List AttributeValues) (b : AttributeValues) → (n ≡ b.number → ⊥) → attribute_at n (with_attribute b xs) ≡ attribute_at n xs
kept n [] b other = refl
kept n (x ∷ xs) b other = kept_by (eqb x.number b.number) n x b xs refl other (kept n xs b other)

-- a set that is executed replaced the attribute with this one
pub record WasSet (o p : ObjectValues) (n : ℕ) (content : List ℕ) (a b : AttributeValues) : Type 0 where
  pub at : attribute_at n o.attributes ≡ Some a
  pub number : b.number ≡ n
  pub value : b.value ≡ content
  pub allowed : check_value b.kind b.value ≡ Ok tt
  pub after : p ≡ object_with o b

was_set_with : (o p : ObjectValues) (n : ℕ) (content : List ℕ) (a : AttributeValues) → attribute_at n o.attributes ≡ Some a → (s t : Result (Unit {0}) SetFault) → check_value a.kind content ≡ t → ((s >> (t >> Ok (record a { value = content; changes = one_more a.changes }))) >>= (λ after. Ok (object_with o after))) ≡ Ok p → WasSet o p n content a (record a { value = content; changes = one_more a.changes })
was_set_with o p n content a at (Ok u) (Ok v) c e = record { at = at; number = found n o.attributes a at; value = refl; allowed = c; after = cc }
was_set_with o p n content a at (Ok u) (Err f) c e = absurd (cc)
was_set_with o p n content a at (Err f) t c e = absurd (cc)

was_set_at : (o p : ObjectValues) (n : ℕ) (content : List ℕ) (w : Option AttributeValues) → attribute_at n o.attributes ≡ w → (ok_or w AttributeNotSupported >>= (λ y. attribute_set y content >>= (λ after. Ok (object_with o after)))) ≡ Ok p → (a : AttributeValues) × (b : AttributeValues) × WasSet o p n content a b
was_set_at o p n content None at e = absurd (cc)
was_set_at o p n content (Some a) at e =
    (a, record a { value = content; changes = one_more a.changes }, was_set_with o p n content a at (demand a.settable AttributeNotSettable) (check_value a.kind content) refl e)

pub was_set : (o p : ObjectValues) (n : ℕ) (content : List ℕ) → object_set o n content ≡ Ok p → (a : AttributeValues) × (b : AttributeValues) × WasSet o p n content a b
was_set o p n content e = was_set_at o p n content (attribute_at n o.attributes) refl e

set_value : (o p : ObjectValues) (n : ℕ) (content : List ℕ) → object_set o n content ≡ Ok p → value_in p n ≡ Some content
set_value o p n content e =
    let w = was_set o p n content e in
    let s = w.2 in
    ap (λ x. value_in x n) s.after
    ∙ ap (option_map (λ a. a.value)) (replaced n o.attributes w.0 w.1 s.at s.number)
    ∙ ap (λ v. Some v) s.value

other_value : (o p : ObjectValues) (n m : ℕ) (content : List ℕ) → object_set o n content ≡ Ok p → (m ≡ n → ⊥) → value_in p m ≡ value_in o m
other_value o p n m content e other =
    let w = was_set o p n content e in
    let s = w.2 in
    ap (λ x. value_in x m) s.after
    ∙ ap (option_map (λ a. a.value)) (kept m o.attributes w.1 (λ h. other (h ∙ s.number)))

-- the objects, by the index of one
set_at : (xs : List ObjectValues) (r : Result ObjectValues SetFault) (k : ℕ) (after : List ObjectValues) → map_ok (set xs k) r ≡ Ok after → (p : ObjectValues) × (r ≡ Ok p) × (after ≡ set xs k p)
set_at xs (Ok p) k after e = (p, refl, cc)
set_at xs (Err f) k after e = absurd (cc)

get-set_same : {A : Type 0} (xs : List A) (k : ℕ) (p d : A) → k < length xs → get_or (set xs k p) k d ≡ p
get-set_same [] k p d lt = absurd (omega arith)
get-set_same (x ∷ xs) zero p d lt = refl
get-set_same (x ∷ xs) (suc k) p d lt = get-set_same xs k p d (omega arith)

get-set_other : {A : Type 0} (xs : List A) (k j : ℕ) (p d : A) → (j ≡ k → ⊥) → get_or (set xs k p) j d ≡ get_or xs j d
get-set_other [] k j p d other = refl
get-set_other (x ∷ xs) zero zero p d other = absurd (other refl)
get-set_other (x ∷ xs) zero (suc j) p d other = refl
get-set_other (x ∷ xs) (suc k) zero p d other = refl
get-set_other (x ∷ xs) (suc k) (suc j) p d other = get-set_other xs k j p d (λ e. other (ap suc e))

pub get_after_set : get_after_set_law
unfolding objects_set
get_after_set objects after k n content lt e =
    let s = set_at objects (object_set (object_in objects k) n content) k after e in
    ap (λ xs. value_in (object_in xs k) n) s.2
    ∙ ap (λ o. value_in o n) (get-set_same objects k s.0 _ lt)
    ∙ set_value (object_in objects k) s.0 n content s.1

-- the same object or another one
others_by : (objects : List ObjectValues) (k n j m : ℕ) (content : List ℕ) (p : ObjectValues) (t : Bool) → eqb j k ≡ t → k < length objects → object_set (object_in objects k) n content ≡ Ok p → ((j ≡ k) × (m ≡ n) → ⊥) → value_in (object_in (set objects k p) j) m ≡ value_in (object_in objects j) m
others_by objects k n j m content p true t lt e other =
    let s : j ≡ k = eqb-true j k t in
    ap (λ i. value_in (object_in (set objects k p) i) m) s
    ∙ ap (λ o. value_in o m) (get-set_same objects k p _ lt)
    ∙ other_value (object_in objects k) p n m content e (λ h. other (s, h))
    ∙ ap (λ i. value_in (object_in objects i) m) (sym s)
others_by objects k n j m content p false t lt e other =
    ap (λ o. value_in o m) (get-set_other objects k j p _ (apart j k t))

pub set_leaves_others : set_leaves_others_law
unfolding objects_set
set_leaves_others objects after k n j m content lt e other =
    let s = set_at objects (object_set (object_in objects k) n content) k after e in
    ap (λ xs. value_in (object_in xs j) m) s.2
    ∙ others_by objects k n j m content s.0 (eqb j k) refl lt s.1 other
