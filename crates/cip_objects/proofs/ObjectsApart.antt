-- The application objects of a configuration that no check refuses.
use Rattle.std.proofs.Common.{◌≡◌, ℕ, ◌<◌, eqb, Bool, true, false, cond, ◌&&◌, ◌||◌, nat_lt, List, [], ◌∷◌, length, map, Option, Some, None, refl, ap, ◌∙◌, arith}
use Rattle.std.proofs.lemmas.Bool.Decides.{nat_tests}
use Rattle.std.specs.List.{list_any}
use Rattle.cip_application.specs.declared.config.AttributeConfig.{AttributeConfig}
use Rattle.cip_application.specs.declared.config.ObjectConfig.{ObjectConfig}
use Rattle.cip_application.specs.declared.config.ObjectFault.{ObjectFault}
use Rattle.cip_application.specs.Attributes.{AttributeValues, with_placed, in_order}
use Rattle.cip_application.specs.Configuration.{is_taken_class, is_misplaced, has_taken_class, is_invalid_object, has_invalid_name, has_object, are_invalid_objects, is_invalid_attribute, are_invalid_attributes, has_invalid_attributes, total_capacity, fault_of, attribute_of_config, object_of_config, objects_of_config}
use Rattle.cip_objects.specs.Entries.{AreDistinct, AreApart, attribute_shape_of, object_shape_of}
use Rattle.cip_objects.specs.Tables.{object_at}

none_cond : (b : Bool) (x : ObjectFault) (r : Option ObjectFault) → cond b (Some x) r ≡ None → (b ≡ false) × (r ≡ None)
none_cond true x r e = absurd (cc)
none_cond false x r e = (refl, e)

or_false : (a b : Bool) → a || b ≡ false → (a ≡ false) × (b ≡ false)
or_false true b e = absurd (cc)
or_false false b e = (refl, e)

three_false : (a b c : Bool) → a || b || c ≡ false → (a ≡ false) × (b ≡ false) × (c ≡ false)
three_false true b c e = absurd (cc)
three_false false true c e = absurd (cc)
three_false false false true e = absurd (cc)
three_false false false false e = (refl, refl, refl)

four_false : (a b c d : Bool) → a || b || c || d ≡ false → (b ≡ false) × (c ≡ false)
four_false true b c d e = absurd (cc)
four_false false true c d e = absurd (cc)
four_false false false true d e = absurd (cc)
four_false false false false d e = (refl, refl)

above : (n : ℕ) → eqb n 0 ≡ false → 0 < n
above n e = grind (arith, nat_tests)

turned : (a b : ℕ) → eqb a b ≡ false → eqb b a ≡ false
turned a b e = grind (arith, nat_tests)

-- no later object has the class and the number
not_there : (class instance : ℕ) (cs : List ObjectConfig) → has_object class instance cs ≡ false → object_at class instance (map object_shape_of (objects_of_config cs)) ≡ None
not_there class instance [] e = refl
not_there class instance (o ∷ cs) e =
    let p = or_false (eqb o.class class && eqb o.instance instance) (has_object class instance cs) e in
    ap (λ t. cond t (Some (object_shape_of (object_of_config o))) (object_at class instance (map object_shape_of (objects_of_config cs)))) p.0
    ∙ not_there class instance cs p.1

abbrev numbers : List AttributeValues → List ℕ
numbers xs = map (λ a. a.number) xs

swap : (a b c : Bool) → b || (a || c) ≡ a || (b || c)
swap true true c = refl
swap true false c = refl
swap false b c = refl

-- sorting keeps the numbers
placed_any : (p : ℕ → Bool) (a : AttributeValues) (xs : List AttributeValues) → list_any p (numbers (with_placed a xs)) ≡ p a.number || list_any p (numbers xs)
placed_any p a [] = refl
placed_any p a (b ∷ xs) =
    elim (nat_lt a.number b.number) as (λ t. list_any p (numbers (cond t (a ∷ b ∷ xs) (b ∷ with_placed a xs))) ≡ p a.number || (p b.number || list_any p (numbers xs))) [
      | true ↦ refl
      | false ↦ ap (λ t. p b.number || t) (placed_any p a xs) ∙ swap (p a.number) (p b.number) (list_any p (numbers xs))
    ]

placed_distinct : (a : AttributeValues) (xs : List AttributeValues) → AreDistinct (numbers xs) → list_any (λ k. eqb k a.number) (numbers xs) ≡ false → AreDistinct (numbers (with_placed a xs))
placed_distinct a [] d h = (refl, tt)
placed_distinct a (b ∷ xs) d h =
    let p = or_false (eqb b.number a.number) (list_any (λ k. eqb k a.number) (numbers xs)) h in
    elim (nat_lt a.number b.number) as (λ t. AreDistinct (numbers (cond t (a ∷ b ∷ xs) (b ∷ with_placed a xs)))) [
      | true ↦ (h, d)
      | false ↦ (
        placed_any (λ k. eqb k b.number) a xs
            ∙ ap (λ t. t || list_any (λ k. eqb k b.number) (numbers xs)) (turned b.number a.number p.0) ∙ d.0,
        placed_distinct a xs d.1 p.1,
      )
    ]

order_any : (p : ℕ → Bool) (xs : List AttributeValues) → list_any p (numbers (in_order xs)) ≡ list_any p (numbers xs)
order_any p [] = refl
order_any p (a ∷ xs) = placed_any p a (in_order xs) ∙ ap (λ t. p a.number || t) (order_any p xs)

config_any : (p : ℕ → Bool) (cs : List AttributeConfig) → list_any p (numbers (map attribute_of_config cs)) ≡ list_any (λ c. p c.number) cs
config_any p [] = refl
config_any p (c ∷ cs) = ap (λ t. p c.number || t) (config_any p cs)

distinct : (cs : List AttributeConfig) → are_invalid_attributes cs ≡ false → AreDistinct (numbers (in_order (map attribute_of_config cs)))
distinct [] e = tt
distinct (c ∷ cs) e =
    let p = three_false (is_invalid_attribute c) (list_any (λ b. eqb b.number c.number) cs) (are_invalid_attributes cs) e in
    let xs = map attribute_of_config cs in
    placed_distinct (attribute_of_config c) (in_order xs) (distinct cs p.2)
    (order_any (λ k. eqb k c.number) xs ∙ config_any (λ k. eqb k c.number) cs ∙ p.1)

shape_numbers : (xs : List AttributeValues) → map (λ a. a.number) (map attribute_shape_of xs) ≡ numbers xs
shape_numbers [] = refl
shape_numbers (a ∷ xs) = ap (λ l. a.number ∷ l) (shape_numbers xs)

apart : (counter : Bool) (cs : List ObjectConfig) → are_invalid_objects counter cs ≡ false → list_any has_invalid_attributes cs ≡ false → AreApart counter (map object_shape_of (objects_of_config cs))
apart counter [] e f = tt
apart counter (o ∷ cs) e f =
    let p = three_false (is_invalid_object counter o) (has_object o.class o.instance cs) (are_invalid_objects counter cs) e in
    let q = four_false (eqb o.class 0) (has_taken_class counter o) (eqb o.instance 0) (has_invalid_name o.name) p.0 in
    let r = or_false (has_invalid_attributes o) (list_any has_invalid_attributes cs) f in
    let attributes = (or_false (nat_lt 32 (length o.attributes.items)) (are_invalid_attributes o.attributes.items) r.0).1 in (
      (or_false (is_taken_class counter o.class) (is_misplaced o) q.0).0,
      above o.instance q.1,
      not_there o.class o.instance cs p.1,
      rw (shape_numbers (in_order (map attribute_of_config o.attributes.items))) (distinct o.attributes.items attributes),
      apart counter cs p.2 r.1,
    )

pub apart_objects : (counter : Bool) (cs : List ObjectConfig) → fault_of counter cs ≡ None → AreApart counter (map object_shape_of (objects_of_config cs))
unfolding fault_of
apart_objects counter cs e =
    let object = none_cond (nat_lt 32 (length cs) || are_invalid_objects counter cs) _ _ e in
    let attribute = none_cond (list_any has_invalid_attributes cs || nat_lt 16384 (total_capacity cs)) _ _ object.1 in
    apart counter cs (or_false (nat_lt 32 (length cs)) (are_invalid_objects counter cs) object.0).1
    (or_false (list_any has_invalid_attributes cs) (nat_lt 16384 (total_capacity cs)) attribute.0).0
