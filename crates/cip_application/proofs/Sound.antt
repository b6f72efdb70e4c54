-- What holds of a configuration that no check refuses.
use Rattle.std.proofs.Common.{◌≡◌, ℕ, zero, suc, ◌+◌, ◌<◌, ◌≤◌, eqb, Bool, true, false, cond, ◌||◌, ◌&&◌, nat_lt, nat_le, List, [], ◌∷◌, length, get_or, map, Option, Some, None, Result, Ok, Err, is_err, slice_index, option_map, refl, ap, ◌∙◌, arith}
use Rattle.std.proofs.lemmas.Bool.Decides.{nat_tests}
use Rattle.std.specs.List.{list_any, All}
use Rattle.cip_bytes.specs.Reading.{◌>>◌}
use Rattle.cip_application.specs.declared.attribute.SetFault.{SetFault}
use Rattle.cip_application.specs.declared.attribute.SetFault.TheVariants.{NotEnoughData, TooMuchData, InvalidAttributeValue}
use Rattle.cip_application.specs.declared.config.AttributeConfig.{AttributeConfig}
use Rattle.cip_application.specs.declared.config.ObjectConfig.{ObjectConfig}
use Rattle.cip_application.specs.declared.config.ObjectFault.{ObjectFault}
use Rattle.cip_application.specs.declared.config.ServiceConfig.{ServiceConfig}
use Rattle.cip_application.specs.declared.kind.AttributeKind.{AttributeKind}
use Rattle.cip_application.specs.declared.kind.AttributeKind.TheVariants.{Fixed, ShortString}
use Rattle.cip_application.specs.Check.{demand}
use Rattle.cip_application.specs.Attributes.{AttributeValues, attribute_at, with_placed, in_order, AreAllowed}
use Rattle.cip_application.specs.Objects.{position_of, AllAllowed}
use Rattle.cip_application.specs.Values.{capacity, is_allowed, check_value}
use Rattle.cip_application.specs.Configuration.{is_taken_class, is_misplaced, has_taken_class, has_invalid_name, is_invalid_object, has_object, are_invalid_objects, has_invalid_range, is_invalid_kind, is_invalid_attribute, are_invalid_attributes, has_invalid_attributes, is_invalid_as, is_invalid_service, are_invalid_services, has_invalid_services, total_capacity, fault_of, attribute_of_config, object_of_config, AreOwn, IsBefore, AreInOrder}
use Rattle.cip_application.specs.Whole.{IsShort, IsSound}

none_cond : (b : Bool) (x : ObjectFault) (r : Option ObjectFault) → cond b (Some x) r ≡ None → (b ≡ false) × (r ≡ None)
none_cond true x r e = absurd (cc)
none_cond false x r e = (refl, e)

or_false : (a b : Bool) → a || b ≡ false → (a ≡ false) × (b ≡ false)
or_false true b e = absurd (cc)
or_false false b e = (refl, e)

none_any : {A : Type 0} (p : A → Bool) (xs : List A) → list_any p xs ≡ false → (k : ℕ) (d : A) → k < length xs → p (get_or xs k d) ≡ false
none_any p [] e k d h = absurd (omega arith)
none_any p (x ∷ xs) e zero d h = (or_false (p x) (list_any p xs) e).0
none_any p (x ∷ xs) e (suc k) d h = none_any p xs (or_false (p x) (list_any p xs) e).1 k d (omega arith)

at_most : (a b : ℕ) → nat_lt a b ≡ false → b ≤ a
at_most a b e = grind (arith, nat_tests)

at_least : (a b : ℕ) → nat_le a b ≡ true → a ≤ b
at_least a b e = grind (arith, nat_tests)

above : (n : ℕ) → eqb n 0 ≡ false → 0 < n
above n e = grind (arith, nat_tests)

-- a check that fails nowhere passed each test
abbrev checked : Bool → Bool → Bool → Result (Unit {0}) SetFault
checked small large allowed =
    let size : Result (Unit {0}) SetFault = cond small (Err NotEnoughData) (cond large (Err TooMuchData) (Ok tt)) in
    size >> demand allowed InvalidAttributeValue

passed : (small large allowed : Bool) → is_err (checked small large allowed) ≡ false → (large ≡ false) × (allowed ≡ true)
passed true large allowed e = absurd (cc)
passed false true allowed e = absurd (cc)
passed false false true e = (refl, refl)
passed false false false e = absurd (cc)

pub check_fits : (kind : AttributeKind) (value : List ℕ) → is_err (check_value kind value) ≡ false → length value ≤ capacity kind
check_fits (Fixed size range) value e =
    let p = passed (nat_lt (length value) size) (nat_lt size (length value)) (is_allowed (Fixed size range) value) e in
    at_most size (length value) p.0
check_fits (ShortString room) value e =
    let first = slice_index value 0 in
    let p = passed (nat_lt (length value) (first + 1)) (nat_lt (first + 1) (length value)) (nat_le first room) e in
    let a : length value ≤ first + 1 = at_most (first + 1) (length value) p.0 in
    let b : first ≤ room = at_least first room p.1 in
    omega arith

kind_short : (kind : AttributeKind) → is_invalid_kind kind ≡ false → capacity kind ≤ 500
kind_short kind e =
    let a = or_false (eqb (capacity kind) 0 || nat_lt 500 (capacity kind)) (has_invalid_range kind) e in
    let b = or_false (eqb (capacity kind) 0) (nat_lt 500 (capacity kind)) a.0 in
    at_most 500 (capacity kind) b.1

each_attribute : (xs : List AttributeConfig) → are_invalid_attributes xs ≡ false → (k : ℕ) (d : AttributeConfig) → k < length xs → is_invalid_attribute (get_or xs k d) ≡ false
each_attribute [] e k d h = absurd (omega arith)
each_attribute (x ∷ xs) e zero d h =
    let a = or_false (is_invalid_attribute x || list_any (λ b. eqb b.number x.number) xs) (are_invalid_attributes xs) e in
    (or_false (is_invalid_attribute x) (list_any (λ b. eqb b.number x.number) xs) a.0).0
each_attribute (x ∷ xs) e (suc k) d h =
    let a = or_false (is_invalid_attribute x || list_any (λ b. eqb b.number x.number) xs) (are_invalid_attributes xs) e in
    each_attribute xs a.1 k d (omega arith)

attribute_fits : (a : AttributeConfig) → is_invalid_attribute a ≡ false → (length a.value.items ≤ capacity a.kind) × (capacity a.kind ≤ 500)
attribute_fits a e =
    let p = or_false (eqb a.number 0 || is_invalid_kind a.kind) (is_err (check_value a.kind a.value.items)) e in
    let q = or_false (eqb a.number 0) (is_invalid_kind a.kind) p.0 in
    (check_fits a.kind a.value.items p.1, kind_short a.kind q.1)

each_service : (xs : List ServiceConfig) → are_invalid_services xs ≡ false → (k : ℕ) (d : ServiceConfig) → k < length xs → IsShort (get_or xs k d)
each_service [] e k d h = absurd (omega arith)
each_service (x ∷ xs) e zero d h =
    let a = or_false (is_invalid_service x || list_any (λ t. eqb t.number x.number) xs) (are_invalid_services xs) e in
    let b = or_false (is_invalid_service x) (list_any (λ t. eqb t.number x.number) xs) a.0 in
    let kind = or_false ((((nat_lt x.number 0x32 || nat_lt 0x63 x.number) || nat_lt x.most x.least) || nat_lt 480 x.most) || nat_lt 480 x.reply) (is_invalid_as x.kind x) b.0 in
    let c = or_false (((nat_lt x.number 0x32 || nat_lt 0x63 x.number) || nat_lt x.most x.least) || nat_lt 480 x.most) (nat_lt 480 x.reply) kind.0 in
    let d = or_false ((nat_lt x.number 0x32 || nat_lt 0x63 x.number) || nat_lt x.most x.least) (nat_lt 480 x.most) c.0 in
    record { asked = at_most 480 x.most d.1; answered = at_most 480 x.reply c.1 }
each_service (x ∷ xs) e (suc k) d h =
    let a = or_false (is_invalid_service x || list_any (λ t. eqb t.number x.number) xs) (are_invalid_services xs) e in
    each_service xs a.1 k d (omega arith)

services_short : (o : ObjectConfig) → has_invalid_services o ≡ false → All IsShort o.services.items
services_short o e =
    let p = or_false (nat_lt 16 (length o.services.items)) (are_invalid_services o.services.items) e in
    λ k d h. each_service o.services.items p.1 k d h

object_sound : (o : ObjectConfig) → has_invalid_attributes o ≡ false → has_invalid_services o ≡ false → IsSound o
object_sound o e f =
    let p = or_false (nat_lt 32 (length o.attributes.items)) (are_invalid_attributes o.attributes.items) e in
    record {
      few = at_most 32 (length o.attributes.items) p.0;
      fit = λ k d h. (attribute_fits (get_or o.attributes.items k d) (each_attribute o.attributes.items p.1 k d h)).0;
      short = λ k d h. (attribute_fits (get_or o.attributes.items k d) (each_attribute o.attributes.items p.1 k d h)).1;
      services = services_short o f;
    }

own_object : (counter : Bool) (o : ObjectConfig) → is_invalid_object counter o ≡ false → (is_taken_class counter o.class ≡ false) × (0 < o.class) × (0 < o.instance)
own_object counter o e =
    let a = or_false ((eqb o.class 0 || has_taken_class counter o) || eqb o.instance 0) (has_invalid_name o.name) e in
    let b = or_false (eqb o.class 0 || has_taken_class counter o) (eqb o.instance 0) a.0 in
    let c = or_false (eqb o.class 0) (has_taken_class counter o) b.0 in
    let t = or_false (is_taken_class counter o.class) (is_misplaced o) c.1 in
    (t.0, above o.class c.0, above o.instance b.1)

-- no object has the class and the instance number
alone : (class instance : ℕ) (xs : List ObjectConfig) → has_object class instance xs ≡ false → position_of class instance (map object_of_config xs) ≡ None
alone class instance [] e = refl
alone class instance (x ∷ xs) e =
    let p = or_false (eqb x.class class && eqb x.instance instance) (has_object class instance xs) e in
    ap (λ t. cond t (Some 0) (option_map (λ k. k + 1) (position_of class instance (map object_of_config xs)))) p.0
    ∙ ap (option_map (λ k. k + 1)) (alone class instance xs p.1)

own_objects : (counter : Bool) (xs : List ObjectConfig) → are_invalid_objects counter xs ≡ false → AreOwn counter (map object_of_config xs)
own_objects counter [] e = tt
own_objects counter (x ∷ xs) e =
    let a = or_false (is_invalid_object counter x || has_object x.class x.instance xs) (are_invalid_objects counter xs) e in
    let b = or_false (is_invalid_object counter x) (has_object x.class x.instance xs) a.0 in
    let o = own_object counter x b.0 in
    (o.0, o.1, o.2, alone x.class x.instance xs b.1, own_objects counter xs a.1)

-- an attribute that is placed adds its own number alone
no_other : (t : Bool) (b : AttributeValues) (o : Option AttributeValues) → cond t (Some b) o ≡ None → (t ≡ false) × (o ≡ None)
no_other true b o h = absurd (cc)
no_other false b o h = (refl, h)

absent_placed : (n : ℕ) (a : AttributeValues) (xs : List AttributeValues) → eqb a.number n ≡ false → attribute_at n xs ≡ None → attribute_at n (with_placed a xs) ≡ None
absent_placed n a [] e h = ap (λ t. cond t (Some a) None) e
absent_placed n a (b ∷ xs) e h =
    let p = no_other (eqb b.number n) b (attribute_at n xs) h in
    elim (nat_lt a.number b.number) as (λ t. attribute_at n (cond t (a ∷ b ∷ xs) (b ∷ with_placed a xs)) ≡ None) [
      | true ↦ ap (λ t. cond t (Some a) (attribute_at n (b ∷ xs))) e ∙ h
      | false ↦ ap (λ t. cond t (Some b) (attribute_at n (with_placed a xs))) p.0 ∙ absent_placed n a xs e p.1
    ]

absent : (n : ℕ) (xs : List AttributeConfig) → list_any (λ b. eqb b.number n) xs ≡ false → attribute_at n (in_order (map attribute_of_config xs)) ≡ None
absent n [] e = refl
absent n (x ∷ xs) e =
    let p = or_false (eqb x.number n) (list_any (λ b. eqb b.number n) xs) e in
    absent_placed n (attribute_of_config x) (in_order (map attribute_of_config xs)) p.0 (absent n xs p.1)

-- the attributes are put in order
before_placed : (n : ℕ) (a : AttributeValues) (xs : List AttributeValues) → n < a.number → IsBefore n xs → IsBefore n (with_placed a xs)
before_placed n a [] le h = le
before_placed n a (b ∷ xs) le h =
    elim (nat_lt a.number b.number) as (λ t. IsBefore n (cond t (a ∷ b ∷ xs) (b ∷ with_placed a xs))) [ true ↦ le | false ↦ h ]

below : (a b : ℕ) → nat_lt a b ≡ true → a < b
below a b e = grind (arith, nat_tests)

other_above : (a b : ℕ) → nat_lt a b ≡ false → eqb b a ≡ false → b < a
other_above a b e f = grind (arith, nat_tests)

placed_by : (t : Bool) (a b : AttributeValues) (xs : List AttributeValues) → nat_lt a.number b.number ≡ t → eqb b.number a.number ≡ false → AreInOrder (b ∷ xs) → AreInOrder (with_placed a xs) → AreInOrder (cond t (a ∷ b ∷ xs) (b ∷ with_placed a xs))
placed_by true a b xs e f h more = (below a.number b.number e, h)
placed_by false a b xs e f h more =
    (before_placed b.number a xs (other_above a.number b.number e f) h.0, more)

placed_in_order : (a : AttributeValues) (xs : List AttributeValues) → attribute_at a.number xs ≡ None → AreInOrder xs → AreInOrder (with_placed a xs)
placed_in_order a [] e h = (tt, tt)
placed_in_order a (b ∷ xs) e h =
    let p = no_other (eqb b.number a.number) b (attribute_at a.number xs) e in
    placed_by (nat_lt a.number b.number) a b xs refl p.0 h (placed_in_order a xs p.1 h.1)

in_order_is : (xs : List AttributeConfig) → are_invalid_attributes xs ≡ false → AreInOrder (in_order (map attribute_of_config xs))
in_order_is [] e = tt
in_order_is (x ∷ xs) e =
    let a = or_false (is_invalid_attribute x || list_any (λ b. eqb b.number x.number) xs) (are_invalid_attributes xs) e in
    let b = or_false (is_invalid_attribute x) (list_any (λ b. eqb b.number x.number) xs) a.0 in
    placed_in_order (attribute_of_config x) (in_order (map attribute_of_config xs)) (absent x.number xs b.1) (in_order_is xs a.1)

each_in_order : (xs : List ObjectConfig) → list_any has_invalid_attributes xs ≡ false → All (λ o. AreInOrder o.attributes) (map object_of_config xs)
each_in_order [] e k d h = absurd (omega arith)
each_in_order (x ∷ xs) e zero d h =
    let a = or_false (has_invalid_attributes x) (list_any has_invalid_attributes xs) e in
    let p = or_false (nat_lt 32 (length x.attributes.items)) (are_invalid_attributes x.attributes.items) a.0 in
    in_order_is x.attributes.items p.1
each_in_order (x ∷ xs) e (suc k) d h =
    each_in_order xs (or_false (has_invalid_attributes x) (list_any has_invalid_attributes xs) e).1 k d (omega arith)

-- the initial values are allowed
no_fault : (r : Result (Unit {0}) SetFault) → is_err r ≡ false → r ≡ Ok tt
no_fault (Ok u) e = refl
no_fault (Err f) e = absurd (cc)

placed_allowed : (a : AttributeValues) (xs : List AttributeValues) → check_value a.kind a.value ≡ Ok tt → AreAllowed xs → AreAllowed (with_placed a xs)
placed_allowed a [] ok h = (ok, tt)
placed_allowed a (b ∷ xs) ok h =
    elim (nat_lt a.number b.number) as (λ t. AreAllowed (cond t (a ∷ b ∷ xs) (b ∷ with_placed a xs))) [
      | true ↦ (ok, h)
      | false ↦ (h.0, placed_allowed a xs ok h.1)
    ]

attributes_allowed : (xs : List AttributeConfig) → are_invalid_attributes xs ≡ false → AreAllowed (in_order (map attribute_of_config xs))
attributes_allowed [] e = tt
attributes_allowed (x ∷ xs) e =
    let a = or_false (is_invalid_attribute x || list_any (λ b. eqb b.number x.number) xs) (are_invalid_attributes xs) e in
    let b = or_false (is_invalid_attribute x) (list_any (λ b. eqb b.number x.number) xs) a.0 in
    let p = or_false (eqb x.number 0 || is_invalid_kind x.kind) (is_err (check_value x.kind x.value.items)) b.0 in
    placed_allowed (attribute_of_config x) (in_order (map attribute_of_config xs)) (no_fault (check_value x.kind x.value.items) p.1)
    (attributes_allowed xs a.1)

objects_allowed : (xs : List ObjectConfig) → list_any has_invalid_attributes xs ≡ false → AllAllowed (map object_of_config xs)
objects_allowed [] e = tt
objects_allowed (x ∷ xs) e =
    let a = or_false (has_invalid_attributes x) (list_any has_invalid_attributes xs) e in
    let p = or_false (nat_lt 32 (length x.attributes.items)) (are_invalid_attributes x.attributes.items) a.0 in
    (attributes_allowed x.attributes.items p.1, objects_allowed xs a.1)

pub record AreSound (counter : Bool) (xs : List ObjectConfig) : Type 0 where
  pub few : length xs ≤ 32
  pub sound : All IsSound xs
  pub own : AreOwn counter (map object_of_config xs)
  pub allowed : AllAllowed (map object_of_config xs)
  pub in_order : All (λ o. AreInOrder o.attributes) (map object_of_config xs)

pub sound : (counter : Bool) (xs : List ObjectConfig) → fault_of counter xs ≡ None → AreSound counter xs
unfolding fault_of
sound counter xs e =
    let o = none_cond (nat_lt 32 (length xs) || are_invalid_objects counter xs) _ _ e in
    let a = none_cond (list_any has_invalid_attributes xs || nat_lt 16384 (total_capacity xs)) _ _ o.1 in
    let s = none_cond (list_any has_invalid_services xs) _ _ a.1 in
    let p = or_false (nat_lt 32 (length xs)) (are_invalid_objects counter xs) o.0 in
    let q = or_false (list_any has_invalid_attributes xs) (nat_lt 16384 (total_capacity xs)) a.0 in
    record {
      few = at_most 32 (length xs) p.0;
      sound = λ k d h. object_sound (get_or xs k d) (none_any has_invalid_attributes xs q.0 k d h) (none_any has_invalid_services xs s.0 k d h);
      own = own_objects counter xs p.1;
      allowed = objects_allowed xs q.0;
      in_order = each_in_order xs q.0;
    }
