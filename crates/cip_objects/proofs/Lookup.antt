-- The object map read by class, instance and attribute.
use Rattle.std.specs.Prelude.{◌==◌, if◌then◌else◌, ◌||◌}
use Rattle.std.proofs.Common.{◌≡◌, ℕ, ◌<◌, eqb, Bool, true, false, cond, ◌&&◌, List, [], ◌∷◌, ◌++◌, length, Option, Some, None, refl, sym, ap, ◌∙◌, arith, flat_map, sum, map, option_map}
use Rattle.byteorder.specs.Endian.{little_bytes}
use Rattle.std.specs.Option.{option_or, option_and_then}
use Rattle.std.proofs.lemmas.Bool.Decides.{nat_tests}
use Rattle.std.proofs.lemmas.Bool.{eqb-true}
use Rattle.std.specs.FinMap.{find, get-from_entries}
use Rattle.std.specs.List.{list_any}
use Rattle.cip_application.specs.Configuration.{is_taken_class}
use Rattle.cip_application.specs.Objects.{ObjectValues}
use Rattle.cip_objects.specs.Tables.{ObjectShape, object_at}
use Rattle.cip_objects.specs.ObjectMap.{Key, key, key_cmp}
use Rattle.cip_bytes.specs.declared.protocol.TheConstants.{IDENTITY, ASSEMBLY, COUNTER}
use Rattle.cip_objects.specs.Contents.{value_at}
use Rattle.cip_objects.specs.Entries.{IdentityValues, AssemblyValues, CounterValues, Entries, AreApart, entries_at, attribute_in, attributes_of_class, class_attributes, class_entries, object_attributes, object_entries, object_shape_of, identity_attributes, assembly_attributes, counter_attributes, assembly_at, greatest_of, entries_of, contents_of, NoneIsClass}
use Rattle.cip_objects.proofs.Blocks.{first_at}
use Rattle.cip_objects.proofs.Map.{find_append, find_at, key_total}

-- the contents in the order in which the code looks them up: by class, then instance, then attribute
abbrev pub class_or_instance : ℕ → Option (List ℕ) → Option (List ℕ) → Option (List ℕ)
class_or_instance instance of_class of_instance =
    if instance == 0 then of_class else (if instance == 1 then of_instance else None)

abbrev pub block_value : ℕ → Option AssemblyValues → Option (List ℕ)
block_value attribute b = option_and_then (λ x. attribute_in attribute (assembly_attributes x)) b

-- the application object of a class with an instance number
abbrev pub find_object : ℕ → ℕ → List ObjectValues → Option ObjectValues
find_object class instance [] = None
find_object class instance (o ∷ os) =
    if (o.class == class) && (o.instance == instance) then Some o else find_object class instance os

abbrev pub object_value : ℕ → Option ObjectValues → Option (List ℕ)
object_value attribute o = option_and_then (λ x. attribute_in attribute (object_attributes x)) o

abbrev pub own_value : ℕ → ℕ → ℕ → List ObjectValues → Option (List ℕ)
own_value class instance attribute os =
    if instance == 0 then
    (if list_any (λ o. o.class == class) (map object_shape_of os) then
    attribute_in attribute (attributes_of_class class (map object_shape_of os)) else None)
    else object_value attribute (find_object class instance os)

abbrev pub lookup : IdentityValues → List AssemblyValues → CounterValues → List ObjectValues → ℕ → ℕ → ℕ → Option (List ℕ)
lookup d bs c os class instance attribute =
    if class == IDENTITY then
    class_or_instance instance (attribute_in attribute (class_attributes 1 1 1)) (attribute_in attribute (identity_attributes d))
    else (if class == ASSEMBLY then
    (if instance == 0 then attribute_in attribute (class_attributes 2 (greatest_of bs) (length bs))
    else block_value attribute (assembly_at instance bs))
    else (if (class == COUNTER) && c.enabled then
    class_or_instance instance (attribute_in attribute (class_attributes 1 1 1)) (attribute_in attribute (counter_attributes c))
    else own_value class instance attribute os))

abbrev pub blocks_of : List AssemblyValues → Entries
blocks_of bs = flat_map (λ b. entries_at ASSEMBLY b.instance (assembly_attributes b)) bs

none_chosen : (p q r : Bool) (x y z u v w : List ℕ) → cond p (Some x) (cond q (Some y) (cond r (Some z) None)) ≡ None → cond p (Some u) (cond q (Some v) (cond r (Some w) None)) ≡ None
none_chosen true q r x y z u v w h = absurd (cc)
none_chosen false true r x y z u v w h = absurd (cc)
none_chosen false false true x y z u v w h = absurd (cc)
none_chosen false false false x y z u v w h = refl

-- all assemblies have the same attributes
block_none : (a : ℕ) (b c : AssemblyValues) → attribute_in a (assembly_attributes b) ≡ None → attribute_in a (assembly_attributes c) ≡ None
block_none a b c h =
    none_chosen (eqb a 1) (eqb a 3) (eqb a 4) (little_bytes 2 (length b.members)) b.content (little_bytes 2 (sum b.members)) (little_bytes 2 (length c.members)) c.content (little_bytes 2 (sum c.members)) h

rest_none : (a i : ℕ) (b : AssemblyValues) (bs : List AssemblyValues) → attribute_in a (assembly_attributes b) ≡ None → block_value a (assembly_at i bs) ≡ None
rest_none a i b [] h = refl
rest_none a i b (c ∷ bs) h =
    elim (eqb c.instance i) as (λ t. block_value a (cond t (Some c) (assembly_at i bs)) ≡ None) [
      | true ↦ block_none a b c h
      | false ↦ rest_none a i b bs h
    ]

or_none : {A : Type 0} (x : Option A) (y : Option A) → (x ≡ None → y ≡ None) → option_or x y ≡ x
or_none None y h = h refl
or_none (Some x) y h = refl

eqb-turned : (a b : ℕ) → eqb a b ≡ eqb b a
eqb-turned a b = grind (arith, nat_tests)

-- one assembly before the others
one_more : (class_is same : Bool) (x y : Option (List ℕ)) → (x ≡ None → y ≡ None) → option_or (cond (class_is && same) x None) (cond class_is y None) ≡ cond class_is (cond same x y) None
one_more true true x y h = or_none x y h
one_more true false x y h = refl
one_more false same x y h = refl

value_cond : (a : ℕ) (t : Bool) (b : AssemblyValues) (o : Option AssemblyValues) → block_value a (cond t (Some b) o) ≡ cond t (attribute_in a (assembly_attributes b)) (block_value a o)
value_cond a true b o = refl
value_cond a false b o = refl

no_block : (t : Bool) → ◌≡◌ {A = Option (List ℕ)} None (cond t None None)
no_block true = refl
no_block false = refl

above : (n : ℕ) → 0 < n → eqb n 0 ≡ false
above n h = grind (arith, nat_tests)

pub find_blocks : (q : Key) (bs : List AssemblyValues) → find key_cmp q (blocks_of bs) ≡ cond (eqb q.class ASSEMBLY) (block_value q.attribute (assembly_at q.instance bs)) None
find_blocks q [] = no_block (eqb q.class ASSEMBLY)
find_blocks q (b ∷ bs) =
    find_append q (entries_at ASSEMBLY b.instance (assembly_attributes b)) (blocks_of bs)
    ∙ ap (λ o. option_or o (find key_cmp q (blocks_of bs))) (find_at q ASSEMBLY b.instance (assembly_attributes b))
    ∙ ap (option_or (cond (eqb q.class ASSEMBLY && eqb q.instance b.instance) (attribute_in q.attribute (assembly_attributes b)) None)) (find_blocks q bs)
    ∙ one_more (eqb q.class ASSEMBLY) (eqb q.instance b.instance) (attribute_in q.attribute (assembly_attributes b)) (block_value q.attribute (assembly_at q.instance bs)) (rest_none q.attribute q.instance b bs)
    ∙ ap (λ t. cond (eqb q.class ASSEMBLY) (cond t (attribute_in q.attribute (assembly_attributes b)) (block_value q.attribute (assembly_at q.instance bs))) None) (eqb-turned q.instance b.instance)
    ∙ ap (λ v. cond (eqb q.class ASSEMBLY) v None) (sym (value_cond q.attribute (eqb b.instance q.instance) b (assembly_at q.instance bs)))

pub none_of_class : (bs : List AssemblyValues) → NoneIsClass bs → assembly_at 0 bs ≡ None
none_of_class [] h = refl
none_of_class (b ∷ bs) h = ap (λ t. cond t (Some b) (assembly_at 0 bs)) (above b.instance h.0) ∙ none_of_class bs h.1

or_nothing : {A : Type 0} (x : Option A) → option_or x None ≡ x
or_nothing None = refl
or_nothing (Some x) = refl

-- the second is read only if the first is not
or_else : (t : Bool) (x y : Option (List ℕ)) → (t ≡ true → y ≡ None) → option_or (cond t x None) y ≡ cond t x y
or_else true x y h = ap (option_or x) (h refl) ∙ or_nothing x
or_else false x y h = refl

or_twice : (x : Option (List ℕ)) (w : Bool) → option_or x (cond w x None) ≡ x
or_twice (Some x) w = refl
or_twice None true = refl
or_twice None false = refl

-- one class of application objects before the others
class_more : (t z w : Bool) (x y : Option (List ℕ)) → (t ≡ true → x ≡ y) → option_or (cond (t && z) x None) (cond z (cond w y None) None) ≡ cond z (cond (t || w) y None) None
class_more true true w x y h = ap (λ v. option_or v (cond w y None)) (h refl) ∙ or_twice y w
class_more true false w x y h = refl
class_more false true w x y h = refl
class_more false false w x y h = refl

find_classes : (q : Key) (all ss : List ObjectShape) → find key_cmp q (class_entries all ss) ≡ cond (eqb q.instance 0) (cond (list_any (λ o. eqb o.class q.class) ss) (attribute_in q.attribute (attributes_of_class q.class all)) None) None
find_classes q all [] = no_block (eqb q.instance 0)
find_classes q all (s ∷ ss) =
    let value = λ (n : ℕ). attribute_in q.attribute (attributes_of_class n all) in
    find_append q (entries_at s.class 0 (attributes_of_class s.class all)) (class_entries all ss)
    ∙ ap (λ o. option_or o (find key_cmp q (class_entries all ss))) (find_at q s.class 0 (attributes_of_class s.class all))
    ∙ ap (option_or (cond (eqb q.class s.class && eqb q.instance 0) (value s.class) None)) (find_classes q all ss)
    ∙ class_more (eqb q.class s.class) (eqb q.instance 0) (list_any (λ o. eqb o.class q.class) ss) (value s.class) (value q.class)
    (λ t. ap value (sym (eqb-true q.class s.class t)))
    ∙ ap (λ t. cond (eqb q.instance 0) (cond (t || list_any (λ o. eqb o.class q.class) ss) (value q.class) None) None) (eqb-turned q.class s.class)

-- the shape of an application object is that of its values
pub object_at-map : (class instance : ℕ) (os : List ObjectValues) → object_at class instance (map object_shape_of os) ≡ option_map object_shape_of (find_object class instance os)
object_at-map class instance [] = refl
object_at-map class instance (o ∷ os) =
    elim (eqb o.class class && eqb o.instance instance) as (λ t. cond t (Some (object_shape_of o)) (object_at class instance (map object_shape_of os)) ≡ option_map object_shape_of (cond t (Some o) (find_object class instance os))) [
      | true ↦ refl
      | false ↦ object_at-map class instance os
    ]

no_shape : (o : Option ObjectValues) → option_map object_shape_of o ≡ None → o ≡ None
no_shape None e = refl
no_shape (Some o) e = absurd (cc)

pub not_found : (class instance : ℕ) (os : List ObjectValues) → object_at class instance (map object_shape_of os) ≡ None → find_object class instance os ≡ None
not_found class instance os e = no_shape (find_object class instance os) (sym (object_at-map class instance os) ∙ e)

pub both_true : (a b : Bool) → a && b ≡ true → (a ≡ true) × (b ≡ true)
both_true true b h = (refl, h)
both_true false b h = absurd (cc)

object_cond : (a : ℕ) (t : Bool) (o : ObjectValues) (r : Option ObjectValues) → object_value a (cond t (Some o) r) ≡ cond t (attribute_in a (object_attributes o)) (object_value a r)
object_cond a true o r = refl
object_cond a false o r = refl

-- no later object has the same class and number
apart_none : (q : Key) (o : ObjectValues) (os : List ObjectValues) → object_at o.class o.instance (map object_shape_of os) ≡ None → eqb q.class o.class && eqb q.instance o.instance ≡ true → object_value q.attribute (find_object q.class q.instance os) ≡ None
apart_none q o os e t =
    let p = both_true (eqb q.class o.class) _ t in
    ap (λ n. object_value q.attribute (find_object n q.instance os)) (eqb-true q.class o.class p.0)
    ∙ ap (λ n. object_value q.attribute (find_object o.class n os)) (eqb-true q.instance o.instance p.1)
    ∙ ap (object_value q.attribute) (not_found o.class o.instance os e)

both_turned : (a b c d : ℕ) → eqb a b && eqb c d ≡ eqb b a && eqb d c
both_turned a b c d = ap (λ t. t && eqb c d) (eqb-turned a b) ∙ ap (λ t. eqb b a && t) (eqb-turned c d)

find_objects : (q : Key) (counter : Bool) (os : List ObjectValues) → AreApart counter (map object_shape_of os) → find key_cmp q (object_entries os) ≡ object_value q.attribute (find_object q.class q.instance os)
find_objects q counter [] h = refl
find_objects q counter (o ∷ os) h =
    let here = attribute_in q.attribute (object_attributes o) in
    find_append q (entries_at o.class o.instance (object_attributes o)) (object_entries os)
    ∙ ap (λ x. option_or x (find key_cmp q (object_entries os))) (find_at q o.class o.instance (object_attributes o))
    ∙ ap (option_or (cond (eqb q.class o.class && eqb q.instance o.instance) here None)) (find_objects q counter os h.4)
    ∙ or_else (eqb q.class o.class && eqb q.instance o.instance) here (object_value q.attribute (find_object q.class q.instance os)) (apart_none q o os h.2)
    ∙ ap (λ t. cond t here (object_value q.attribute (find_object q.class q.instance os))) (both_turned q.class o.class q.instance o.instance)
    ∙ sym (object_cond q.attribute (eqb o.class q.class && eqb o.instance q.instance) o (find_object q.class q.instance os))

-- no application object is a class itself
pub above_none : (counter : Bool) (class : ℕ) (os : List ObjectValues) → AreApart counter (map object_shape_of os) → find_object class 0 os ≡ None
above_none counter class [] h = refl
above_none counter class (o ∷ os) h =
    ap (λ t. cond (eqb o.class class && t) (Some o) (find_object class 0 os)) (above o.instance h.1)
    ∙ elim (eqb o.class class) as (λ t. cond (t && false) (Some o) (find_object class 0 os) ≡ None) [
      | true ↦ above_none counter class os h.4
      | false ↦ above_none counter class os h.4
    ]

find_own : (q : Key) (counter : Bool) (os : List ObjectValues) → AreApart counter (map object_shape_of os) → find key_cmp q (class_entries (map object_shape_of os) (map object_shape_of os) ++ object_entries os) ≡ own_value q.class q.instance q.attribute os
find_own q counter os h =
    let ss = map object_shape_of os in
    let of_class = cond (list_any (λ o. eqb o.class q.class) ss) (attribute_in q.attribute (attributes_of_class q.class ss)) None in
    find_append q (class_entries ss ss) (object_entries os)
    ∙ ap (λ x. option_or x (find key_cmp q (object_entries os))) (find_classes q ss ss)
    ∙ ap (option_or (cond (eqb q.instance 0) of_class None)) (find_objects q counter os h)
    ∙ or_else (eqb q.instance 0) of_class (object_value q.attribute (find_object q.class q.instance os))
    (λ z. ap (λ n. object_value q.attribute (find_object q.class n os)) (eqb-true q.instance 0 z)
    ∙ ap (object_value q.attribute) (above_none counter q.class os h))

-- no application object has a class that the device has itself
pub record NoneOf (class : ℕ) (os : List ObjectValues) : Type 0 where
  pub of_class : list_any (λ o. eqb o.class class) (map object_shape_of os) ≡ false
  pub of_number : (instance : ℕ) → find_object class instance os ≡ None

other_class : (counter t : Bool) (class other : ℕ) → eqb other class ≡ t → is_taken_class counter class ≡ true → is_taken_class counter other ≡ false → t ≡ false
other_class counter true class other e taken free = absurd (let f = ap (is_taken_class counter) (eqb-true other class e) in cc)
other_class counter false class other e taken free = refl

pub taken_none : (counter : Bool) (class : ℕ) (os : List ObjectValues) → AreApart counter (map object_shape_of os) → is_taken_class counter class ≡ true → NoneOf class os
taken_none counter class [] h taken = record { of_class = refl; of_number = λ i. refl }
taken_none counter class (o ∷ os) h taken =
    let n = taken_none counter class os h.4 taken in
    let here = other_class counter (eqb o.class class) class o.class refl taken h.0 in
    record {
      of_class = ap (λ t. t || list_any (λ x. eqb x.class class) (map object_shape_of os)) here ∙ n.of_class;
      of_number = λ i. ap (λ t. cond (t && eqb o.instance i) (Some o) (find_object class i os)) here ∙ n.of_number i;
    }

either_none : (t : Bool) → ◌≡◌ {A = Option (List ℕ)} (cond t None None) None
either_none true = refl
either_none false = refl

pub taken_value : (counter : Bool) (class instance attribute : ℕ) (os : List ObjectValues) → AreApart counter (map object_shape_of os) → is_taken_class counter class ≡ true → own_value class instance attribute os ≡ None
taken_value counter class instance attribute os h taken =
    let n = taken_none counter class os h taken in
    let value = attribute_in attribute (attributes_of_class class (map object_shape_of os)) in
    ap (λ t. cond (eqb instance 0) (cond t value None) (object_value attribute (find_object class instance os))) n.of_class
    ∙ ap (λ o. cond (eqb instance 0) None (object_value attribute o)) (n.of_number instance)
    ∙ either_none (eqb instance 0)

and_true : (t : Bool) → t && true ≡ t
and_true true = refl
and_true false = refl

-- the counter, if the device has it
if_enabled : (q : Key) (n t : Bool) (c : CounterValues) → eqb q.class COUNTER ≡ t → find key_cmp q (cond n (entries_at COUNTER 0 (class_attributes 1 1 1) ++ entries_at COUNTER 1 (counter_attributes c)) [])
    ≡ option_or (cond ((t && n) && eqb q.instance 0) (attribute_in q.attribute (class_attributes 1 1 1)) None) (cond ((t && n) && eqb q.instance 1) (attribute_in q.attribute (counter_attributes c)) None)
if_enabled q true t c e =
    find_append q (entries_at COUNTER 0 (class_attributes 1 1 1)) (entries_at COUNTER 1 (counter_attributes c))
    ∙ ap (λ x. option_or x (find key_cmp q (entries_at COUNTER 1 (counter_attributes c)))) (find_at q COUNTER 0 (class_attributes 1 1 1))
    ∙ ap (option_or (cond (eqb q.class COUNTER && eqb q.instance 0) (attribute_in q.attribute (class_attributes 1 1 1)) None)) (find_at q COUNTER 1 (counter_attributes c))
    ∙ ap (λ b. option_or (cond (b && eqb q.instance 0) (attribute_in q.attribute (class_attributes 1 1 1)) None) (cond (b && eqb q.instance 1) (attribute_in q.attribute (counter_attributes c)) None)) (e ∙ sym (and_true t))
if_enabled q false true c e = refl
if_enabled q false false c e = refl

-- what is read at a key, part by part
parts : (d : IdentityValues) (bs : List AssemblyValues) (c : CounterValues) (os : List ObjectValues) (q : Key) → AreApart c.enabled (map object_shape_of os) → find key_cmp q (entries_of d bs c os) ≡
    option_or (cond (eqb q.class 1 && eqb q.instance 0) (attribute_in q.attribute (class_attributes 1 1 1)) None)
    (option_or (cond (eqb q.class 1 && eqb q.instance 1) (attribute_in q.attribute (identity_attributes d)) None)
    (option_or (cond (eqb q.class 4 && eqb q.instance 0) (attribute_in q.attribute (class_attributes 2 (greatest_of bs) (length bs))) None)
    (option_or (cond (eqb q.class 4) (block_value q.attribute (assembly_at q.instance bs)) None)
    (option_or (option_or (cond ((eqb q.class 100 && c.enabled) && eqb q.instance 0) (attribute_in q.attribute (class_attributes 1 1 1)) None)
    (cond ((eqb q.class 100 && c.enabled) && eqb q.instance 1) (attribute_in q.attribute (counter_attributes c)) None))
    (own_value q.class q.instance q.attribute os)))))
unfolding entries_of
parts d bs c os q h =
    let counter = if_enabled q c.enabled (eqb q.class COUNTER) c refl in
    let own = sym (find_append q (class_entries (map object_shape_of os) (map object_shape_of os)) (object_entries os)) ∙ find_own q c.enabled os h in
    simp (find_append, find_at, find_blocks, counter, own)

pick : {A : Type 0} (z o : Bool) (x y : Option A) → (z ≡ true → o ≡ false) → option_or (cond z x None) (cond o y None) ≡ cond z x (cond o y None)
pick true true x y h = absurd (let e = h refl in cc)
pick true false x y h = or_nothing x
pick false o x y h = refl

one_class : (a b e z o : Bool) (x1 x2 x3 x4 x5 x6 y : Option (List ℕ)) → (a ≡ true → b ≡ false) → (a ≡ true → e ≡ false) → (b ≡ true → e ≡ false) → (z ≡ true → o ≡ false) → (z ≡ true → x4 ≡ None) → (a ≡ true → y ≡ None) → (b ≡ true → y ≡ None) → (e ≡ true → y ≡ None) →
    option_or (cond (a && z) x1 None) (option_or (cond (a && o) x2 None) (option_or (cond (b && z) x3 None) (option_or (cond b x4 None) (option_or (option_or (cond (e && z) x5 None) (cond (e && o) x6 None)) y))))
    ≡ cond a (cond z x1 (cond o x2 None)) (cond b (cond z x3 x4) (cond e (cond z x5 (cond o x6 None)) y))
one_class true true e z o x1 x2 x3 x4 x5 x6 y h1 h2 h3 h4 h5 ya yb ye = absurd (let p = h1 refl in cc)
one_class true false true z o x1 x2 x3 x4 x5 x6 y h1 h2 h3 h4 h5 ya yb ye = absurd (let p = h2 refl in cc)
one_class true false false z o x1 x2 x3 x4 x5 x6 y h1 h2 h3 h4 h5 ya yb ye =
    ap (λ v. option_or (cond z x1 None) (option_or (cond o x2 None) v)) (ya refl)
    ∙ ap (option_or (cond z x1 None)) (or_nothing (cond o x2 None)) ∙ pick z o x1 x2 h4
one_class false true true z o x1 x2 x3 x4 x5 x6 y h1 h2 h3 h4 h5 ya yb ye = absurd (let p = h3 refl in cc)
one_class false true false true o x1 x2 x3 x4 x5 x6 y h1 h2 h3 h4 h5 ya yb ye =
    ap (λ v. option_or x3 (option_or v y)) (h5 refl) ∙ ap (option_or x3) (yb refl) ∙ or_nothing x3
one_class false true false false o x1 x2 x3 x4 x5 x6 y h1 h2 h3 h4 h5 ya yb ye = ap (option_or x4) (yb refl) ∙ or_nothing x4
one_class false false true z o x1 x2 x3 x4 x5 x6 y h1 h2 h3 h4 h5 ya yb ye =
    ap (option_or (option_or (cond z x5 None) (cond o x6 None))) (ye refl) ∙ or_nothing (option_or (cond z x5 None) (cond o x6 None)) ∙ pick z o x5 x6 h4
one_class false false false z o x1 x2 x3 x4 x5 x6 y h1 h2 h3 h4 h5 ya yb ye = refl

apart : (n a b : ℕ) → (a ≡ b → ⊥) → eqb n a ≡ true → eqb n b ≡ false
apart n a b h e = grind (arith, nat_tests)

-- a class is not another one, nor the counter's
not_counter : (n a : ℕ) (t : Bool) → (a ≡ 100 → ⊥) → eqb n a ≡ true → eqb n 100 && t ≡ false
not_counter n a t h e = ap (λ b. b && t) (apart n a 100 h e)

no_class_block : (a i : ℕ) (bs : List AssemblyValues) → NoneIsClass bs → eqb i 0 ≡ true → block_value a (assembly_at i bs) ≡ None
no_class_block a i bs h e =
    ap (λ n. block_value a (assembly_at n bs)) (eqb-true i 0 e) ∙ ap (block_value a) (none_of_class bs h)

-- the classes that the device has itself
pub taken_identity : (counter : Bool) (class : ℕ) → eqb class 1 ≡ true → is_taken_class counter class ≡ true
taken_identity counter class e = ap (is_taken_class counter) (eqb-true class 1 e)

pub taken_assembly : (counter : Bool) (class : ℕ) → eqb class 4 ≡ true → is_taken_class counter class ≡ true
taken_assembly counter class e = ap (is_taken_class counter) (eqb-true class 4 e)

pub taken_counter : (counter : Bool) (class : ℕ) → eqb class 100 && counter ≡ true → is_taken_class counter class ≡ true
taken_counter counter class e =
    let p = both_true (eqb class 100) counter e in
    ap (is_taken_class counter) (eqb-true class 100 p.0) ∙ ap (λ t. is_taken_class t 100) p.1

-- The contents of these values are read by class, instance and attribute.
pub value_at-contents_of : (d : IdentityValues) (bs : List AssemblyValues) (c : CounterValues) (os : List ObjectValues) → NoneIsClass bs → AreApart c.enabled (map object_shape_of os) → (class instance attribute : ℕ) → value_at (contents_of d bs c os) class instance attribute ≡ lookup d bs c os class instance attribute
unfolding contents_of
value_at-contents_of d bs c os h own class instance attribute =
    let none = λ (t : is_taken_class c.enabled class ≡ true). taken_value c.enabled class instance attribute os own t in
    get-from_entries key_total (entries_of d bs c os) (key class instance attribute)
    ∙ parts d bs c os (key class instance attribute) own
    ∙ one_class (eqb class 1) (eqb class 4) (eqb class 100 && c.enabled) (eqb instance 0) (eqb instance 1) _ _ _ _ _ _ _
    (apart class 1 4 (λ e. omega arith)) (not_counter class 1 c.enabled (λ e. omega arith)) (not_counter class 4 c.enabled (λ e. omega arith)) (apart instance 0 1 (λ e. omega arith)) (no_class_block attribute instance bs h)
    (λ t. none (taken_identity c.enabled class t)) (λ t. none (taken_assembly c.enabled class t)) (λ t. none (taken_counter c.enabled class t))

pub ruleset reads = (value_at-contents_of, first_at)
