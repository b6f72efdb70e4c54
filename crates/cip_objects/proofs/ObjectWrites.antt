-- Writing one attribute of an application object.
use Rattle.std.proofs.Common.{◌≡◌, ℕ, zero, suc, ◌+◌, eqb, Bool, true, false, cond, ◌&&◌, List, [], ◌∷◌, ◌++◌, length, set, map, flat_map, Option, Some, None, option_map, refl, sym, ap, ◌∙◌, arith}
use Rattle.std.proofs.lemmas.Bool.{eqb-true}
use Rattle.std.proofs.lemmas.Bool.Decides.{nat_tests}
use Rattle.std.specs.FinMap.{from_entries}
use Rattle.cip_application.specs.Attributes.{AttributeValues, attribute_at, with_attribute}
use Rattle.cip_application.specs.Objects.{ObjectValues, position_of, object_in}
use Rattle.cip_bytes.specs.declared.protocol.TheConstants.{IDENTITY, ASSEMBLY, COUNTER}
use Rattle.cip_objects.specs.Changes.{Tally, is_key, changes_at, one_more, counted_in}
use Rattle.cip_objects.specs.Contents.{Contents, with_value, with_change}
use Rattle.cip_objects.specs.Entries.{IdentityValues, AssemblyValues, CounterValues, Attributes, entries_at, attribute_in, class_attributes, counter_attributes, counter_entries, attributes_of_class, class_entries, object_attributes, object_entries, object_shape_of, object_tallies, greatest_of, entries_of, contents_of, shape_of, shapes_of, tally_of, device_of}
use Rattle.cip_objects.specs.ObjectMap.{Key, key}
use Rattle.cip_objects.specs.Tables.{ObjectShape}
use Rattle.cip_objects.proofs.Blocks.{eqb-same}
use Rattle.cip_objects.proofs.IdentityWrites.{twice, behind, apart}
use Rattle.cip_objects.proofs.Lookup.{blocks_of, both_true}
use Rattle.cip_objects.proofs.Map.{Updates, Absent, insert_updates, updates_front, updates_back, absent_at, updates_at}
use Rattle.cip_objects.proofs.Shapes.{none_counted, in_object}
use Rattle.cip_objects.proofs.Writes.{assembled, rest_of, absent_front, assembled_rest}

turned : (a b : ℕ) → eqb a b ≡ false → eqb b a ≡ false
turned a b e = grind (arith, nat_tests)

same_some : {A : Type 0} (x y : A) → ◌≡◌ {A = Option A} (Some x) (Some y) → x ≡ y
same_some x y e = cc

abbrev pairs : List AttributeValues → Attributes
pairs xs = map (λ a. (a.number, a.value)) xs

-- the attributes with another value at one number
by_number : (t : Bool) (b a new : AttributeValues) (xs : List AttributeValues) (x : ℕ) → eqb b.number new.number ≡ t → cond t (Some b) (attribute_at new.number xs) ≡ Some a
    → (attribute_at new.number xs ≡ Some a → attribute_in x (pairs (with_attribute new xs)) ≡ cond (eqb x new.number) (Some new.value) (attribute_in x (pairs xs)))
    → attribute_in x (pairs (cond t (new ∷ xs) (b ∷ with_attribute new xs))) ≡ cond (eqb x new.number) (Some new.value) (cond (eqb x b.number) (Some b.value) (attribute_in x (pairs xs)))
by_number true b a new xs x t e later =
    twice (eqb x new.number) new.value b.value (attribute_in x (pairs xs))
    ∙ ap (λ n. cond (eqb x new.number) (Some new.value) (cond (eqb x n) (Some b.value) (attribute_in x (pairs xs)))) (sym (eqb-true b.number new.number t))
by_number false b a new xs x t e later =
    behind (eqb x b.number) (eqb x new.number) (Some b.value) (Some new.value) _ _ (apart x new.number b.number (turned b.number new.number t)) (later e)

pub attributes_written : (a new : AttributeValues) (xs : List AttributeValues) (x : ℕ) → attribute_at new.number xs ≡ Some a → attribute_in x (pairs (with_attribute new xs)) ≡ cond (eqb x new.number) (Some new.value) (attribute_in x (pairs xs))
attributes_written a new [] x e = absurd (cc)
attributes_written a new (b ∷ xs) x e =
    by_number (eqb b.number new.number) b a new xs x refl e (λ f. attributes_written a new xs x f)

-- what does not see the change
by_part : {B : Type 0} (f : AttributeValues → B) (t : Bool) (b a new : AttributeValues) (xs : List AttributeValues) → cond t (Some b) (attribute_at new.number xs) ≡ Some a → f new ≡ f a
    → (attribute_at new.number xs ≡ Some a → map f (with_attribute new xs) ≡ map f xs) → map f (cond t (new ∷ xs) (b ∷ with_attribute new xs)) ≡ f b ∷ map f xs
by_part f true b a new xs e g later = ap (λ k. k ∷ map f xs) (g ∙ ap f (sym (same_some b a e)))
by_part f false b a new xs e g later = ap (λ l. f b ∷ l) (later e)

pub same_parts : {B : Type 0} (f : AttributeValues → B) (a new : AttributeValues) (xs : List AttributeValues) → attribute_at new.number xs ≡ Some a → f new ≡ f a → map f (with_attribute new xs) ≡ map f xs
same_parts f a new [] e g = absurd (cc)
same_parts f a new (b ∷ xs) e g = by_part f (eqb b.number new.number) b a new xs e g (λ h. same_parts f a new xs h g)

abbrev tally : ℕ → ℕ → AttributeValues → Tally
tally class instance a = record { of_key = key class instance a.number; changes = a.changes }

same_instance : (c i n m : ℕ) → is_key (key c i n) (key c i m) ≡ eqb n m
same_instance c i n m = ap (λ t. t && (eqb i i && eqb n m)) (eqb-same c c refl) ∙ ap (λ t. t && eqb n m) (eqb-same i i refl)

-- one more change of one attribute
by_count : (t : Bool) (c i : ℕ) (b a new : AttributeValues) (xs : List AttributeValues) → eqb b.number new.number ≡ t → cond t (Some b) (attribute_at new.number xs) ≡ Some a → new.changes ≡ one_more a.changes
    → (attribute_at new.number xs ≡ Some a → map (tally c i) (with_attribute new xs) ≡ counted_in (key c i new.number) (map (tally c i) xs))
    → map (tally c i) (cond t (new ∷ xs) (b ∷ with_attribute new xs)) ≡ cond t (record { of_key = key c i b.number; changes = one_more b.changes } ∷ map (tally c i) xs) (tally c i b ∷ counted_in (key c i new.number) (map (tally c i) xs))
by_count true c i b a new xs t e g later =
    let number = eqb-true b.number new.number t in
    let changes = g ∙ ap (λ x. one_more x.changes) (sym (same_some b a e)) in
    λ j. record { of_key = key c i (sym number j); changes = changes j } ∷ map (tally c i) xs
by_count false c i b a new xs t e g later = ap (λ l. tally c i b ∷ l) (later e)

pub attribute_counted : (c i : ℕ) (a new : AttributeValues) (xs : List AttributeValues) → attribute_at new.number xs ≡ Some a → new.changes ≡ one_more a.changes → map (tally c i) (with_attribute new xs) ≡ counted_in (key c i new.number) (map (tally c i) xs)
attribute_counted c i a new [] e g = absurd (cc)
attribute_counted c i a new (b ∷ xs) e g =
    by_count (eqb b.number new.number) c i b a new xs refl e g (λ h. attribute_counted c i a new xs h g)
    ∙ sym (ap (λ t. cond t (record { of_key = key c i b.number; changes = one_more b.changes } ∷ map (tally c i) xs) (tally c i b ∷ counted_in (key c i new.number) (map (tally c i) xs))) (same_instance c i b.number new.number))

-- the first of two lists counts, if it has the key
in_front : (t : Bool) (q : Key) (x : Tally) (xs ys : List Tally) (n : ℕ) → cond t (Some x.changes) (changes_at q xs) ≡ Some n → (changes_at q xs ≡ Some n → counted_in q (xs ++ ys) ≡ counted_in q xs ++ ys)
    → cond t (record { of_key = x.of_key; changes = one_more x.changes } ∷ (xs ++ ys)) (x ∷ counted_in q (xs ++ ys)) ≡ cond t (record { of_key = x.of_key; changes = one_more x.changes } ∷ xs) (x ∷ counted_in q xs) ++ ys
in_front true q x xs ys n e later = refl
in_front false q x xs ys n e later = ap (λ l. x ∷ l) (later e)

counted_front : (q : Key) (xs ys : List Tally) (n : ℕ) → changes_at q xs ≡ Some n → counted_in q (xs ++ ys) ≡ counted_in q xs ++ ys
counted_front q [] ys n e = absurd (cc)
counted_front q (x ∷ xs) ys n e = in_front (is_key x.of_key q) q x xs ys n e (λ f. counted_front q xs ys n f)

in_back : (t : Bool) (q : Key) (x : Tally) (xs ys : List Tally) → cond t (Some x.changes) (changes_at q xs) ≡ None → (changes_at q xs ≡ None → counted_in q (xs ++ ys) ≡ xs ++ counted_in q ys)
    → cond t (record { of_key = x.of_key; changes = one_more x.changes } ∷ (xs ++ ys)) (x ∷ counted_in q (xs ++ ys)) ≡ x ∷ (xs ++ counted_in q ys)
in_back true q x xs ys e later = absurd (cc)
in_back false q x xs ys e later = ap (λ l. x ∷ l) (later e)

counted_back : (q : Key) (xs ys : List Tally) → changes_at q xs ≡ None → counted_in q (xs ++ ys) ≡ xs ++ counted_in q ys
counted_back q [] ys e = refl
counted_back q (x ∷ xs) ys e = in_back (is_key x.of_key q) q x xs ys e (λ f. counted_back q xs ys f)

-- the index of the object that was found
next : (p : Option ℕ) (j : ℕ) → option_map (λ k. k + 1) p ≡ Some (suc j) → p ≡ Some j
next None j e = absurd (cc)
next (Some k) j e = let f = same_some (k + 1) (suc j) e in ap (λ n. Some n) (let g : k ≡ j = omega arith in g)

not_zero : (p : Option ℕ) → option_map (λ k. k + 1) p ≡ Some zero → ⊥
not_zero None e = cc
not_zero (Some k) e = let f = same_some (k + 1) zero e in omega arith

record Here (c i : ℕ) (o : ObjectValues) : Type 0 where
  of_class : o.class ≡ c
  of_instance : o.instance ≡ i

at_front : (c i : ℕ) (o : ObjectValues) (p : Option ℕ) (t : Bool) → eqb o.class c && eqb o.instance i ≡ t → cond t (Some zero) (option_map (λ k. k + 1) p) ≡ Some zero → Here c i o
at_front c i o p true t e =
    let b = both_true (eqb o.class c) _ t in
    record { of_class = eqb-true o.class c b.0; of_instance = eqb-true o.instance i b.1 }
at_front c i o p false t e = absurd (not_zero p e)

record Later (c i j : ℕ) (o : ObjectValues) (os : List ObjectValues) : Type 0 where
  other : eqb o.class c && eqb o.instance i ≡ false
  found : position_of c i os ≡ Some j

at_back : (c i j : ℕ) (o : ObjectValues) (os : List ObjectValues) (t : Bool) → eqb o.class c && eqb o.instance i ≡ t → cond t (Some zero) (option_map (λ k. k + 1) (position_of c i os)) ≡ Some (suc j) → Later c i j o os
at_back c i j o os true t e = absurd (let f = same_some zero (suc j) e in omega arith)
at_back c i j o os false t e = record { other = t; found = next (position_of c i os) j e }

both_turned : (a b c d : ℕ) → eqb a b && eqb c d ≡ false → eqb b a && eqb d c ≡ false
both_turned a b c d e = grind (arith, nat_tests)

-- the entries with another value of one attribute
objects_update : (c i n k : ℕ) (v : List ℕ) (os : List ObjectValues) (new : ObjectValues) → position_of c i os ≡ Some k → new.class ≡ c → new.instance ≡ i → ((x : ℕ) → attribute_in x (object_attributes new) ≡ cond (eqb x n) (Some v) (attribute_in x (object_attributes (object_in os k)))) → Updates (key c i n) v (object_entries os) (object_entries (set os k new))
objects_update c i n k v [] new e f g h = absurd (cc)
objects_update c i n zero v (o ∷ os) new e f g h =
    let here = at_front c i o (position_of c i os) (eqb o.class c && eqb o.instance i) refl e in
    let both : Updates (key c i n) v (entries_at o.class o.instance (object_attributes o)) (entries_at new.class new.instance (object_attributes new)) =
    rw (here.of_class, here.of_instance, f, g) (updates_at c i n v (object_attributes o) (object_attributes new) h) in
    updates_front (key c i n) v (entries_at o.class o.instance (object_attributes o)) (entries_at new.class new.instance (object_attributes new)) (object_entries os) both
objects_update c i n (suc j) v (o ∷ os) new e f g h =
    let later = at_back c i j o os (eqb o.class c && eqb o.instance i) refl e in
    updates_back (key c i n) v (entries_at o.class o.instance (object_attributes o)) (object_entries os) (object_entries (set os j new))
    (absent_at (key c i n) o.class o.instance (object_attributes o) (both_turned o.class c o.instance i later.other))
    (objects_update c i n j v os new later.found f g h)

-- what does not see the change of an object
pub map_set : {B : Type 0} (f : ObjectValues → B) (k : ℕ) (os : List ObjectValues) (new : ObjectValues) → f new ≡ f (object_in os k) → map f (set os k new) ≡ map f os
map_set f k [] new e = refl
map_set f zero (o ∷ os) new e = ap (λ x. x ∷ map f os) e
map_set f (suc k) (o ∷ os) new e = ap (λ l. f o ∷ l) (map_set f k os new e)

joined_set : {B : Type 0} (f : ObjectValues → List B) (k : ℕ) (os : List ObjectValues) (new : ObjectValues) → f new ≡ f (object_in os k) → flat_map f (set os k new) ≡ flat_map f os
joined_set f k [] new e = refl
joined_set f zero (o ∷ os) new e = ap (λ x. x ++ flat_map f os) e
joined_set f (suc k) (o ∷ os) new e = ap (λ l. f o ++ l) (joined_set f k os new e)

-- one more change of an attribute of one object
objects_counted : (c i n k count : ℕ) (os : List ObjectValues) (new : ObjectValues) → position_of c i os ≡ Some k → object_tallies new ≡ counted_in (key c i n) (object_tallies (object_in os k)) → changes_at (key c i n) (object_tallies (object_in os k)) ≡ Some count
    → flat_map object_tallies (set os k new) ≡ counted_in (key c i n) (flat_map object_tallies os)
objects_counted c i n k count [] new e f g = absurd (cc)
objects_counted c i n zero count (o ∷ os) new e f g =
    ap (λ x. x ++ flat_map object_tallies os) f
    ∙ sym (counted_front (key c i n) (object_tallies o) (flat_map object_tallies os) count g)
objects_counted c i n (suc j) count (o ∷ os) new e f g =
    let later = at_back c i j o os (eqb o.class c && eqb o.instance i) refl e in
    let none = in_object o.class o.instance c i n o.attributes
    ∙ ap (λ t. cond t (option_map (λ v. v.changes) (attribute_at n o.attributes)) None) later.other in
    ap (λ l. object_tallies o ++ l) (objects_counted c i n j count os new later.found f g)
    ∙ sym (counted_back (key c i n) (object_tallies o) (flat_map object_tallies os) none)

-- what comes before the application objects has none of their attributes
absent_numbers : (class i a : ℕ) (n : Bool) (c : CounterValues) → eqb class COUNTER && n ≡ false → Absent (key class i a) (cond n (entries_at COUNTER 0 (class_attributes 1 1 1) ++ entries_at COUNTER 1 (counter_attributes c)) [])
absent_numbers class i a false c e = record { misses = λ q f. refl }
absent_numbers class i a true c e =
    let other : eqb class COUNTER ≡ false = grind (arith, nat_tests) in
    absent_front (key class i a) (entries_at COUNTER 0 (class_attributes 1 1 1)) (entries_at COUNTER 1 (counter_attributes c))
    (absent_at (key class i a) COUNTER 0 (class_attributes 1 1 1) (ap (λ t. t && eqb i 0) other))
    (absent_at (key class i a) COUNTER 1 (counter_attributes c) (ap (λ t. t && eqb i 1) other))

and_false : (t : Bool) → t && false ≡ false
and_false true = refl
and_false false = refl

absent_classes : (class i a : ℕ) (all ss : List ObjectShape) → eqb i 0 ≡ false → Absent (key class i a) (class_entries all ss)
absent_classes class i a all [] e = record { misses = λ q f. refl }
absent_classes class i a all (s ∷ ss) e =
    absent_front (key class i a) (entries_at s.class 0 (attributes_of_class s.class all)) (class_entries all ss)
    (absent_at (key class i a) s.class 0 (attributes_of_class s.class all) (ap (λ t. eqb class s.class && t) e ∙ and_false (eqb class s.class)))
    (absent_classes class i a all ss e)

-- a class of application objects, and an instance of it
pub record IsOwn (c : CounterValues) (class instance : ℕ) : Type 0 where
  pub identity : eqb class IDENTITY ≡ false
  pub assembly : eqb class ASSEMBLY ≡ false
  pub counter : eqb class COUNTER && c.enabled ≡ false
  pub above : eqb instance 0 ≡ false

-- another value of one attribute of an application object
pub record IsWritten (class i n k : ℕ) (v : List ℕ) (os : List ObjectValues) (new : ObjectValues) : Type 0 where
  pub place : position_of class i os ≡ Some k
  pub of_class : new.class ≡ class
  pub of_instance : new.instance ≡ i
  pub value : (x : ℕ) → attribute_in x (object_attributes new) ≡ cond (eqb x n) (Some v) (attribute_in x (object_attributes (object_in os k)))
  pub shape : object_shape_of new ≡ object_shape_of (object_in os k)

all_update : (d : IdentityValues) (bs : List AssemblyValues) (c : CounterValues) (os : List ObjectValues) (class i n k : ℕ) (v : List ℕ) (new : ObjectValues) → IsOwn c class i → IsWritten class i n k v os new
    → Updates (key class i n) v (assembled d (greatest_of bs) (length bs) (blocks_of bs) (rest_of c os)) (assembled d (greatest_of bs) (length bs) (blocks_of bs) (counter_entries c ++ (class_entries (map object_shape_of os) (map object_shape_of os) ++ object_entries (set os k new))))
all_update d bs c os class i n k v new own w =
    let q = key class i n in
    let ss = map object_shape_of os in
    assembled_rest d (greatest_of bs) (length bs) class i n v bs (rest_of c os) (counter_entries c ++ (class_entries ss ss ++ object_entries (set os k new))) own.identity own.assembly
    (updates_back q v (counter_entries c) _ _ (absent_numbers class i n c.enabled c own.counter)
    (updates_back q v (class_entries ss ss) _ _ (absent_classes class i n ss ss own.above)
    (objects_update class i n k v os new w.place w.of_class w.of_instance w.value)))

-- the contents with it, and with these counts
pub object_contents : (d : IdentityValues) (bs : List AssemblyValues) (c : CounterValues) (os : List ObjectValues) (class i n k : ℕ) (v : List ℕ) (new : ObjectValues) (changes : List Tally) → IsOwn c class i → IsWritten class i n k v os new → map tally_of bs ++ flat_map object_tallies (set os k new) ≡ changes
    → contents_of d bs c (set os k new) ≡ record (with_value (contents_of d bs c os) class i n v) { changes = changes }
unfolding contents_of entries_of
object_contents d bs c os class i n k v new changes own w counts =
    let old = assembled d (greatest_of bs) (length bs) (blocks_of bs) (rest_of c os) in
    let ss = map object_shape_of os in
    let after = λ (s : List ObjectShape). assembled d (greatest_of bs) (length bs) (blocks_of bs) (counter_entries c ++ (class_entries s s ++ object_entries (set os k new))) in
    let u = insert_updates (key class i n) v old (after ss) (all_update d bs c os class i n k v new own w) in
    let shapes = map_set object_shape_of k os new w.shape in
    let mid : Contents = record { values = from_entries (after ss); shapes = shapes_of bs c os; device = device_of d; changes = changes } in
    let first : contents_of d bs c (set os k new) ≡ mid = λ j. record {
      values = from_entries (after (shapes j));
      shapes = record { assemblies = map shape_of bs; has_counter = c.enabled; objects = shapes j };
      device = device_of d;
      changes = counts j;
    } in
    let second : mid ≡ record (with_value (contents_of d bs c os) class i n v) { changes = changes } =
    λ j. record { values = sym u j; shapes = shapes_of bs c os; device = device_of d; changes = changes } in
    first ∙ second

-- the contents after the device wrote the attribute
pub object_written : (d : IdentityValues) (bs : List AssemblyValues) (c : CounterValues) (os : List ObjectValues) (class i n k : ℕ) (v : List ℕ) (new : ObjectValues) → IsOwn c class i → IsWritten class i n k v os new → object_tallies new ≡ object_tallies (object_in os k)
    → contents_of d bs c (set os k new) ≡ with_value (contents_of d bs c os) class i n v
unfolding contents_of
object_written d bs c os class i n k v new own w same =
    object_contents d bs c os class i n k v new (map tally_of bs ++ flat_map object_tallies os) own w
    (ap (λ l. map tally_of bs ++ l) (joined_set object_tallies k os new same))

-- the contents after a peer set it
pub object_changed : (d : IdentityValues) (bs : List AssemblyValues) (c : CounterValues) (os : List ObjectValues) (class i n k count : ℕ) (v : List ℕ) (new : ObjectValues) → IsOwn c class i → IsWritten class i n k v os new → object_tallies new ≡ counted_in (key class i n) (object_tallies (object_in os k)) → changes_at (key class i n) (object_tallies (object_in os k)) ≡ Some count
    → contents_of d bs c (set os k new) ≡ with_change (contents_of d bs c os) class i n v
unfolding contents_of
object_changed d bs c os class i n k count v new own w counted there =
    object_contents d bs c os class i n k v new (counted_in (key class i n) (map tally_of bs ++ flat_map object_tallies os)) own w
    (ap (λ l. map tally_of bs ++ l) (objects_counted class i n k count os new w.place counted there)
    ∙ sym (counted_back (key class i n) (map tally_of bs) (flat_map object_tallies os) (none_counted class i n bs (turned class 4 own.assembly))))
