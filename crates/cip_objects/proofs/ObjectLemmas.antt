-- The application objects in the contents, by their index: what is read of them, and what a set and a write leave.
use Rattle.std.specs.Prelude.{slice_index}
use Rattle.std.proofs.Common.{◌≡◌, ℕ, zero, suc, ◌+◌, ◌<◌, eqb, Bool, true, false, cond, ◌&&◌, ◌||◌, not, nat_lt, List, [], ◌∷◌, length, get_or, set, map, max, Option, Some, None, option_map, is_some, unwrap_or, Result, Ok, Err, refl, sym, ap, ◌∙◌, arith, subst}
use Rattle.std.proofs.lemmas.Bool.{eqb-true}
use Rattle.std.proofs.lemmas.Bool.Decides.{nat_tests}
use Rattle.std.specs.Result.{IsErr, IsErrAnd}
use Rattle.std.specs.Option.{ok_or, option_and_then}
use Rattle.std.specs.List.{list_any}
use Rattle.cip_bytes.specs.Reading.{◌>>=◌, ◌>>◌, map_ok}
use Rattle.cip_application.specs.declared.application.ClassSummary.{ClassSummary}
use Rattle.cip_application.specs.declared.attribute.SetFault.{SetFault}
use Rattle.cip_application.specs.declared.attribute.SetFault.TheVariants as faults
use Rattle.cip_application.specs.declared.kind.AttributeKind.{AttributeKind}
use Rattle.cip_application.specs.declared.kind.AttributeKind.TheVariants.{Fixed}
use Rattle.cip_application.specs.Attributes.{AttributeValues, attribute_at, attribute_set, attribute_by, can_be_set, one_more}
use Rattle.cip_application.specs.Check.{demand as demand_value}
use Rattle.cip_application.specs.Configuration.{is_taken_class}
use Rattle.cip_application.specs.Objects.{ObjectValues, position_of, object_in, value_in, value_of, object_with, objects_set, objects_by, objects_write, objects_restore, changes_of, instances_of, greatest_of as greatest_in, summary_of, class_of}
use Rattle.cip_application.specs.Values.{size_for, check_value, is_allowed as is_allowed_value, Writing, from_offset, as_whole}
use Rattle.cip_objects.specs.declared.object_ref.ObjectRef.TheVariants as object_refs
use Rattle.cip_objects.specs.declared.object_ref.Settable.TheVariants as settables
use Rattle.cip_objects.specs.declared.service.Service.TheVariants.{Add, Clear, GetAttributeList, GetAttributeSingle, SetAttributeSingle}
use Rattle.cip_objects.specs.declared.status.Refusal.{Refusal}
use Rattle.cip_objects.specs.declared.status.Refusal.TheVariants as refusals
use Rattle.cip_objects.specs.ChangeServices.{Change, change, change_result, is_allowed_limit}
use Rattle.cip_objects.specs.Changes.{changes_at, counted_in}
use Rattle.cip_objects.specs.Check.{demand, check_size}
use Rattle.cip_objects.specs.Contents.{Contents, value_at, bytes_at, with_value, with_change}
use Rattle.cip_objects.specs.DeviceWrites.{with_attribute_by, object_by, object_write}
use Rattle.cip_objects.specs.Entries.{IdentityValues, AssemblyValues, CounterValues, AreApart, AreDistinct, NoneIsClass, attribute_in, attributes_of_class, class_attributes, class_revision, counter_attributes, object_attributes, object_shape_of, attribute_shape_of, object_tallies, contents_of}
use Rattle.cip_objects.specs.ObjectMap.{key}
use Rattle.cip_objects.specs.ObjectRef.{IsFree, IsObjectIndex, IsObjectClass, IsSettable, kind_to_set, Resolves, value_to, bytes_to, after_set, object_in as shape_in}
use Rattle.cip_objects.specs.ReadServices.{IDENTITY_ATTRIBUTES, ASSEMBLY_ATTRIBUTES, all_attributes, numbers_of}
use Rattle.cip_objects.specs.Status.{set_refusal}
use Rattle.cip_objects.specs.Tables.{ObjectShape, Shapes, object_at, position_at, attribute_at as shape_at_number, kind_of_settable, kind_in, settable_kind, numbers_in, greatest_number, services_of, application_services, services_of_object, is_counter_class, value_kind, kind_in_assembly, kind_in_object, shape_at}
use Rattle.cip_objects.proofs.Lookup.{find_object, object_value, own_value, object_at-map, above_none, both_true, taken_value, value_at-contents_of}
use Rattle.cip_objects.proofs.Numbers.{enabled}
use Rattle.cip_objects.proofs.ObjectRefs.{free_kind}
use Rattle.cip_objects.proofs.ObjectWrites.{IsOwn, IsWritten, attributes_written, same_parts, attribute_counted, object_written, object_changed, map_set}
use Rattle.cip_objects.proofs.Shapes.{shapes-contents, object_changes, in_object}

same_some : {A : Type 0} (x y : A) → ◌≡◌ {A = Option A} (Some x) (Some y) → x ≡ y
same_some x y e = cc

eqb-turned : (a b : ℕ) → eqb a b ≡ eqb b a
eqb-turned a b = grind (arith, nat_tests)

or_false : (a b : Bool) → a || b ≡ false → (a ≡ false) × (b ≡ false)
or_false true b e = absurd (cc)
or_false false b e = (refl, e)

eqb-same : (a : ℕ) → eqb a a ≡ true
eqb-same a = grind (arith, nat_tests)

pub below_zero : (n : ℕ) → 0 < n → eqb n 0 ≡ false
below_zero n h = grind (arith, nat_tests)

-- an attribute is read in the flat map xs in its object
read_cond : (t : Bool) (a : AttributeValues) (r : Option AttributeValues) → option_map (λ x. x.value) (cond t (Some a) r) ≡ cond t (Some a.value) (option_map (λ x. x.value) r)
read_cond true a r = refl
read_cond false a r = refl

pub attribute_read : (n : ℕ) (xs : List AttributeValues) → attribute_in n (map (λ a. (a.number, a.value)) xs) ≡ option_map (λ a. a.value) (attribute_at n xs)
attribute_read n [] = refl
attribute_read n (a ∷ xs) =
    ap (λ t. cond t (Some a.value) (attribute_in n (map (λ x. (x.number, x.value)) xs))) (eqb-turned n a.number)
    ∙ ap (cond (eqb a.number n) (Some a.value)) (attribute_read n xs)
    ∙ sym (read_cond (eqb a.number n) a (attribute_at n xs))

-- the shape of an attribute is that of its values
pub attribute_at-map : (n : ℕ) (xs : List AttributeValues) → shape_at_number n (map attribute_shape_of xs) ≡ option_map attribute_shape_of (attribute_at n xs)
attribute_at-map n [] = refl
attribute_at-map n (a ∷ xs) =
    elim (eqb a.number n) as (λ t. cond t (Some (attribute_shape_of a)) (shape_at_number n (map attribute_shape_of xs)) ≡ option_map attribute_shape_of (cond t (Some a) (attribute_at n xs))) [
      | true ↦ refl
      | false ↦ attribute_at-map n xs
    ]

-- positions in the shapes are those in the values
position-map : (class instance : ℕ) (os : List ObjectValues) → position_at class instance (map object_shape_of os) ≡ position_of class instance os
position-map class instance [] = refl
position-map class instance (o ∷ os) =
    ap (λ p. cond (eqb o.class class && eqb o.instance instance) (Some 0) (option_map (λ k. k + 1) p)) (position-map class instance os)

pub shape_in-map : (k : ℕ) (os : List ObjectValues) → get_or (map object_shape_of os) k (record { class = 0; instance = 0; attributes = []; services = []; lists = false }) ≡ object_shape_of (object_in os k)
shape_in-map k [] = refl
shape_in-map zero (o ∷ os) = refl
shape_in-map (suc k) (o ∷ os) = shape_in-map k os

-- the object that a position leads to
later_map : (o : ObjectValues) (os : List ObjectValues) (p : Option ℕ) → option_map (object_in os) p ≡ option_map (object_in (o ∷ os)) (option_map (λ k. k + 1) p)
later_map o os None = refl
later_map o os (Some k) =
    let e : k + 1 ≡ suc k = omega arith in sym (ap (λ n. Some (object_in (o ∷ os) n)) e)

pub find_position : (class instance : ℕ) (os : List ObjectValues) → find_object class instance os ≡ option_map (object_in os) (position_of class instance os)
find_position class instance [] = refl
find_position class instance (o ∷ os) =
    ap (cond (eqb o.class class && eqb o.instance instance) (Some o)) (find_position class instance os ∙ later_map o os (position_of class instance os))
    ∙ elim (eqb o.class class && eqb o.instance instance) as (λ t. cond t (Some o) (option_map (object_in (o ∷ os)) (option_map (λ k. k + 1) (position_of class instance os))) ≡ option_map (object_in (o ∷ os)) (cond t (Some 0) (option_map (λ k. k + 1) (position_of class instance os)))) [
      | true ↦ refl
      | false ↦ refl
    ]

-- what is known of the object at a position
pub record AtPosition (class instance k : ℕ) (os : List ObjectValues) : Type 0 where
  pub of_class : (object_in os k).class ≡ class
  pub of_instance : (object_in os k).instance ≡ instance
  pub within : k < length os

step_position : (class instance k : ℕ) (o : ObjectValues) (os : List ObjectValues) (p : Option ℕ) (t : Bool) → eqb o.class class && eqb o.instance instance ≡ t → cond t (Some zero) (option_map (λ n. n + 1) p) ≡ Some k
    → ((j : ℕ) → p ≡ Some j → AtPosition class instance j os) → AtPosition class instance k (o ∷ os)
step_position class instance k o os p true t e later =
    let zero_is : zero ≡ k = same_some zero k e in
    let b = both_true (eqb o.class class) _ t in
    record {
      of_class = ap (λ n. (object_in (o ∷ os) n).class) (sym zero_is) ∙ eqb-true o.class class b.0;
      of_instance = ap (λ n. (object_in (o ∷ os) n).instance) (sym zero_is) ∙ eqb-true o.instance instance b.1;
      within = omega arith;
    }
step_position class instance k o os None false t e later = absurd (cc)
step_position class instance k o os (Some j) false t e later =
    let there = later j refl in
    let next : suc j ≡ k = let f = same_some (j + 1) k e in omega arith in
    record {
      of_class = ap (λ n. (object_in (o ∷ os) n).class) (sym next) ∙ there.of_class;
      of_instance = ap (λ n. (object_in (o ∷ os) n).instance) (sym next) ∙ there.of_instance;
      within = let w = there.within in omega arith;
    }

pub at_position : (class instance k : ℕ) (os : List ObjectValues) → position_of class instance os ≡ Some k → AtPosition class instance k os
at_position class instance k [] e = absurd (cc)
at_position class instance k (o ∷ os) e =
    step_position class instance k o os (position_of class instance os) (eqb o.class class && eqb o.instance instance) refl e (λ j f. at_position class instance j os f)

-- a class that no object has, of those that the device has itself
pub not_taken : (t : Bool) (counter : Bool) (n class : ℕ) → eqb class n ≡ t → is_taken_class counter n ≡ true → is_taken_class counter class ≡ false → t ≡ false
not_taken true counter n class e taken free = absurd (let f = ap (is_taken_class counter) (eqb-true class n e) in cc)
not_taken false counter n class e taken free = refl

pub not_counter : (t n : Bool) (class : ℕ) → eqb class 100 ≡ t → is_taken_class n class ≡ false → t && n ≡ false
not_counter true true class e free = absurd (let f = ap (is_taken_class true) (eqb-true class 100 e) in cc)
not_counter true false class e free = refl
not_counter false n class e free = refl

-- what is known of the application object at an index
pub record IsFound (c : CounterValues) (os : List ObjectValues) (k : ℕ) : Type 0 where
  pub own : IsOwn c (object_in os k).class (object_in os k).instance
  pub place : position_of (object_in os k).class (object_in os k).instance os ≡ Some k
  pub within : k < length os
  pub distinct : AreDistinct (map (λ a. a.number) (object_shape_of (object_in os k)).attributes)

pub record OfList (counter : Bool) (o : ObjectValues) : Type 0 where
  pub free : is_taken_class counter o.class ≡ false
  pub above : 0 < o.instance
  pub distinct : AreDistinct (map (λ a. a.number) (object_shape_of o).attributes)

pub of_list : (counter : Bool) (k : ℕ) (os : List ObjectValues) → AreApart counter (map object_shape_of os) → k < length os → OfList counter (object_in os k)
of_list counter k [] h w = absurd (omega arith)
of_list counter zero (o ∷ os) h w = record { free = h.0; above = h.1; distinct = h.3 }
of_list counter (suc k) (o ∷ os) h w = of_list counter k os h.4 (omega arith)

own_of : (c : CounterValues) (o : ObjectValues) → OfList c.enabled o → IsOwn c o.class o.instance
own_of c o l = record {
  identity = not_taken (eqb o.class 1) c.enabled 1 o.class refl refl l.free;
  assembly = not_taken (eqb o.class 4) c.enabled 4 o.class refl refl l.free;
  counter = not_counter (eqb o.class 100) c.enabled o.class refl l.free;
  above = below_zero o.instance l.above;
}

-- the object that a class and a number lead to
pub found_at : (c : CounterValues) (os : List ObjectValues) (class instance k : ℕ) → AreApart c.enabled (map object_shape_of os) → position_of class instance os ≡ Some k → IsFound c os k
found_at c os class instance k h e =
    let p = at_position class instance k os e in
    let l = of_list c.enabled k os h p.within in
    record {
      own = own_of c (object_in os k) l;
      place = ap (λ n. position_of n (object_in os k).instance os) p.of_class ∙ ap (λ n. position_of class n os) p.of_instance ∙ e;
      within = p.within;
      distinct = l.distinct;
    }

-- the object at an index that is known to the shapes
pub found_index : (d : IdentityValues) (bs : List AssemblyValues) (c : CounterValues) (os : List ObjectValues) (m : Contents) (k : ℕ) → contents_of d bs c os ≡ m → AreApart c.enabled (map object_shape_of os) → IsObjectIndex m.shapes k → IsFound c os k
found_index d bs c os m k is h p =
    let s = shapes-contents d bs c os m is in
    let here : shape_in m.shapes k ≡ object_shape_of (object_in os k) = ap (λ x. shape_in x k) s ∙ shape_in-map k os in
    let class = ap (λ o. o.class) here in
    let instance = ap (λ o. o.instance) here in
    let place : position_of (shape_in m.shapes k).class (shape_in m.shapes k).instance os ≡ Some k =
    sym (position-map (shape_in m.shapes k).class (shape_in m.shapes k).instance os)
    ∙ sym (ap (λ x. position_at (shape_in m.shapes k).class (shape_in m.shapes k).instance x.objects) s) ∙ p.first in
    found_at c os (shape_in m.shapes k).class (shape_in m.shapes k).instance k h place

-- and the shape of the object there
pub shape_here : (d : IdentityValues) (bs : List AssemblyValues) (c : CounterValues) (os : List ObjectValues) (m : Contents) (k : ℕ) → contents_of d bs c os ≡ m → shape_in m.shapes k ≡ object_shape_of (object_in os k)
shape_here d bs c os m k is = ap (λ x. shape_in x k) (shapes-contents d bs c os m is) ∙ shape_in-map k os

-- the shapes know it
pub index_found : (d : IdentityValues) (bs : List AssemblyValues) (c : CounterValues) (os : List ObjectValues) (m : Contents) (k : ℕ) → contents_of d bs c os ≡ m → IsFree m.shapes (object_in os k).class → IsFound c os k → IsObjectIndex m.shapes k
index_found d bs c os m k is free f =
    let s = shapes-contents d bs c os m is in
    let here = shape_here d bs c os m k is in
    let class = ap (λ o. o.class) here in
    let instance = ap (λ o. o.instance) here in
    record {
      free = subst (λ n. IsFree m.shapes n) (sym class) free;
      above = ap (λ n. eqb n 0) instance ∙ f.own.above;
      first = ap (λ n. position_at n (shape_in m.shapes k).instance m.shapes.objects) class
          ∙ ap (λ n. position_at (object_in os k).class n m.shapes.objects) instance
          ∙ ap (λ x. position_at (object_in os k).class (object_in os k).instance x.objects) s
          ∙ position-map (object_in os k).class (object_in os k).instance os ∙ f.place;
    }

-- the value of an attribute of the object at an index
own_lookup : (d : IdentityValues) (bs : List AssemblyValues) (c : CounterValues) (os : List ObjectValues) (class instance n : ℕ) → NoneIsClass bs → AreApart c.enabled (map object_shape_of os) → eqb class 1 ≡ false → eqb class 4 ≡ false → eqb class 100 && c.enabled ≡ false
    → value_at (contents_of d bs c os) class instance n ≡ own_value class instance n os
own_lookup d bs c os class instance n h own one four counter = value_at-contents_of d bs c os h own class instance n ∙ rw (one, four, counter) refl

pub found_value : (d : IdentityValues) (bs : List AssemblyValues) (c : CounterValues) (os : List ObjectValues) (k n : ℕ) → NoneIsClass bs → AreApart c.enabled (map object_shape_of os) → IsFound c os k
    → value_at (contents_of d bs c os) (object_in os k).class (object_in os k).instance n ≡ value_in (object_in os k) n
found_value d bs c os k n h own f =
    let o = object_in os k in
    own_lookup d bs c os o.class o.instance n h own f.own.identity f.own.assembly f.own.counter
    ∙ ap (λ t. cond t (cond (list_any (λ x. eqb x.class o.class) (map object_shape_of os)) (attribute_in n (attributes_of_class o.class (map object_shape_of os))) None) (object_value n (find_object o.class o.instance os))) f.own.above
    ∙ ap (object_value n) (find_position o.class o.instance os ∙ ap (option_map (object_in os)) f.place)
    ∙ attribute_read n o.attributes

pub object_read : (d : IdentityValues) (bs : List AssemblyValues) (c : CounterValues) (os : List ObjectValues) (m : Contents) (k n : ℕ) → contents_of d bs c os ≡ m → NoneIsClass bs → AreApart c.enabled (map object_shape_of os) → IsObjectIndex m.shapes k
    → value_to m (object_refs.Application k) n ≡ value_in (object_in os k) n
object_read d bs c os m k n is h own p =
    let here = shape_here d bs c os m k is in
    ap (λ o. value_at m o.class o.instance n) here
    ∙ ap (λ x. value_at x (object_in os k).class (object_in os k).instance n) (sym is)
    ∙ found_value d bs c os k n h own (found_index d bs c os m k is own p)

-- the value of an attribute of the TCP/IP Interface, if there is one
value_found : (n : ℕ) (os : List ObjectValues) (k : Option ℕ) → object_value n (option_map (object_in os) k) ≡ option_and_then (λ i. value_in (object_in os i) n) k
value_found n os None = refl
value_found n os (Some i) = attribute_read n (object_in os i).attributes

pub interface_read : (d : IdentityValues) (bs : List AssemblyValues) (c : CounterValues) (os : List ObjectValues) (m : Contents) (n : ℕ) → contents_of d bs c os ≡ m → NoneIsClass bs → AreApart c.enabled (map object_shape_of os)
    → value_at m 0xf5 1 n ≡ value_of os 0xf5 1 n
interface_read d bs c os m n is h own =
    ap (λ x. value_at x 0xf5 1 n) (sym is)
    ∙ own_lookup d bs c os 0xf5 1 n h own refl refl refl
    ∙ ap (object_value n) (find_position 0xf5 1 os)
    ∙ value_found n os (position_of 0xf5 1 os)

-- the same of the Message Router
pub router_read : (d : IdentityValues) (bs : List AssemblyValues) (c : CounterValues) (os : List ObjectValues) (m : Contents) (n : ℕ) → contents_of d bs c os ≡ m → NoneIsClass bs → AreApart c.enabled (map object_shape_of os)
    → value_at m 2 1 n ≡ value_of os 2 1 n
router_read d bs c os m n is h own =
    ap (λ x. value_at x 2 1 n) (sym is)
    ∙ own_lookup d bs c os 2 1 n h own refl refl refl
    ∙ ap (object_value n) (find_position 2 1 os)
    ∙ value_found n os (position_of 2 1 os)

-- the classes of application objects
numbers-map : (class : ℕ) (os : List ObjectValues) → numbers_in class (map object_shape_of os) ≡ instances_of class os
numbers-map class [] = refl
numbers-map class (o ∷ os) = ap (λ l. cond (eqb o.class class) (o.instance ∷ l) l) (numbers-map class os)

greatest-same : (ns : List ℕ) → greatest_number ns ≡ greatest_in ns
greatest-same [] = refl
greatest-same (n ∷ ns) = ap (max n) (greatest-same ns)

abbrev is_filled : List ℕ → Bool
is_filled [] = false
is_filled (n ∷ ns) = true

any_filled : (class : ℕ) (os : List ObjectValues) → list_any (λ o. eqb o.class class) (map object_shape_of os) ≡ is_filled (instances_of class os)
any_filled class [] = refl
any_filled class (o ∷ os) =
    elim (eqb o.class class) as (λ t. t || list_any (λ x. eqb x.class class) (map object_shape_of os) ≡ is_filled (cond t (o.instance ∷ instances_of class os) (instances_of class os))) [
      | true ↦ refl
      | false ↦ any_filled class os
    ]

positive : (k : ℕ) → eqb (suc k) 0 ≡ false
positive k = grind (arith, nat_tests)

filled : (ns : List ℕ) → is_filled ns ≡ not (eqb (length ns) 0)
filled [] = refl
filled (n ∷ ns) = sym (ap not (positive (length ns)))

is_empty : (t : Bool) (x : ClassSummary) → cond t None (Some x) ≡ None → t ≡ true
is_empty true x e = refl
is_empty false x e = absurd (cc)

is_there : (t : Bool) (x s : ClassSummary) → cond t None (Some x) ≡ Some s → (t ≡ false) × (x ≡ s)
is_there true x s e = absurd (cc)
is_there false x s e = (refl, same_some x s e)

abbrev summary : List ℕ → ClassSummary
summary ns = record { greatest = greatest_in ns; instances = length ns }

no_instances : (ns : List ℕ) → summary_of ns ≡ None → is_filled ns ≡ false
no_instances ns e = filled ns ∙ ap not (is_empty (eqb (length ns) 0) (summary ns) e)

some_instances : (ns : List ℕ) (s : ClassSummary) → summary_of ns ≡ Some s → (is_filled ns ≡ true) × (s.greatest ≡ greatest_in ns) × (s.instances ≡ length ns)
some_instances ns s e =
    let p = is_there (eqb (length ns) 0) (summary ns) s e in
    (filled ns ∙ ap not p.0, ap (λ x. x.greatest) (sym p.1), ap (λ x. x.instances) (sym p.1))

pub class_missing : (class : ℕ) (os : List ObjectValues) → class_of class os ≡ None → list_any (λ o. eqb o.class class) (map object_shape_of os) ≡ false
class_missing class os e = any_filled class os ∙ no_instances (instances_of class os) e

pub class_there : (class : ℕ) (os : List ObjectValues) (s : ClassSummary) → class_of class os ≡ Some s → list_any (λ o. eqb o.class class) (map object_shape_of os) ≡ true
class_there class os s e = any_filled class os ∙ (some_instances (instances_of class os) s e).0

class_values : (class : ℕ) (os : List ObjectValues) (s : ClassSummary) → class_of class os ≡ Some s → attributes_of_class class (map object_shape_of os) ≡ class_attributes (class_revision class) s.greatest s.instances
class_values class os s e =
    let p = some_instances (instances_of class os) s e in
    let r = class_revision class in
    ap (λ ns. class_attributes r (greatest_number ns) (length ns)) (numbers-map class os)
    ∙ ap (λ g. class_attributes r g (length (instances_of class os))) (greatest-same (instances_of class os) ∙ sym p.1)
    ∙ ap (class_attributes r s.greatest) (sym p.2)

-- a free class is not the device's own
pub free_counter : (d : IdentityValues) (bs : List AssemblyValues) (c : CounterValues) (os : List ObjectValues) (m : Contents) (class : ℕ) → contents_of d bs c os ≡ m → IsFree m.shapes class → eqb class 100 && c.enabled ≡ false
free_counter d bs c os m class is f = ap (λ x. eqb class 100 && x.has_counter) (sym (shapes-contents d bs c os m is)) ∙ f.counter

class_lookup : (d : IdentityValues) (bs : List AssemblyValues) (c : CounterValues) (os : List ObjectValues) (m : Contents) (class n : ℕ) → contents_of d bs c os ≡ m → NoneIsClass bs → AreApart c.enabled (map object_shape_of os) → IsFree m.shapes class
    → value_at m class 0 n ≡ cond (list_any (λ o. eqb o.class class) (map object_shape_of os)) (attribute_in n (attributes_of_class class (map object_shape_of os))) None
class_lookup d bs c os m class n is h own f =
    ap (λ x. value_at x class 0 n) (sym is)
    ∙ own_lookup d bs c os class 0 n h own f.identity f.assembly (free_counter d bs c os m class is f)

pub class_unread : (d : IdentityValues) (bs : List AssemblyValues) (c : CounterValues) (os : List ObjectValues) (m : Contents) (class n : ℕ) → contents_of d bs c os ≡ m → NoneIsClass bs → AreApart c.enabled (map object_shape_of os) → IsFree m.shapes class → class_of class os ≡ None
    → value_at m class 0 n ≡ None
class_unread d bs c os m class n is h own f e =
    class_lookup d bs c os m class n is h own f
    ∙ ap (λ t. cond t (attribute_in n (attributes_of_class class (map object_shape_of os))) None) (class_missing class os e)

pub class_read : (d : IdentityValues) (bs : List AssemblyValues) (c : CounterValues) (os : List ObjectValues) (m : Contents) (class n : ℕ) (s : ClassSummary) → contents_of d bs c os ≡ m → NoneIsClass bs → AreApart c.enabled (map object_shape_of os) → IsFree m.shapes class → class_of class os ≡ Some s
    → value_at m class 0 n ≡ attribute_in n (class_attributes (class_revision class) s.greatest s.instances)
class_read d bs c os m class n s is h own f e =
    class_lookup d bs c os m class n is h own f
    ∙ ap (λ t. cond t (attribute_in n (attributes_of_class class (map object_shape_of os))) None) (class_there class os s e)
    ∙ ap (attribute_in n) (class_values class os s e)

-- a settable attribute of an object
pub record IsSettableIn (k n : ℕ) (shapes : Shapes) (os : List ObjectValues) : Type 0 where
  pub attribute : AttributeValues
  pub found : attribute_at n (object_in os k).attributes ≡ Some attribute
  pub settable : attribute.settable ≡ true
  pub kind : kind_to_set shapes (settables.Attribute k n) ≡ attribute.kind

abbrev kind_if : Bool → AttributeKind → Option AttributeKind
kind_if t kind = cond t (Some kind) None

both_of : (a b : Bool) (kind : AttributeKind) → is_some (kind_if (a && b) kind) ≡ true → (a ≡ true) × (a && b ≡ true)
both_of true true kind e = (refl, refl)
both_of true false kind e = absurd (cc)
both_of false b kind e = absurd (cc)

by_attribute : (k n : ℕ) (shapes : Shapes) (os : List ObjectValues) (a : Option AttributeValues) → attribute_at n (object_in os k).attributes ≡ a → kind_in n (Some (shape_in shapes k)) ≡ kind_of_settable (option_map attribute_shape_of a) → is_some (kind_of_settable (option_map attribute_shape_of a)) ≡ true → IsSettableIn k n shapes os
by_attribute k n shapes os None e f g = absurd (cc)
by_attribute k n shapes os (Some a) e f g =
    let p = both_of a.settable (not a.checked) a.kind g in
    record {
      attribute = a;
      found = e;
      settable = p.0;
      kind = ap (λ o. unwrap_or o (Fixed 0 None)) (f ∙ ap (λ t. kind_if t a.kind) p.1);
    }

kind_here : (d : IdentityValues) (bs : List AssemblyValues) (c : CounterValues) (os : List ObjectValues) (m : Contents) (k n : ℕ) → contents_of d bs c os ≡ m
    → kind_in n (Some (shape_in m.shapes k)) ≡ kind_of_settable (option_map attribute_shape_of (attribute_at n (object_in os k).attributes))
kind_here d bs c os m k n is =
    ap (λ o. kind_in n (Some o)) (shape_here d bs c os m k is)
    ∙ ap kind_of_settable (attribute_at-map n (object_in os k).attributes)

pub settable_here : (d : IdentityValues) (bs : List AssemblyValues) (c : CounterValues) (os : List ObjectValues) (m : Contents) (k n : ℕ) → contents_of d bs c os ≡ m → IsSettable m (settables.Attribute k n) → IsSettableIn k n m.shapes os
settable_here d bs c os m k n is h =
    let e = kind_here d bs c os m k n is in
    by_attribute k n m.shapes os (attribute_at n (object_in os k).attributes) refl e (sym (ap is_some e) ∙ h)

-- the object knows whether peers can set an attribute
can_kind : (a : Option AttributeValues) → can_be_set a ≡ is_some (kind_of_settable (option_map attribute_shape_of a))
can_kind None = refl
can_kind (Some a) = elim (a.settable && not a.checked) as (λ t. t ≡ is_some (kind_if t a.kind)) [
  | true ↦ refl
  | false ↦ refl
]

pub can_be_set_here : (d : IdentityValues) (bs : List AssemblyValues) (c : CounterValues) (os : List ObjectValues) (m : Contents) (k n : ℕ) → contents_of d bs c os ≡ m → can_be_set (attribute_at n (object_in os k).attributes) ≡ is_some (kind_in n (Some (shape_in m.shapes k)))
can_be_set_here d bs c os m k n is =
    can_kind (attribute_at n (object_in os k).attributes) ∙ sym (ap is_some (kind_here d bs c os m k n is))

-- the checks of a set, in the words of the object and in those of the service
abbrev pub checked : {A : Type 0} → Bool → Bool → Bool → A → Result A SetFault
checked short long allowed x =
    cond short (Err faults.NotEnoughData) (cond long (Err faults.TooMuchData) (cond allowed (Ok x) (Err faults.InvalidAttributeValue)))

abbrev answered : {A : Type 0} → Bool → Bool → Bool → A → Result A Refusal
answered short long allowed x =
    cond short (Err refusals.NotEnoughData) (cond long (Err refusals.TooMuchData) (cond allowed (Ok x) (Err refusals.InvalidAttributeValue)))

abbrev pub set_to : AttributeValues → List ℕ → AttributeValues
set_to a content = record a { value = content; changes = one_more a.changes }

by_object : (l g w : Bool) (k : ℕ) (o : ObjectValues) (os : List ObjectValues) (a : AttributeValues)
    → map_ok (set os k) ((((cond {A = Result (Unit {0}) SetFault} l (Err faults.NotEnoughData) (cond g (Err faults.TooMuchData) (Ok tt)) >> demand_value w faults.InvalidAttributeValue) >> Ok a)) >>= λ x. Ok (object_with o x)) ≡ checked l g w (set os k (object_with o a))
by_object true g w k o os a = refl
by_object false true w k o os a = refl
by_object false false true k o os a = refl
by_object false false false k o os a = refl

pub object_checks : (k n : ℕ) (os : List ObjectValues) (a : AttributeValues) (content : List ℕ) → attribute_at n (object_in os k).attributes ≡ Some a → a.settable ≡ true
    → objects_set os k n content ≡ checked (nat_lt (length content) (size_for a.kind content)) (nat_lt (size_for a.kind content) (length content)) (is_allowed_value a.kind content) (set os k (object_with (object_in os k) (set_to a content)))
unfolding objects_set
object_checks k n os a content e s =
    ap (λ x. map_ok (set os k) (ok_or x faults.AttributeNotSupported >>= λ y. attribute_set y content >>= λ after. Ok (object_with (object_in os k) after))) e
    ∙ ap (λ t. map_ok (set os k) ((demand_value t faults.AttributeNotSettable >> (check_value a.kind content >> Ok (set_to a content))) >>= λ after. Ok (object_with (object_in os k) after))) s
    ∙ (by_object (nat_lt (length content) (size_for a.kind content)) (nat_lt (size_for a.kind content) (length content)) (is_allowed_value a.kind content) k (object_in os k) os (set_to a content))

by_service : (l g w : Bool) (x : Change) → (cond {A = Result (Unit {0}) Refusal} l (Err refusals.NotEnoughData) (cond g (Err refusals.TooMuchData) (Ok tt)) >> (demand w refusals.InvalidAttributeValue >> Ok x)) ≡ answered l g w x
by_service true g w x = refl
by_service false true w x = refl
by_service false false true x = refl
by_service false false false x = refl

service_checks : (d : IdentityValues) (bs : List AssemblyValues) (c : CounterValues) (os : List ObjectValues) (m : Contents) (k n : ℕ) (content : List ℕ) (s : IsSettableIn k n m.shapes os) → contents_of d bs c os ≡ m → IsObjectIndex m.shapes k
    → after_set m (settables.Attribute k n) content ≡ answered (nat_lt (length content) (size_for s.attribute.kind content)) (nat_lt (size_for s.attribute.kind content) (length content)) (is_allowed_value s.attribute.kind content)
    (record { after = with_change m (object_in os k).class (object_in os k).instance n content; content = [] })
service_checks d bs c os m k n content s is p =
    let here = shape_here d bs c os m k is in
    let step = λ (kind : AttributeKind) (t : Bool) (x : Change). check_size (size_for kind content) content >> (demand (cond t (is_allowed_limit m content) (is_allowed_value kind content)) refusals.InvalidAttributeValue >> Ok x) in
    let after : ObjectShape → Change = λ o. record { after = with_change m o.class o.instance n content; content = [] } in
    ap (λ kind. step kind (is_counter_class m.shapes (shape_in m.shapes k).class) (after (shape_in m.shapes k))) s.kind
    ∙ ap (λ t. step s.attribute.kind t (after (shape_in m.shapes k))) p.free.counter
    ∙ ap (λ o. step s.attribute.kind false (after o)) here
    ∙ by_service (nat_lt (length content) (size_for s.attribute.kind content)) (nat_lt (size_for s.attribute.kind content) (length content)) (is_allowed_value s.attribute.kind content) _

refused_alike : {A B : Type 0} (l g w : Bool) (x : A) (y : B) (fault : SetFault) → checked l g w x ≡ Err fault → answered l g w y ≡ Err (set_refusal fault)
refused_alike true g w x y faults.NotEnoughData e = refl
refused_alike true g w x y faults.TooMuchData e = absurd (cc)
refused_alike true g w x y faults.InvalidAttributeValue e = absurd (cc)
refused_alike true g w x y faults.AttributeNotSettable e = absurd (cc)
refused_alike true g w x y faults.AttributeNotSupported e = absurd (cc)
refused_alike false true w x y faults.TooMuchData e = refl
refused_alike false true w x y faults.NotEnoughData e = absurd (cc)
refused_alike false true w x y faults.InvalidAttributeValue e = absurd (cc)
refused_alike false true w x y faults.AttributeNotSettable e = absurd (cc)
refused_alike false true w x y faults.AttributeNotSupported e = absurd (cc)
refused_alike false false true x y fault e = absurd (cc)
refused_alike false false false x y faults.InvalidAttributeValue e = refl
refused_alike false false false x y faults.NotEnoughData e = absurd (cc)
refused_alike false false false x y faults.TooMuchData e = absurd (cc)
refused_alike false false false x y faults.AttributeNotSettable e = absurd (cc)
refused_alike false false false x y faults.AttributeNotSupported e = absurd (cc)

done_alike : {A B : Type 0} (l g w : Bool) (x z : A) (y : B) → checked l g w x ≡ Ok z → (x ≡ z) × (answered l g w y ≡ Ok y)
done_alike true g w x z y e = absurd (cc)
done_alike false true w x z y e = absurd (cc)
done_alike false false true x z y e = (let f : ◌≡◌ {A = Result _ SetFault} (Ok x) (Ok z) = e in cc, refl)
done_alike false false false x z y e = absurd (cc)

-- a set that the object refuses
pub set_refused : (d : IdentityValues) (bs : List AssemblyValues) (c : CounterValues) (os : List ObjectValues) (m : Contents) (k n : ℕ) (content : List ℕ) (fault : SetFault) → contents_of d bs c os ≡ m → IsObjectIndex m.shapes k → IsSettable m (settables.Attribute k n) → objects_set os k n content ≡ Err fault
    → after_set m (settables.Attribute k n) content ≡ Err (set_refusal fault)
set_refused d bs c os m k n content fault is p h e =
    let s = settable_here d bs c os m k n is h in
    service_checks d bs c os m k n content s is p
    ∙ refused_alike _ _ _ (set os k (object_with (object_in os k) (set_to s.attribute content))) _ fault (sym (object_checks k n os s.attribute content s.found s.settable) ∙ e)

-- the attribute with this number has this number
its_number : (t : Bool) (b a : AttributeValues) (n : ℕ) (r : Option AttributeValues) → eqb b.number n ≡ t → cond t (Some b) r ≡ Some a → (r ≡ Some a → a.number ≡ n) → a.number ≡ n
its_number true b a n r t e later = ap (λ x. x.number) (sym (same_some b a e)) ∙ eqb-true b.number n t
its_number false b a n r t e later = later e

number_found : (n : ℕ) (xs : List AttributeValues) (a : AttributeValues) → attribute_at n xs ≡ Some a → a.number ≡ n
number_found n [] a e = absurd (cc)
number_found n (b ∷ xs) a e = its_number (eqb b.number n) b a n (attribute_at n xs) refl e (λ f. number_found n xs a f)

-- an object with another value of an attribute
pub written_object : (k n : ℕ) (os : List ObjectValues) (a new : AttributeValues) → attribute_at n (object_in os k).attributes ≡ Some a → new.number ≡ n → attribute_shape_of new ≡ attribute_shape_of a → position_of (object_in os k).class (object_in os k).instance os ≡ Some k
    → IsWritten (object_in os k).class (object_in os k).instance n k new.value os (object_with (object_in os k) new)
written_object k n os a new e number shape place =
    let o = object_in os k in
    let there : attribute_at new.number o.attributes ≡ Some a = ap (λ x. attribute_at x o.attributes) number ∙ e in
    record {
      place = place;
      of_class = refl;
      of_instance = refl;
      value = λ x. attributes_written a new o.attributes x there ∙ ap (λ y. cond (eqb x y) (Some new.value) (attribute_in x (object_attributes o))) number;
      shape = ap (λ l. record { class = o.class; instance = o.instance; attributes = l; services = o.services; lists = o.lists }) (same_parts attribute_shape_of a new o.attributes there shape);
    }

-- the contents with another value of an attribute, which is counted
pub set_contents : (d : IdentityValues) (bs : List AssemblyValues) (c : CounterValues) (os : List ObjectValues) (k n : ℕ) (content : List ℕ) (a : AttributeValues) → IsFound c os k → attribute_at n (object_in os k).attributes ≡ Some a
    → contents_of d bs c (set os k (object_with (object_in os k) (set_to a content))) ≡ with_change (contents_of d bs c os) (object_in os k).class (object_in os k).instance n content
set_contents d bs c os k n content a f found =
    let o = object_in os k in
    let after = set_to a content in
    let number = number_found n o.attributes a found in
    let there : attribute_at after.number o.attributes ≡ Some a = ap (λ x. attribute_at x o.attributes) number ∙ found in
    let counted : object_tallies (object_with o after) ≡ counted_in (key o.class o.instance n) (object_tallies o) =
    attribute_counted o.class o.instance a after o.attributes there refl
    ∙ ap (λ x. counted_in (key o.class o.instance x) (object_tallies o)) number in
    let count : changes_at (key o.class o.instance n) (object_tallies o) ≡ Some a.changes =
    in_object o.class o.instance o.class o.instance n o.attributes
    ∙ ap (λ t. cond (t && eqb o.instance o.instance) (option_map (λ v. v.changes) (attribute_at n o.attributes)) None) (eqb-same o.class)
    ∙ ap (λ t. cond t (option_map (λ v. v.changes) (attribute_at n o.attributes)) None) (eqb-same o.instance)
    ∙ ap (option_map (λ v. v.changes)) found in
    object_changed d bs c os o.class o.instance n k a.changes content (object_with o after) f.own
    (written_object k n os a after found number refl f.place) counted count

-- the contents after a set that the object accepts
pub set_done : (d : IdentityValues) (bs : List AssemblyValues) (c : CounterValues) (os : List ObjectValues) (m : Contents) (k n : ℕ) (content : List ℕ) (new : List ObjectValues) → contents_of d bs c os ≡ m → AreApart c.enabled (map object_shape_of os) → IsObjectIndex m.shapes k → IsSettable m (settables.Attribute k n) → objects_set os k n content ≡ Ok new
    → after_set m (settables.Attribute k n) content ≡ change (contents_of d bs c new) []
set_done d bs c os m k n content new is own p h e =
    let s = settable_here d bs c os m k n is h in
    let o = object_in os k in
    let pair = done_alike _ _ _ (set os k (object_with o (set_to s.attribute content))) new (record { after = with_change m o.class o.instance n content; content = [] })
    (sym (object_checks k n os s.attribute content s.found s.settable) ∙ e) in
    let contents = set_contents d bs c os k n content s.attribute (found_index d bs c os m k is own p) s.found in
    service_checks d bs c os m k n content s is p ∙ pair.1
    ∙ ap (λ x. change (with_change x o.class o.instance n content) []) (sym is)
    ∙ ap (λ x. change x []) (sym contents)
    ∙ ap (λ l. change (contents_of d bs c l) []) pair.0

-- the shapes stay the same
pub apart_after : (counter : Bool) (k n : ℕ) (os : List ObjectValues) (a : AttributeValues) (content : List ℕ) → attribute_at n (object_in os k).attributes ≡ Some a → AreApart counter (map object_shape_of os) → AreApart counter (map object_shape_of (set os k (object_with (object_in os k) (set_to a content))))
apart_after counter k n os a content found h =
    let o = object_in os k in
    let after = set_to a content in
    let number = number_found n o.attributes a found in
    let there : attribute_at after.number o.attributes ≡ Some a = ap (λ x. attribute_at x o.attributes) number ∙ found in
    let shape = ap (λ l. record { class = o.class; instance = o.instance; attributes = l; services = o.services; lists = o.lists }) (same_parts attribute_shape_of a after o.attributes there refl) in
    subst (AreApart counter) (sym (map_set object_shape_of k os (object_with o after) shape)) h

pub set_apart : (counter : Bool) (k n : ℕ) (os new : List ObjectValues) (a : AttributeValues) (content : List ℕ) → attribute_at n (object_in os k).attributes ≡ Some a → a.settable ≡ true → objects_set os k n content ≡ Ok new → AreApart counter (map object_shape_of os) → AreApart counter (map object_shape_of new)
set_apart counter k n os new a content found settable e h =
    let pair = done_alike _ _ _ (set os k (object_with (object_in os k) (set_to a content))) new zero (sym (object_checks k n os a content found settable) ∙ e) in
    subst (λ l. AreApart counter (map object_shape_of l)) pair.0 (apart_after counter k n os a content found h)

-- what the device writes
pub record IsDeviceWrite (d : IdentityValues) (bs : List AssemblyValues) (c : CounterValues) (os : List ObjectValues) (m : Contents) (written : Option Contents) (new : Option (List ObjectValues)) : Type 0 where
  pub contents : contents_of d bs c (unwrap_or new os) ≡ unwrap_or written m
  pub reported : is_some new ≡ is_some written
  pub free : AreApart c.enabled (map object_shape_of (unwrap_or new os))

nothing_written : (d : IdentityValues) (bs : List AssemblyValues) (c : CounterValues) (os : List ObjectValues) (m : Contents) (written : Option Contents) (new : Option (List ObjectValues)) → contents_of d bs c os ≡ m → AreApart c.enabled (map object_shape_of os) → new ≡ None → written ≡ None → IsDeviceWrite d bs c os m written new
nothing_written d bs c os m written new is own e f = record {
  contents = ap (λ o. contents_of d bs c (unwrap_or o os)) e ∙ is ∙ sym (ap (λ o. unwrap_or o m) f);
  reported = ap is_some e ∙ sym (ap is_some f);
  free = subst (λ o. AreApart c.enabled (map object_shape_of (unwrap_or o os))) (sym e) own;
}

abbrev valued : AttributeValues → List ℕ → AttributeValues
valued a value = record a { value = value }

-- the value can hold the bytes, or not
by_value : (d : IdentityValues) (bs : List AssemblyValues) (c : CounterValues) (os : List ObjectValues) (m : Contents) (k n : ℕ) (a : AttributeValues) (written : Option Contents) (new : Option (List ObjectValues)) (v : Option (List ℕ)) → contents_of d bs c os ≡ m → AreApart c.enabled (map object_shape_of os) → IsFound c os k → attribute_at n (object_in os k).attributes ≡ Some a
    → new ≡ option_map (set os k) (option_map (object_with (object_in os k)) (option_map (valued a) v)) → written ≡ option_map (with_value m (object_in os k).class (object_in os k).instance n) v → IsDeviceWrite d bs c os m written new
by_value d bs c os m k n a written new None is own f there e g = nothing_written d bs c os m written new is own e g
by_value d bs c os m k n a written new (Some v) is own f there e g =
    let o = object_in os k in
    let after = valued a v in
    let number = number_found n o.attributes a there in
    let same : attribute_at after.number o.attributes ≡ Some a = ap (λ x. attribute_at x o.attributes) number ∙ there in
    let w = written_object k n os a after there number refl f.place in
    let tallies : object_tallies (object_with o after) ≡ object_tallies o =
    same_parts (λ x. record { of_key = key o.class o.instance x.number; changes = x.changes }) a after o.attributes same refl in
    let contents = object_written d bs c os o.class o.instance n k v (object_with o after) f.own w tallies in
    record {
      contents = ap (λ x. contents_of d bs c (unwrap_or x os)) e ∙ contents ∙ ap (λ x. with_value x o.class o.instance n v) is ∙ sym (ap (λ x. unwrap_or x m) g);
      reported = ap is_some e ∙ sym (ap is_some g);
      free = subst (λ x. AreApart c.enabled (map object_shape_of (unwrap_or x os))) (sym e)
          (subst (AreApart c.enabled) (sym (map_set object_shape_of k os (object_with o after) w.shape)) own);
    }

-- the object has the attribute, or not
by_found : (d : IdentityValues) (bs : List AssemblyValues) (c : CounterValues) (os : List ObjectValues) (m : Contents) (k n : ℕ) (how : Writing) (written : Option Contents) (new : Option (List ObjectValues)) (a : Option AttributeValues) → contents_of d bs c os ≡ m → NoneIsClass bs → AreApart c.enabled (map object_shape_of os) → IsFound c os k → attribute_at n (object_in os k).attributes ≡ a
    → new ≡ option_map (set os k) (option_map (object_with (object_in os k)) (option_and_then (attribute_by how) a)) → written ≡ with_attribute_by how m (object_in os k).class (object_in os k).instance n (option_map attribute_shape_of a) → IsDeviceWrite d bs c os m written new
by_found d bs c os m k n how written new None is h own f there e g = nothing_written d bs c os m written new is own e g
by_found d bs c os m k n how written new (Some a) is h own f there e g =
    let o = object_in os k in
    let read : bytes_at m o.class o.instance n ≡ a.value =
    ap (λ x. bytes_at x o.class o.instance n) (sym is) ∙ ap (λ x. unwrap_or x []) (found_value d bs c os k n h own f ∙ ap (option_map (λ x. x.value)) there) in
    by_value d bs c os m k n a written new (how a.kind a.value) is own f there e
    (g ∙ ap (λ x. option_map (with_value m o.class o.instance n) (how a.kind x)) read)

-- there is such an object, or not
by_place : (d : IdentityValues) (bs : List AssemblyValues) (c : CounterValues) (os : List ObjectValues) (m : Contents) (class instance n : ℕ) (how : Writing) (written : Option Contents) (new : Option (List ObjectValues)) (p : Option ℕ) → contents_of d bs c os ≡ m → NoneIsClass bs → AreApart c.enabled (map object_shape_of os) → position_of class instance os ≡ p
    → new ≡ option_and_then (λ k. option_map (set os k) (option_map (object_with (object_in os k)) (option_and_then (attribute_by how) (attribute_at n (object_in os k).attributes)))) p
    → written ≡ with_attribute_by how m class instance n (option_and_then (λ o. shape_at_number n o.attributes) (option_map object_shape_of (option_map (object_in os) p))) → IsDeviceWrite d bs c os m written new
by_place d bs c os m class instance n how written new None is h own place e g = nothing_written d bs c os m written new is own e g
by_place d bs c os m class instance n how written new (Some k) is h own place e g =
    let at = at_position class instance k os place in
    let o = object_in os k in
    by_found d bs c os m k n how written new (attribute_at n o.attributes) is h own (found_at c os class instance k own place) refl e
    (g ∙ ap (with_attribute_by how m class instance n) (attribute_at-map n o.attributes)
    ∙ ap (λ x. with_attribute_by how m x instance n (option_map attribute_shape_of (attribute_at n o.attributes))) (sym at.of_class)
    ∙ ap (λ x. with_attribute_by how m o.class x n (option_map attribute_shape_of (attribute_at n o.attributes))) (sym at.of_instance))

writes_by : (d : IdentityValues) (bs : List AssemblyValues) (c : CounterValues) (os : List ObjectValues) (m : Contents) (class instance n : ℕ) (how : Writing) → contents_of d bs c os ≡ m → NoneIsClass bs → AreApart c.enabled (map object_shape_of os)
    → IsDeviceWrite d bs c os m (object_by how m class instance n) (objects_by how os class instance n)
writes_by d bs c os m class instance n how is h own =
    let s = shapes-contents d bs c os m is in
    by_place d bs c os m class instance n how _ _ (position_of class instance os) is h own refl refl
    (ap (λ x. with_attribute_by how m class instance n (option_and_then (λ o. shape_at_number n o.attributes) (object_at class instance x.objects))) s
    ∙ ap (λ x. with_attribute_by how m class instance n (option_and_then (λ o. shape_at_number n o.attributes) x)) (object_at-map class instance os ∙ ap (option_map object_shape_of) (find_position class instance os)))

pub device_writes : (d : IdentityValues) (bs : List AssemblyValues) (c : CounterValues) (os : List ObjectValues) (m : Contents) (class instance n offset : ℕ) (bytes : List ℕ) → contents_of d bs c os ≡ m → NoneIsClass bs → AreApart c.enabled (map object_shape_of os)
    → IsDeviceWrite d bs c os m (object_write m class instance n offset bytes) (objects_write os class instance n offset bytes)
unfolding object_write objects_write
device_writes d bs c os m class instance n offset bytes is h own = writes_by d bs c os m class instance n (from_offset offset bytes) is h own

pub device_restores : (d : IdentityValues) (bs : List AssemblyValues) (c : CounterValues) (os : List ObjectValues) (m : Contents) (class instance n : ℕ) (bytes : List ℕ) → contents_of d bs c os ≡ m → NoneIsClass bs → AreApart c.enabled (map object_shape_of os)
    → IsDeviceWrite d bs c os m (object_by (as_whole bytes) m class instance n) (objects_restore os class instance n bytes)
unfolding objects_restore
device_restores d bs c os m class instance n bytes is h own = writes_by d bs c os m class instance n (as_whole bytes) is h own

-- how often peers set an attribute
pub changes_here : (class instance n : ℕ) (os : List ObjectValues) → changes_of os class instance n ≡ object_changes n (find_object class instance os)
changes_here class instance n os =
    sym (ap (object_changes n) (find_position class instance os)
    ∙ elim (position_of class instance os) as (λ p. object_changes n (option_map (object_in os) p) ≡ option_and_then (λ k. option_map (λ a. a.changes) (attribute_at n (object_in os k).attributes)) p) [
      | None ↦ refl
      | Some k ↦ refl
    ])

-- the attribute at an index is the one with its number
any_at : (p : ℕ → Bool) (ns : List ℕ) (k : ℕ) → list_any p ns ≡ false → k < length ns → p (slice_index ns k) ≡ false
any_at p [] k e h = absurd (omega arith)
any_at p (n ∷ ns) zero e h = (or_false (p n) (list_any p ns) e).0
any_at p (n ∷ ns) (suc k) e h = any_at p ns k (or_false (p n) (list_any p ns) e).1 (omega arith)

abbrev numbers : List AttributeValues → List ℕ
numbers xs = map (λ a. a.number) (map attribute_shape_of xs)

numbers_length : (xs : List AttributeValues) → length (numbers xs) ≡ length xs
numbers_length [] = refl
numbers_length (a ∷ xs) = ap suc (numbers_length xs)

attribute_by_index : (k : ℕ) (xs : List AttributeValues) (d : AttributeValues) → AreDistinct (numbers xs) → k < length xs → attribute_at (slice_index (numbers xs) k) xs ≡ Some (get_or xs k d)
attribute_by_index k [] d h w = absurd (omega arith)
attribute_by_index zero (a ∷ xs) d h w =
    ap (λ t. cond t (Some a) (attribute_at a.number xs)) (eqb-same a.number)
attribute_by_index (suc k) (a ∷ xs) d h w =
    let n = slice_index (numbers xs) k in
    let other : eqb a.number n ≡ false = eqb-turned a.number n ∙ any_at (λ x. eqb x a.number) (numbers xs) k h.0 (omega (arith, numbers_length xs)) in
    ap (λ t. cond t (Some a) (attribute_at n xs)) other ∙ attribute_by_index k xs d h.1 (omega arith)

pub value_by_number : (d : IdentityValues) (bs : List AssemblyValues) (c : CounterValues) (os : List ObjectValues) (m : Contents) (k index : ℕ) (a : AttributeValues) → contents_of d bs c os ≡ m → NoneIsClass bs → AreApart c.enabled (map object_shape_of os) → IsObjectIndex m.shapes k → index < length (object_in os k).attributes
    → bytes_to m (object_refs.Application k) (slice_index (map (λ x. x.number) (shape_in m.shapes k).attributes) index) ≡ (get_or (object_in os k).attributes index a).value
value_by_number d bs c os m k index a is h own p w =
    let o = object_in os k in
    let f = found_index d bs c os m k is own p in
    let here = shape_here d bs c os m k is in
    ap (λ s. bytes_to m (object_refs.Application k) (slice_index (map (λ x. x.number) s.attributes) index)) here
    ∙ ap (λ x. unwrap_or x []) (object_read d bs c os m k (slice_index (numbers o.attributes) index) is h own p)
    ∙ ap (λ x. unwrap_or (option_map (λ y. y.value) x) []) (attribute_by_index index o.attributes a f.distinct w)

-- the application object that the shapes have at an index
abbrev no_object : ObjectShape
no_object = record { class = 0; instance = 0; attributes = []; services = []; lists = false }

later_shape : (s : ObjectShape) (ss : List ObjectShape) (p : Option ℕ) → option_map (λ k. get_or ss k no_object) p ≡ option_map (λ k. get_or (s ∷ ss) k no_object) (option_map (λ k. k + 1) p)
later_shape s ss None = refl
later_shape s ss (Some k) =
    let e : k + 1 ≡ suc k = omega arith in sym (ap (λ n. Some (get_or (s ∷ ss) n no_object)) e)

shape_position : (class instance : ℕ) (ss : List ObjectShape) → object_at class instance ss ≡ option_map (λ k. get_or ss k no_object) (position_at class instance ss)
shape_position class instance [] = refl
shape_position class instance (s ∷ ss) =
    ap (cond (eqb s.class class && eqb s.instance instance) (Some s)) (shape_position class instance ss ∙ later_shape s ss (position_at class instance ss))
    ∙ elim (eqb s.class class && eqb s.instance instance) as (λ t. cond t (Some s) (option_map (λ k. get_or (s ∷ ss) k no_object) (option_map (λ k. k + 1) (position_at class instance ss))) ≡ option_map (λ k. get_or (s ∷ ss) k no_object) (cond t (Some 0) (option_map (λ k. k + 1) (position_at class instance ss)))) [
      | true ↦ refl
      | false ↦ refl
    ]

pub kind_at_index : (shapes : Shapes) (k n : ℕ) → IsObjectIndex shapes k → settable_kind shapes (shape_in shapes k).class (shape_in shapes k).instance n ≡ kind_in n (Some (shape_in shapes k))
kind_at_index shapes k n p =
    free_kind shapes (shape_in shapes k).class (shape_in shapes k).instance n p.free
    ∙ ap (kind_in n) (shape_position (shape_in shapes k).class (shape_in shapes k).instance shapes.objects ∙ ap (option_map (λ j. get_or shapes.objects j no_object)) p.first)

-- the size of a value, by the shape of the attribute
pub size_in_shape : (n : ℕ) (value : List ℕ) (os : List ObjectValues) (k : ℕ) → option_map (λ a. size_for a.kind value) (attribute_at n (object_in os k).attributes) ≡ option_map (λ kind. size_for kind value) (kind_in_object n (object_shape_of (object_in os k)))
size_in_shape n value os k =
    sym (ap (λ s. option_map (λ kind. size_for kind value) (option_map (λ a. a.kind) s)) (attribute_at-map n (object_in os k).attributes)
    ∙ elim (attribute_at n (object_in os k).attributes) as (λ f. option_map (λ kind. size_for kind value) (option_map (λ a. a.kind) (option_map attribute_shape_of f)) ≡ option_map (λ a. size_for a.kind value) f) [
      | None ↦ refl
      | Some a ↦ refl
    ])

-- the kind of the values of an attribute of an application object
pub value_kind_at : (shapes : Shapes) (k n : ℕ) → IsObjectIndex shapes k → value_kind shapes (shape_in shapes k).class (shape_in shapes k).instance n ≡ kind_in_object n (shape_in shapes k)
unfolding value_kind
value_kind_at shapes k n p =
    let class = (shape_in shapes k).class in
    let instance = (shape_in shapes k).instance in
    ap (λ t. cond t (option_and_then (kind_in_assembly n) (shape_at instance shapes.assemblies)) (option_and_then (kind_in_object n) (object_at class instance shapes.objects))) p.free.assembly
    ∙ ap (option_and_then (kind_in_object n)) (shape_position class instance shapes.objects ∙ ap (option_map (λ j. get_or shapes.objects j no_object)) p.first)

whole_kind : (o : Option AttributeKind) → is_some o ≡ true → Some (unwrap_or o (Fixed 0 None)) ≡ o
whole_kind None e = absurd (cc)
whole_kind (Some kind) e = refl

no_kind : (o : Option AttributeKind) → is_some o ≡ false → o ≡ None
no_kind None e = refl
no_kind (Some kind) e = absurd (cc)

pub kind_set : (shapes : Shapes) (k n : ℕ) → IsObjectIndex shapes k → is_some (kind_in n (Some (shape_in shapes k))) ≡ true → Some (kind_to_set shapes (settables.Attribute k n)) ≡ settable_kind shapes (shape_in shapes k).class (shape_in shapes k).instance n
kind_set shapes k n p e = whole_kind (kind_in n (Some (shape_in shapes k))) e ∙ sym (kind_at_index shapes k n p)

pub kind_unset : (shapes : Shapes) (k n : ℕ) → IsObjectIndex shapes k → is_some (kind_in n (Some (shape_in shapes k))) ≡ false → settable_kind shapes (shape_in shapes k).class (shape_in shapes k).instance n ≡ None
kind_unset shapes k n p e = kind_at_index shapes k n p ∙ no_kind (kind_in n (Some (shape_in shapes k))) e

-- the services of a free class
pub free_services : (shapes : Shapes) (class instance : ℕ) → IsFree shapes class → services_of shapes class instance ≡ application_services class instance shapes.objects
unfolding services_of
free_services shapes class instance f = rw (f.identity, f.assembly, f.manager, f.counter) refl

-- what a class and a number lead to, among the application objects
pub services_at_place : (d : IdentityValues) (bs : List AssemblyValues) (c : CounterValues) (os : List ObjectValues) (m : Contents) (class instance : ℕ) → contents_of d bs c os ≡ m → eqb instance 0 ≡ false
    → application_services class instance m.shapes.objects ≡ option_map (λ k. services_of_object (shape_in m.shapes k)) (position_of class instance os)
services_at_place d bs c os m class instance is z =
    let all = m.shapes.objects in
    ap (λ t. cond t (cond (list_any (λ o. eqb o.class class) all) (Some (GetAttributeSingle ∷ [])) None) (option_map services_of_object (object_at class instance all))) z
    ∙ ap (λ x. option_map services_of_object (object_at class instance x.objects)) (shapes-contents d bs c os m is)
    ∙ ap (option_map services_of_object) (object_at-map class instance os ∙ ap (option_map object_shape_of) (find_position class instance os))
    ∙ elim (position_of class instance os) as (λ p. option_map services_of_object (option_map object_shape_of (option_map (object_in os) p)) ≡ option_map (λ k. services_of_object (shape_in m.shapes k)) p) [
      | None ↦ refl
      | Some k ↦ ap (λ s. Some (services_of_object s)) (sym (shape_here d bs c os m k is))
    ]

pub services_at_class : (d : IdentityValues) (bs : List AssemblyValues) (c : CounterValues) (os : List ObjectValues) (m : Contents) (class : ℕ) → contents_of d bs c os ≡ m
    → application_services class 0 m.shapes.objects ≡ cond (list_any (λ o. eqb o.class class) (map object_shape_of os)) (Some (GetAttributeSingle ∷ [])) None
services_at_class d bs c os m class is =
    ap (λ x. cond (list_any (λ o. eqb o.class class) x.objects) (Some (GetAttributeSingle ∷ [])) None) (shapes-contents d bs c os m is)

-- the values of the other objects
pub manager_value : (d : IdentityValues) (bs : List AssemblyValues) (c : CounterValues) (os : List ObjectValues) (m : Contents) (n : ℕ) → contents_of d bs c os ≡ m → NoneIsClass bs → AreApart c.enabled (map object_shape_of os) → value_at m 6 1 n ≡ None
manager_value d bs c os m n is h own =
    ap (λ x. value_at x 6 1 n) (sym is) ∙ value_at-contents_of d bs c os h own 6 1 n ∙ taken_value c.enabled 6 1 n os own refl

pub counter_value : (d : IdentityValues) (bs : List AssemblyValues) (c : CounterValues) (os : List ObjectValues) (m : Contents) (n : ℕ) → contents_of d bs c os ≡ m → NoneIsClass bs → AreApart c.enabled (map object_shape_of os) → m.shapes.has_counter ≡ true → value_at m 100 1 n ≡ attribute_in n (counter_attributes c)
counter_value d bs c os m n is h own there =
    ap (λ x. value_at x 100 1 n) (sym is) ∙ value_at-contents_of d bs c os h own 100 1 n
    ∙ ap (λ t. cond t (attribute_in n (counter_attributes c)) (own_value 100 1 n os)) (enabled d bs c os m is there)

pub counter_class_value : (d : IdentityValues) (bs : List AssemblyValues) (c : CounterValues) (os : List ObjectValues) (m : Contents) (n : ℕ) → contents_of d bs c os ≡ m → NoneIsClass bs → AreApart c.enabled (map object_shape_of os) → m.shapes.has_counter ≡ true → value_at m 100 0 n ≡ attribute_in n (class_attributes 1 1 1)
counter_class_value d bs c os m n is h own there =
    ap (λ x. value_at x 100 0 n) (sym is) ∙ value_at-contents_of d bs c os h own 100 0 n
    ∙ ap (λ t. cond t (attribute_in n (class_attributes 1 1 1)) (own_value 100 0 n os)) (enabled d bs c os m is there)

-- a refusal is answered as it is
pub answer_refused : (n : Contents) (r : Result (Unit {0}) Refusal) (x : Result Change Refusal) (s : Refusal) → IsErr r × IsErrAnd r (λ f. f ≡ s) → x ≡ Err s → change_result (λ _. []) n r ≡ x
answer_refused n (Ok y) x s e f = absurd (let g : false ≡ true = e.0 in cc)
answer_refused n (Err t) x s e f = ap (λ k. Err k) e.1 ∙ sym f

-- what the application objects answer at instance 0 of a class
pub no_class_services : (d : IdentityValues) (bs : List AssemblyValues) (c : CounterValues) (os : List ObjectValues) (m : Contents) (class instance : ℕ) → contents_of d bs c os ≡ m → instance ≡ 0 → class_of class os ≡ None → application_services class instance m.shapes.objects ≡ None
no_class_services d bs c os m class instance is z e =
    ap (λ i. application_services class i m.shapes.objects) z ∙ services_at_class d bs c os m class is
    ∙ ap (λ t. cond t (Some (GetAttributeSingle ∷ [])) None) (class_missing class os e)

pub class_services : (d : IdentityValues) (bs : List AssemblyValues) (c : CounterValues) (os : List ObjectValues) (m : Contents) (class instance : ℕ) (s : ClassSummary) → contents_of d bs c os ≡ m → instance ≡ 0 → class_of class os ≡ Some s → application_services class instance m.shapes.objects ≡ Some (GetAttributeSingle ∷ [])
class_services d bs c os m class instance s is z e =
    ap (λ i. application_services class i m.shapes.objects) z ∙ services_at_class d bs c os m class is
    ∙ ap (λ t. cond t (Some (GetAttributeSingle ∷ [])) None) (class_there class os s e)

-- a class of application objects
pub class_found : (d : IdentityValues) (bs : List AssemblyValues) (c : CounterValues) (os : List ObjectValues) (m : Contents) (class : ℕ) → contents_of d bs c os ≡ m → AreApart c.enabled (map object_shape_of os) → IsFree m.shapes class → IsObjectClass m.shapes class
class_found d bs c os m class is own free = record {
  free = free;
  none = ap (λ x. object_at class 0 x.objects) (shapes-contents d bs c os m is) ∙ object_at-map class 0 os
      ∙ ap (option_map object_shape_of) (above_none c.enabled class os own);
}

-- an application object
pub object_found : (d : IdentityValues) (bs : List AssemblyValues) (c : CounterValues) (os : List ObjectValues) (m : Contents) (class instance k : ℕ) → contents_of d bs c os ≡ m → AreApart c.enabled (map object_shape_of os) → IsFree m.shapes class → position_of class instance os ≡ Some k → Resolves m.shapes class instance (object_refs.Application k)
object_found d bs c os m class instance k is own free e =
    let at = at_position class instance k os e in
    let here = shape_here d bs c os m k is in
    record {
      same_class = sym (ap (λ o. o.class) here ∙ at.of_class);
      same_instance = sym (ap (λ o. o.instance) here ∙ at.of_instance);
      there = index_found d bs c os m k is (subst (IsFree m.shapes) (sym at.of_class) free) (found_at c os class instance k own e);
    }

abbrev pub no_attribute : AttributeValues
no_attribute = record { number = 0; kind = Fixed 0 None; settable = false; checked = false; value = []; changes = 0 }

-- the counter's class, if the device has the counter
pub counter_services : (m : Contents) (instance : ℕ) → m.shapes.has_counter ≡ true → services_of m.shapes 100 instance
    ≡ cond (eqb instance 0) (Some (GetAttributeSingle ∷ [])) (cond (eqb instance 1) (Some (Add ∷ Clear ∷ GetAttributeList ∷ GetAttributeSingle ∷ SetAttributeSingle ∷ [])) None)
unfolding services_of
counter_services m instance there =
    ap (λ t. cond t (cond (eqb instance 0) (Some (GetAttributeSingle ∷ [])) (cond (eqb instance 1) (Some (Add ∷ Clear ∷ GetAttributeList ∷ GetAttributeSingle ∷ SetAttributeSingle ∷ [])) None))
    (application_services 100 instance m.shapes.objects)) there

-- and if it does not
pub no_counter : (d : IdentityValues) (bs : List AssemblyValues) (c : CounterValues) (os : List ObjectValues) (m : Contents) → contents_of d bs c os ≡ m → c.enabled ≡ false → IsFree m.shapes 100
no_counter d bs c os m is e = record {
  identity = refl;
  assembly = refl;
  manager = refl;
  counter = ap (λ s. s.has_counter) (shapes-contents d bs c os m is) ∙ e;
}

pub has_counter : (d : IdentityValues) (bs : List AssemblyValues) (c : CounterValues) (os : List ObjectValues) (m : Contents) → contents_of d bs c os ≡ m → c.enabled ≡ true → m.shapes.has_counter ≡ true
has_counter d bs c os m is e = ap (λ s. s.has_counter) (shapes-contents d bs c os m is) ∙ e

-- a class that is none of these is free
pub other_number : (a b : ℕ) → (a ≡ b → ⊥) → eqb a b ≡ false
other_number a b h = grind (arith, nat_tests)

pub is_free : (shapes : Shapes) (class : ℕ) → (class ≡ 1 → ⊥) → (class ≡ 4 → ⊥) → (class ≡ 6 → ⊥) → (class ≡ 100 → ⊥) → IsFree shapes class
is_free shapes class one four six hundred = record {
  identity = other_number class 1 one;
  assembly = other_number class 4 four;
  manager = other_number class 6 six;
  counter = ap (λ t. t && shapes.has_counter) (other_number class 100 hundred);
}

pub no_instance : (d : IdentityValues) (bs : List AssemblyValues) (c : CounterValues) (os : List ObjectValues) (m : Contents) (instance : ℕ) → contents_of d bs c os ≡ m → m.shapes.has_counter ≡ true → (instance ≡ 0 → ⊥) → (instance ≡ 1 → ⊥) → services_of m.shapes 100 instance ≡ None
no_instance d bs c os m instance is there above other =
    counter_services m instance there
    ∙ ap (λ t. cond t (Some (GetAttributeSingle ∷ [])) (cond (eqb instance 1) (Some (Add ∷ Clear ∷ GetAttributeList ∷ GetAttributeSingle ∷ SetAttributeSingle ∷ [])) None)) (other_number instance 0 above)
    ∙ ap (λ t. cond t (Some (Add ∷ Clear ∷ GetAttributeList ∷ GetAttributeSingle ∷ SetAttributeSingle ∷ [])) None) (other_number instance 1 other)

-- the attributes that Get_Attributes_All reads of an application object
pub all_of_object : (shapes : Shapes) (k : ℕ) → IsObjectIndex shapes k → all_attributes shapes (shape_in shapes k).class (shape_in shapes k).instance ≡ numbers_of (Some (shape_in shapes k))
all_of_object shapes k p =
    let class = (shape_in shapes k).class in
    let instance = (shape_in shapes k).instance in
    ap (λ t. cond t IDENTITY_ATTRIBUTES (cond (eqb class 4) ASSEMBLY_ATTRIBUTES (numbers_of (object_at class instance shapes.objects)))) p.free.identity
    ∙ ap (λ t. cond t ASSEMBLY_ATTRIBUTES (numbers_of (object_at class instance shapes.objects))) p.free.assembly
    ∙ ap numbers_of (shape_position class instance shapes.objects ∙ ap (option_map (λ j. get_or shapes.objects j no_object)) p.first)
