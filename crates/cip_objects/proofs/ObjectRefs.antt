-- What class and instance lead to, in the contents of the objects.
use Rattle.std.specs.Prelude.{if◌then◌else◌, slice_index}
use Rattle.std.proofs.Common.{◌≡◌, ℕ, zero, suc, ◌<◌, eqb, Bool, true, false, cond, ◌&&◌, List, [], ◌∷◌, length, map, get_or}
use Rattle.std.proofs.Common.{MatchOption, Option, Some, None, option_map, refl, sym, ap, ◌∙◌, arith, subst}
use Rattle.std.specs.Box.{boxed_slice_items, boxed_slice_len}
use Rattle.std.proofs.lemmas.Bool.Decides.{nat_tests}
use Rattle.std.proofs.lemmas.Bool.{eqb-true}
use Rattle.std.specs.List.{list_any}
use Rattle.cip_application.specs.declared.kind.AttributeKind.{AttributeKind}
use Rattle.cip_application.specs.Configuration.{is_taken_class}
use Rattle.cip_application.specs.Objects.{ObjectValues}
use Rattle.std.proofs.lemmas.List.{length-map}
use Rattle.cip_objects.specs.declared.class.Class.TheVariants as classes
use Rattle.cip_objects.specs.declared.object_ref.ObjectRef.{ObjectRef}
use Rattle.cip_objects.specs.declared.object_ref.ObjectRef.TheVariants as object_refs
use Rattle.cip_objects.specs.declared.objects.Objects.TheInside.{Inside}
use Rattle.cip_objects.specs.Contents.{Contents, value_at}
use Rattle.cip_objects.specs.Counter.{counter_values}
use Rattle.cip_objects.specs.ObjectRef.{IsFree, class_at, instance_at, number_at, IsAssemblyIndex, Exists, IsAssemblyAt, assembly_in}
use Rattle.cip_objects.specs.Entries.{IdentityValues, AssemblyValues, CounterValues, contents_of, shape_of, assembly_at, NoneIsClass, AreApart, object_shape_of, attributes_of_class}
use Rattle.cip_objects.specs.Entries.{attribute_in, assembly_attributes, class_attributes, greatest_of}
use Rattle.cip_objects.specs.FirstOf.{IsFirst}
use Rattle.cip_objects.specs.Tables.{Shape, ObjectShape, Shapes, shape_at, object_at, services_of, services_of_assembly, kind_in}
use Rattle.cip_bytes.specs.declared.protocol.TheConstants.{ASSEMBLY}
use Rattle.cip_objects.specs.Tables.{settable_kind, kind_if_settable}
use Rattle.cip_objects.proofs.Blocks.{eqb-other, first_at}
use Rattle.cip_objects.proofs.Lookup.{block_value, none_of_class, find_object, not_found, object_value, own_value, taken_value, value_at-contents_of}
use Rattle.cip_objects.proofs.Offers.{table}
use Rattle.cip_objects.proofs.Shapes.{shape_at-map, shape_at-contents, shapes-contents}
use Rattle.cip_objects.proofs.Writes.{first_above}

-- the objects have these contents
abbrev Shows : Inside → Contents → Type 0
Shows o m = contents_of o.identity (boxed_slice_items o.assemblies) (counter_values o.counter) o.application ≡ m

abbrev IsFirstBlock : List AssemblyValues → ℕ → ℕ → Type 0
IsFirstBlock bs i k = IsFirst (λ b. b.instance) bs i k

abbrev IsFirstShape : List Shape → ℕ → ℕ → Type 0
IsFirstShape shapes i k = IsFirst (λ s. s.instance) shapes i k

shape-get : (bs : List AssemblyValues) (k : ℕ) (d : AssemblyValues) → get_or (map shape_of bs) k (shape_of d) ≡ shape_of (get_or bs k d)
shape-get [] k d = refl
shape-get (b ∷ bs) zero d = refl
shape-get (b ∷ bs) (suc k) d = shape-get bs k d

-- an assembly of a shape, without data
abbrev with_shape : Shape → AssemblyValues
with_shape s = record { instance = s.instance; settable = s.settable; members = s.members; lists = s.lists; content = []; changes = 0 }

abbrev no_block : AssemblyValues
no_block = record { instance = 0; settable = false; members = []; lists = false; content = []; changes = 0 }

-- the first assembly with a number has the first shape with it
first_shape : (bs : List AssemblyValues) (i k : ℕ) → IsFirstBlock bs i k → IsFirstShape (map shape_of bs) i k
first_shape bs i k f = record {
  within = omega (arith, f.within, length-map bs shape_of);
  here = λ s. ap (λ x. x.instance) (shape-get bs k (with_shape s)) ∙ f.here (with_shape s);
  before = λ j s lt e. f.before j (with_shape s) lt (sym (ap (λ x. x.instance) (shape-get bs j (with_shape s))) ∙ e);
}

first_block : (bs : List AssemblyValues) (i k : ℕ) → IsFirstShape (map shape_of bs) i k → IsFirstBlock bs i k
first_block bs i k f = record {
  within = omega (arith, f.within, length-map bs shape_of);
  here = λ b. sym (ap (λ x. x.instance) (shape-get bs k b)) ∙ f.here (shape_of b);
  before = λ j b lt e. f.before j (shape_of b) lt (ap (λ x. x.instance) (shape-get bs j b) ∙ e);
}

-- the first with a number has that number
number_here : (shapes : List Shape) (i k : ℕ) → IsFirstShape shapes i k → slice_index (map (λ s. s.instance) shapes) k ≡ i
number_here [] i k f = absurd (omega (arith, f.within))
number_here (s ∷ shapes) i zero f = f.here s
number_here (s ∷ shapes) i (suc k) f =
    number_here shapes i k (record {
      within = omega (arith, f.within);
      here = f.here;
      before = λ j e lt. f.before (suc j) e (omega arith);
    })

-- an assembly that was found is at an index, with the number that was looked up
pub found : (o : Inside) (m : Contents) (i k : ℕ) → Shows o m → IsFirstBlock (boxed_slice_items o.assemblies) i k
    → IsAssemblyAt m.shapes i k
found o m i k is f =
    let all = shapes-contents o.identity (boxed_slice_items o.assemblies) (counter_values o.counter) o.application m is in
    let first : IsFirstShape m.shapes.assemblies i k =
    subst (λ ss. IsFirstShape ss.assemblies i k) (sym all) (first_shape (boxed_slice_items o.assemblies) i k f) in
    let number = number_here m.shapes.assemblies i k first in
    record {
      number = sym number;
      there = subst (λ n. IsFirstShape m.shapes.assemblies n k) (sym number) first;
    }

-- the index at which the first assembly with a number was looked up
pub placed : (o : Inside) (m : Contents) (i : ℕ) (r : Option ℕ) → Shows o m
    → MatchOption r (assembly_at i (boxed_slice_items o.assemblies) ≡ None)
    (IsFirst (λ b. b.instance) (boxed_slice_items o.assemblies) i)
    → MatchOption r (shape_at i m.shapes.assemblies ≡ None) (IsAssemblyAt m.shapes i)
placed o m i None is h =
    shape_at-contents o.identity (boxed_slice_items o.assemblies) (counter_values o.counter) o.application m i is
    ∙ ap (option_map shape_of) h
placed o m i (Some k) is h = found o m i k is h

-- the assembly at the index is the first with its number
pub first_at_place : (o : Inside) (m : Contents) (k : ℕ) → Shows o m → IsAssemblyIndex m.shapes k
    → IsFirstBlock (boxed_slice_items o.assemblies) (number_at m.shapes k) k
first_at_place o m k is p =
    let all = shapes-contents o.identity (boxed_slice_items o.assemblies) (counter_values o.counter) o.application m is in
    first_block (boxed_slice_items o.assemblies) (number_at m.shapes k) k
    (subst (λ ss. IsFirstShape ss.assemblies (number_at m.shapes k) k) all p)

-- and the index is within the assemblies
pub place_within : (o : Inside) (m : Contents) (k : ℕ) → Shows o m → IsAssemblyIndex m.shapes k
    → k < boxed_slice_len o.assemblies
place_within o m k is p = omega (arith, o.assemblies.items.ok.0, (first_at_place o m k is p).within)

-- the value of an attribute of the assembly at an index
pub place_value : (o : Inside) (m : Contents) (k attribute : ℕ) (b : AssemblyValues) → Shows o m
    → NoneIsClass (boxed_slice_items o.assemblies) → AreApart o.counter.enabled (map object_shape_of o.application)
    → IsAssemblyIndex m.shapes k
    → value_at m ASSEMBLY (number_at m.shapes k) attribute ≡ attribute_in attribute (assembly_attributes (get_or (boxed_slice_items o.assemblies) k b))
place_value o m k attribute b is h own p =
    let bs = boxed_slice_items o.assemblies in
    let i = number_at m.shapes k in
    let f = first_at_place o m k is p in
    let of_class = attribute_in attribute (class_attributes 2 (greatest_of bs) (length bs)) in
    ap (λ x. value_at x ASSEMBLY i attribute) (sym is)
    ∙ value_at-contents_of o.identity bs (counter_values o.counter) o.application h own ASSEMBLY i attribute
    ∙ ap (λ t. cond t of_class (block_value attribute (assembly_at i bs)))
    (eqb-other i 0 (let above = first_above bs i k b h f in λ z. omega arith))
    ∙ ap (block_value attribute) (first_at bs i k b f)

-- the shape at an index is the first with its number
shape_first : (ss : List Shape) (i k : ℕ) (d : Shape) → IsFirstShape ss i k → shape_at i ss ≡ Some (get_or ss k d)
shape_first [] i k d f = absurd (omega (arith, f.within))
shape_first (s ∷ ss) i zero d f =
    ap (λ t. cond t (Some s) (shape_at i ss)) (let same = f.here d in let e : eqb s.instance i ≡ true = grind (arith, nat_tests) in e)
shape_first (s ∷ ss) i (suc k) d f =
    ap (λ t. cond t (Some s) (shape_at i ss)) (eqb-other s.instance i (f.before 0 d (omega arith)))
    ∙ shape_first ss i k d
    (record { within = omega (arith, f.within); here = f.here; before = λ j e lt. f.before (suc j) e (omega arith) })

same_shape : (s t : Shape) → ◌≡◌ {A = Option Shape} (Some s) (Some t) → s ≡ t
same_shape s t e = cc

-- and whether it has the services for lists
pub lists_here : (shapes : Shapes) (k : ℕ) (s : Shape) → IsAssemblyIndex shapes k
    → shape_at (number_at shapes k) shapes.assemblies ≡ Some s → s.lists ≡ (assembly_in shapes k).lists
lists_here shapes k s p e =
    ap (λ x. x.lists) (same_shape s (assembly_in shapes k)
    (sym e ∙ shape_first shapes.assemblies (number_at shapes k) k (shape_of no_block) p))

-- an instance other than 0 has the services of an assembly, if one has its number
services_at_number : (shapes : Shapes) (class instance : ℕ) → class ≡ 4 → (instance ≡ 0 → ⊥)
    → services_of shapes class instance ≡ option_map services_of_assembly (shape_at instance shapes.assemblies)
unfolding services_of
services_at_number shapes class instance e n = rw (e, eqb-other instance 0 n) refl

pub services_found : (o : Inside) (m : Contents) (class i k : ℕ) → Shows o m → class ≡ 4 → (i ≡ 0 → ⊥)
    → IsFirstBlock (boxed_slice_items o.assemblies) i k
    → services_of m.shapes class i ≡ Some (services_of_assembly (assembly_in m.shapes k))
services_found o m class i k is e n f =
    let bs = boxed_slice_items o.assemblies in
    services_at_number m.shapes class i e n
    ∙ ap (option_map services_of_assembly)
    (shape_at-contents o.identity bs (counter_values o.counter) o.application m i is
    ∙ ap (option_map shape_of) (first_at bs i k no_block f))
    ∙ ap (λ s. Some (services_of_assembly s))
    (sym (ap (λ x. get_or x.assemblies k (shape_of no_block))
    (shapes-contents o.identity bs (counter_values o.counter) o.application m is) ∙ shape-get bs k no_block))

pub services_missing : (o : Inside) (m : Contents) (class i : ℕ) → Shows o m → class ≡ 4 → (i ≡ 0 → ⊥)
    → assembly_at i (boxed_slice_items o.assemblies) ≡ None → services_of m.shapes class i ≡ None
services_missing o m class i is e n none =
    services_at_number m.shapes class i e n
    ∙ ap (option_map services_of_assembly)
    (shape_at-contents o.identity (boxed_slice_items o.assemblies) (counter_values o.counter) o.application m i is
    ∙ ap (option_map shape_of) none)

-- no assembly has the instance of a class itself
pub none_at_class : (d : IdentityValues) (bs : List AssemblyValues) (c : CounterValues) (os : List ObjectValues) (m : Contents) → contents_of d bs c os ≡ m
    → NoneIsClass bs → shape_at 0 m.shapes.assemblies ≡ None
none_at_class d bs c os m is h = shape_at-contents d bs c os m 0 is ∙ ap (option_map shape_of) (none_of_class bs h)

no_table : (b1 b4 b6 b100 z o : Bool) (x : Option Shape) (k : Bool) (y : Option ObjectShape) (v1 v2 v3 v4 v5 v6 v7 : Option (List ℕ))
    → (x ≡ None → v4 ≡ None) → (b6 ≡ true → b100 ≡ false) → (b6 ≡ true → v7 ≡ None) → (z ≡ true → k ≡ false → v7 ≡ None)
    → (z ≡ false → y ≡ None → v7 ≡ None) → table b1 b4 b6 b100 z o x k y ≡ None
    → cond b1 (cond z v1 (cond o v2 None)) (cond b4 (cond z v3 v4) (cond b100 (cond z v5 (cond o v6 None)) v7)) ≡ None
no_table true b4 b6 b100 true o x k y v1 v2 v3 v4 v5 v6 v7 h g f p q e = absurd (cc)
no_table true b4 b6 b100 false true x k y v1 v2 v3 v4 v5 v6 v7 h g f p q e = absurd (cc)
no_table true b4 b6 b100 false false x k y v1 v2 v3 v4 v5 v6 v7 h g f p q e = refl
no_table false true b6 b100 true o x k y v1 v2 v3 v4 v5 v6 v7 h g f p q e = absurd (cc)
no_table false true b6 b100 false o None k y v1 v2 v3 v4 v5 v6 v7 h g f p q e = h refl
no_table false true b6 b100 false o (Some s) k y v1 v2 v3 v4 v5 v6 v7 h g f p q e = absurd (cc)
no_table false false true true z o x k y v1 v2 v3 v4 v5 v6 v7 h g f p q e = absurd (let n = g refl in cc)
no_table false false true false z o x k y v1 v2 v3 v4 v5 v6 v7 h g f p q e = f refl
no_table false false false true true o x k y v1 v2 v3 v4 v5 v6 v7 h g f p q e = absurd (cc)
no_table false false false true false true x k y v1 v2 v3 v4 v5 v6 v7 h g f p q e = absurd (cc)
no_table false false false true false false x k y v1 v2 v3 v4 v5 v6 v7 h g f p q e = refl
no_table false false false false true o x true y v1 v2 v3 v4 v5 v6 v7 h g f p q e = absurd (cc)
no_table false false false false true o x false y v1 v2 v3 v4 v5 v6 v7 h g f p q e = p refl refl
no_table false false false false false o x k None v1 v2 v3 v4 v5 v6 v7 h g f p q e = q refl refl
no_table false false false false false o x k (Some w) v1 v2 v3 v4 v5 v6 v7 h g f p q e = absurd (cc)

six : (n : ℕ) (t : Bool) → eqb n 6 ≡ true → eqb n 100 && t ≡ false
six n t e = ap (λ b. b && t) (let f : eqb n 100 ≡ false = grind (arith, nat_tests) in f)

no_block_value : (attribute : ℕ) (o : Option AssemblyValues) → option_map shape_of o ≡ None → block_value attribute o ≡ None
no_block_value attribute None e = refl
no_block_value attribute (Some b) e = absurd (cc)

-- an own class has no value without objects, and an own object has none without being found
own_class_value : (class instance attribute : ℕ) (os : List ObjectValues) → eqb instance 0 ≡ true → list_any (λ o. eqb o.class class) (map object_shape_of os) ≡ false → own_value class instance attribute os ≡ None
own_class_value class instance attribute os z none =
    let value = attribute_in attribute (attributes_of_class class (map object_shape_of os)) in
    let object = object_value attribute (find_object class instance os) in
    ap (λ t. cond t (cond (list_any (λ o. eqb o.class class) (map object_shape_of os)) value None) object) z
    ∙ ap (λ t. cond t value None) none

own_object_value : (class instance attribute : ℕ) (os : List ObjectValues) → eqb instance 0 ≡ false → object_at class instance (map object_shape_of os) ≡ None → own_value class instance attribute os ≡ None
own_object_value class instance attribute os z none =
    let of_class = cond (list_any (λ o. eqb o.class class) (map object_shape_of os)) (attribute_in attribute (attributes_of_class class (map object_shape_of os))) None in
    ap (λ t. cond t of_class (object_value attribute (find_object class instance os))) z
    ∙ ap (object_value attribute) (not_found class instance os none)

taken_manager : (counter : Bool) (class : ℕ) → eqb class 6 ≡ true → is_taken_class counter class ≡ true
taken_manager counter class e = ap (is_taken_class counter) (eqb-true class 6 e)

-- without services there is no attribute
pub no_value : (d : IdentityValues) (bs : List AssemblyValues) (c : CounterValues) (os : List ObjectValues) (m : Contents) (class instance : ℕ)
    → contents_of d bs c os ≡ m → NoneIsClass bs → AreApart c.enabled (map object_shape_of os) → services_of m.shapes class instance ≡ None
    → (attribute : ℕ) → value_at m class instance attribute ≡ None
unfolding services_of
no_value d bs c os m class instance is h own e attribute =
    let s = shapes-contents d bs c os m is in
    let e2 = sym (ap (λ x. services_of x class instance) s) ∙ e in
    ap (λ x. value_at x class instance attribute) (sym is)
    ∙ value_at-contents_of d bs c os h own class instance attribute
    ∙ no_table (eqb class 1) (eqb class 4) (eqb class 6) (eqb class 100 && c.enabled) (eqb instance 0) (eqb instance 1)
    (shape_at instance (map shape_of bs)) (list_any (λ o. eqb o.class class) (map object_shape_of os))
    (object_at class instance (map object_shape_of os)) _ _ _ _ _ _ _
    (λ n. no_block_value attribute (assembly_at instance bs) (sym (shape_at-map instance bs) ∙ n))
    (six class c.enabled)
    (λ t. taken_value c.enabled class instance attribute os own (taken_manager c.enabled class t))
    (λ z n. own_class_value class instance attribute os z n)
    (λ z n. own_object_value class instance attribute os z n) e2

pub ruleset reaches = (no_value, none_at_class)

not_both : (a : Bool) (o : Option Shape) → o ≡ None → if◌then◌else◌ a (kind_if_settable o) None ≡ None
not_both true o e = ap kind_if_settable e
not_both false o e = refl

-- the counter, or not the counter
counter_none : (t : Bool) (x y : Option AttributeKind) → t ≡ true → x ≡ None → cond t x y ≡ None
counter_none true x y e f = f
counter_none false x y e f = absurd (cc)

-- the kind of an own attribute
pub free_kind : (shapes : Shapes) (class instance attribute : ℕ) → IsFree shapes class → settable_kind shapes class instance attribute ≡ kind_in attribute (object_at class instance shapes.objects)
unfolding settable_kind
free_kind shapes class instance attribute f = rw (f.identity, f.assembly, f.manager, f.counter) refl

-- nothing else can be set
pub not_settable : (shapes : Shapes) (object : ObjectRef) (attribute : ℕ) → Exists shapes object
    → ((assembly_index : ℕ) → object ≡ object_refs.Assembly assembly_index → ⊥) → (object ≡ object_refs.Counter → ⊥)
    → ((object_index : ℕ) → object ≡ object_refs.Application object_index → ⊥)
    → settable_kind shapes (class_at shapes object) (instance_at shapes object) attribute ≡ None
unfolding settable_kind
not_settable shapes (object_refs.Class classes.Identity) attribute t f g k = refl
not_settable shapes (object_refs.Class classes.Assembly) attribute t f g k =
    not_both (eqb attribute 3) (shape_at 0 shapes.assemblies) t
not_settable shapes (object_refs.Class classes.Counter) attribute t f g k =
    counter_none shapes.has_counter None (kind_in attribute (object_at 100 0 shapes.objects)) t refl
not_settable shapes object_refs.Identity attribute t f g k = refl
not_settable shapes (object_refs.Assembly assembly_index) attribute t f g k = absurd (f assembly_index refl)
not_settable shapes object_refs.ConnectionManager attribute t f g k = refl
not_settable shapes object_refs.Counter attribute t f g k = absurd (g refl)
not_settable shapes (object_refs.ApplicationClass class) attribute t f g k =
    free_kind shapes class 0 attribute t.free ∙ ap (kind_in attribute) t.none
not_settable shapes (object_refs.Application object_index) attribute t f g k = absurd (k object_index refl)
