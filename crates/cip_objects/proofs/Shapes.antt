-- The tables made from the assemblies and the application objects.
use Rattle.std.proofs.Common.{◌≡◌, ℕ, eqb, Bool, true, false, cond, ◌&&◌, List, [], ◌∷◌, ◌++◌, map, flat_map, Option, Some, None, option_map, refl, sym, ap, ◌∙◌}
use Rattle.std.proofs.lemmas.Bool.{eqb-true}
use Rattle.std.specs.Option.{option_or, option_and_then}
use Rattle.cip_application.specs.Attributes.{AttributeValues, attribute_at as attribute_in_values}
use Rattle.cip_application.specs.Objects.{ObjectValues}
use Rattle.cip_objects.specs.ObjectMap.{Key, key}
use Rattle.cip_objects.specs.Tables.{shape_at}
use Rattle.cip_objects.specs.Changes.{Tally, is_key, changes_at, changes_of}
use Rattle.cip_objects.specs.Contents.{Contents}
use Rattle.cip_objects.specs.Entries.{IdentityValues, CounterValues, AssemblyValues, AreApart, assembly_at, shape_of, shapes_of, tally_of, object_shape_of, object_tallies, contents_of}
use Rattle.cip_objects.proofs.Lookup.{find_object, not_found, both_true, taken_none}

-- the shape of an instance is that of its assembly
pub shape_at-map : (i : ℕ) (bs : List AssemblyValues) → shape_at i (map shape_of bs) ≡ option_map shape_of (assembly_at i bs)
shape_at-map i [] = refl
shape_at-map i (b ∷ bs) =
    elim (eqb b.instance i) as (λ t. cond t (Some (shape_of b)) (shape_at i (map shape_of bs)) ≡ option_map shape_of (cond t (Some b) (assembly_at i bs))) [
      | true ↦ refl
      | false ↦ shape_at-map i bs
    ]

-- the shapes in the contents of these values
pub shapes-contents : (d : IdentityValues) (bs : List AssemblyValues) (c : CounterValues) (os : List ObjectValues) (m : Contents) → contents_of d bs c os ≡ m
    → m.shapes ≡ shapes_of bs c os
unfolding contents_of
shapes-contents d bs c os m e = ap (λ x. x.shapes) (sym e)

-- the shape of an instance in the contents of these assemblies
pub shape_at-contents : (d : IdentityValues) (bs : List AssemblyValues) (c : CounterValues) (os : List ObjectValues) (m : Contents) (i : ℕ) → contents_of d bs c os ≡ m → shape_at i m.shapes.assemblies ≡ option_map shape_of (assembly_at i bs)
shape_at-contents d bs c os m i e = ap (λ x. shape_at i x.assemblies) (shapes-contents d bs c os m e) ∙ shape_at-map i bs

-- counts in two lists
or_after : (t : Bool) (n : ℕ) (x y : Option ℕ) → cond t (Some n) (option_or x y) ≡ option_or (cond t (Some n) x) y
or_after true n x y = refl
or_after false n x y = refl

pub changes_at-append : (k : Key) (xs ys : List Tally) → changes_at k (xs ++ ys) ≡ option_or (changes_at k xs) (changes_at k ys)
changes_at-append k [] ys = refl
changes_at-append k (x ∷ xs) ys =
    ap (cond (is_key x.of_key k) (Some x.changes)) (changes_at-append k xs ys)
    ∙ or_after (is_key x.of_key k) x.changes (changes_at k xs) (changes_at k ys)

and_true : (t : Bool) → t && true ≡ t
and_true true = refl
and_true false = refl

-- the assembly knows how often its data were written
pub changes_of-map : (i : ℕ) (bs : List AssemblyValues) → changes_of i (map tally_of bs) ≡ option_map (λ b. b.changes) (assembly_at i bs)
changes_of-map i [] = refl
changes_of-map i (b ∷ bs) =
    ap (λ t. cond t (Some b.changes) (changes_of i (map tally_of bs))) (and_true (eqb b.instance i))
    ∙ elim (eqb b.instance i) as (λ t. cond t (Some b.changes) (changes_of i (map tally_of bs)) ≡ option_map (λ b. b.changes) (cond t (Some b) (assembly_at i bs))) [
      | true ↦ refl
      | false ↦ changes_of-map i bs
    ]

-- no other class has assemblies
pub none_counted : (class i a : ℕ) (bs : List AssemblyValues) → eqb 4 class ≡ false → changes_at (key class i a) (map tally_of bs) ≡ None
none_counted class i a [] h = refl
none_counted class i a (b ∷ bs) h =
    ap (λ t. cond (t && (eqb b.instance i && eqb 3 a)) (Some b.changes) (changes_at (key class i a) (map tally_of bs))) h
    ∙ none_counted class i a bs h

-- an application object knows how often its attributes were set
abbrev pub object_changes : ℕ → Option ObjectValues → Option ℕ
object_changes a o = option_and_then (λ x. option_map (λ v. v.changes) (attribute_in_values a x.attributes)) o

abbrev tallies : ℕ → ℕ → List AttributeValues → List Tally
tallies class instance xs = map (λ a. record { of_key = key class instance a.number; changes = a.changes }) xs

count_cond : (c i n : Bool) (a : AttributeValues) (x y : Option ℕ) (r : Option AttributeValues) → x ≡ cond (c && i) y None → y ≡ option_map (λ v. v.changes) r → cond (c && (i && n)) (Some a.changes) x ≡ cond (c && i) (option_map (λ v. v.changes) (cond n (Some a) r)) None
count_cond true true true a x y r e f = refl
count_cond true true false a x y r e f = e ∙ f
count_cond true false n a x y r e f = e
count_cond false i n a x y r e f = e

pub in_object : (class instance c i a : ℕ) (xs : List AttributeValues) → changes_at (key c i a) (tallies class instance xs) ≡ cond (eqb class c && eqb instance i) (option_map (λ v. v.changes) (attribute_in_values a xs)) None
in_object class instance c i a [] = elim (eqb class c && eqb instance i) as (λ t. ◌≡◌ {A = Option ℕ} None (cond t None None)) [
  | true ↦ refl
  | false ↦ refl
]
in_object class instance c i a (x ∷ xs) =
    count_cond (eqb class c) (eqb instance i) (eqb x.number a) x _ _ (attribute_in_values a xs) (in_object class instance c i a xs) refl

or_nothing : (x : Option ℕ) → option_or x None ≡ x
or_nothing None = refl
or_nothing (Some x) = refl

or_else : (t : Bool) (x y : Option ℕ) → (t ≡ true → y ≡ None) → option_or (cond t x None) y ≡ cond t x y
or_else true x y h = ap (option_or x) (h refl) ∙ or_nothing x
or_else false x y h = refl

changes_cond : (a : ℕ) (t : Bool) (o : ObjectValues) (r : Option ObjectValues) → object_changes a (cond t (Some o) r) ≡ cond t (option_map (λ v. v.changes) (attribute_in_values a o.attributes)) (object_changes a r)
changes_cond a true o r = refl
changes_cond a false o r = refl

-- no later object has the same class and number
apart_none : (c i a : ℕ) (o : ObjectValues) (os : List ObjectValues) → find_object o.class o.instance os ≡ None → eqb o.class c && eqb o.instance i ≡ true → object_changes a (find_object c i os) ≡ None
apart_none c i a o os e t =
    let p = both_true (eqb o.class c) _ t in
    ap (λ n. object_changes a (find_object n i os)) (sym (eqb-true o.class c p.0))
    ∙ ap (λ n. object_changes a (find_object o.class n os)) (sym (eqb-true o.instance i p.1))
    ∙ ap (object_changes a) e

pub objects_counted : (counter : Bool) (c i a : ℕ) (os : List ObjectValues) → AreApart counter (map object_shape_of os) → changes_at (key c i a) (flat_map object_tallies os) ≡ object_changes a (find_object c i os)
objects_counted counter c i a [] h = refl
objects_counted counter c i a (o ∷ os) h =
    let k = key c i a in
    let here = option_map (λ v. v.changes) (attribute_in_values a o.attributes) in
    let later = object_changes a (find_object c i os) in
    changes_at-append k (object_tallies o) (flat_map object_tallies os)
    ∙ ap (λ x. option_or x (changes_at k (flat_map object_tallies os))) (in_object o.class o.instance c i a o.attributes)
    ∙ ap (option_or (cond (eqb o.class c && eqb o.instance i) here None)) (objects_counted counter c i a os h.4)
    ∙ or_else (eqb o.class c && eqb o.instance i) here later (apart_none c i a o os (not_found o.class o.instance os h.2))
    ∙ sym (changes_cond a (eqb o.class c && eqb o.instance i) o (find_object c i os))

-- the counts in the contents of these values
pub changes-contents : (d : IdentityValues) (bs : List AssemblyValues) (c : CounterValues) (os : List ObjectValues) (m : Contents) (class i a : ℕ) → contents_of d bs c os ≡ m → AreApart c.enabled (map object_shape_of os) → changes_at (key class i a) m.changes ≡ option_or (changes_at (key class i a) (map tally_of bs)) (object_changes a (find_object class i os))
unfolding contents_of
changes-contents d bs c os m class i a e h =
    ap (λ x. changes_at (key class i a) x.changes) (sym e)
    ∙ changes_at-append (key class i a) (map tally_of bs) (flat_map object_tallies os)
    ∙ ap (option_or (changes_at (key class i a) (map tally_of bs))) (objects_counted c.enabled class i a os h)

pub changes_of-contents : (d : IdentityValues) (bs : List AssemblyValues) (c : CounterValues) (os : List ObjectValues) (m : Contents) (i : ℕ) → contents_of d bs c os ≡ m → AreApart c.enabled (map object_shape_of os) → changes_of i m.changes ≡ option_map (λ b. b.changes) (assembly_at i bs)
changes_of-contents d bs c os m i e h =
    changes-contents d bs c os m 4 i 3 e h
    ∙ ap (λ o. option_or (changes_of i (map tally_of bs)) (object_changes 3 o)) ((taken_none c.enabled 4 os h refl).of_number i)
    ∙ or_nothing (changes_of i (map tally_of bs))
    ∙ changes_of-map i bs

-- the counts of the application objects
pub object_changes-contents : (d : IdentityValues) (bs : List AssemblyValues) (c : CounterValues) (os : List ObjectValues) (m : Contents) (class i a : ℕ) → contents_of d bs c os ≡ m → AreApart c.enabled (map object_shape_of os) → eqb 4 class ≡ false → changes_at (key class i a) m.changes ≡ object_changes a (find_object class i os)
object_changes-contents d bs c os m class i a e h other =
    changes-contents d bs c os m class i a e h
    ∙ ap (λ x. option_or x (object_changes a (find_object class i os))) (none_counted class i a bs other)

-- an assembly has no other attribute that is counted
pub no_other_counted : (i a : ℕ) (bs : List AssemblyValues) → eqb 3 a ≡ false → changes_at (key 4 i a) (map tally_of bs) ≡ None
no_other_counted i a [] h = refl
no_other_counted i a (b ∷ bs) h =
    ap (λ t. cond (eqb b.instance i && t) (Some b.changes) (changes_at (key 4 i a) (map tally_of bs))) h
    ∙ elim (eqb b.instance i) as (λ t. cond (t && false) (Some b.changes) (changes_at (key 4 i a) (map tally_of bs)) ≡ None) [
      | true ↦ no_other_counted i a bs h
      | false ↦ no_other_counted i a bs h
    ]

pub no_other-contents : (d : IdentityValues) (bs : List AssemblyValues) (c : CounterValues) (os : List ObjectValues) (m : Contents) (i a : ℕ) → contents_of d bs c os ≡ m → AreApart c.enabled (map object_shape_of os) → eqb 3 a ≡ false → changes_at (key 4 i a) m.changes ≡ None
no_other-contents d bs c os m i a e h other =
    changes-contents d bs c os m 4 i a e h
    ∙ ap (λ o. option_or (changes_at (key 4 i a) (map tally_of bs)) (object_changes a o)) ((taken_none c.enabled 4 os h refl).of_number i)
    ∙ or_nothing (changes_at (key 4 i a) (map tally_of bs))
    ∙ no_other_counted i a bs other
