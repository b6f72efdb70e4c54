-- The names of what is kept, by their index.
use Rattle.std.proofs.Common.{◌≡◌, ℕ, zero, suc, ◌+◌, ◌-◌, ◌<◌, ◌≤◌, Bool, true, false, cond, List, [], ◌∷◌, ◌++◌, length, get_or, map, Option, Some, option_map, refl, sym, ap, ◌∙◌, arith}
use Rattle.std.specs.Prelude.{slice_get, filter}
use Rattle.std.specs.List.{flat_map}
use Rattle.std.proofs.lemmas.List.{length-map}
use Rattle.std.proofs.lemmas.Option.{slice_get-map, slice_get-get_or}
use Rattle.cip_application.specs.declared.object.AttributeName.{AttributeName}
use Rattle.cip_application.specs.Attributes.{AttributeValues}
use Rattle.cip_application.specs.Kept.{kept_names_of, is_kept as is_value_kept}
use Rattle.cip_application.specs.Objects.{ObjectValues}
use Rattle.cip_application.proofs.Names.{get_front, get_behind}
use Rattle.cip_objects.specs.Contents.{Contents}
use Rattle.cip_objects.specs.Entries.{IdentityValues, AssemblyValues, CounterValues, contents_of, shape_of, attribute_shape_of, object_shape_of, shapes_of}
use Rattle.cip_objects.specs.Kept.{name_of, data_names, counter_names, object_names, kept_names, names_behind_assemblies, is_kept}
use Rattle.cip_objects.proofs.Shapes.{shapes-contents}

-- the names of the shapes are those of the values
map_twice : {A B C : Type 0} (f : B → C) (g : A → B) (xs : List A) → map f (map g xs) ≡ map (λ x. f (g x)) xs
map_twice f g [] = refl
map_twice f g (x ∷ xs) = ap (λ ys. f (g x) ∷ ys) (map_twice f g xs)

names_in_same : (class instance : ℕ) (xs : List AttributeValues) → map (λ a. name_of class instance a.number) (filter (is_value_kept class) xs)
    ≡ map (λ a. name_of class instance a.number) (filter (is_kept class) (map attribute_shape_of xs))
names_in_same class instance [] = refl
names_in_same class instance (a ∷ xs) =
    elim (is_value_kept class a) as (λ t. map (λ b. name_of class instance b.number) (cond t (a ∷ filter (is_value_kept class) xs) (filter (is_value_kept class) xs))
    ≡ map (λ b. name_of class instance b.number) (cond t (attribute_shape_of a ∷ filter (is_kept class) (map attribute_shape_of xs)) (filter (is_kept class) (map attribute_shape_of xs)))) [
      | true ↦ ap (λ ns. name_of class instance a.number ∷ ns) (names_in_same class instance xs)
      | false ↦ names_in_same class instance xs
    ]

names_same : (os : List ObjectValues) → kept_names_of os ≡ flat_map object_names (map object_shape_of os)
names_same [] = refl
names_same (o ∷ os) =
    ap (λ ns. ns ++ kept_names_of os) (names_in_same o.class o.instance o.attributes)
    ∙ ap (λ ns. object_names (object_shape_of o) ++ ns) (names_same os)

counter_at : (i : ℕ) → i < 3 → slice_get (counter_names true) i ≡ Some (name_of 100 1 (i + 1))
counter_at zero h = refl
counter_at (suc zero) h = refl
counter_at (suc (suc zero)) h = refl
counter_at (suc (suc (suc i))) h = absurd (omega arith)

module _ (d : IdentityValues) (bs : List AssemblyValues) (c : CounterValues) (os : List ObjectValues) (m : Contents) (is : contents_of d bs c os ≡ m) where
  shapes : m.shapes ≡ shapes_of bs c os
  shapes = shapes-contents d bs c os m is

  -- an assembly's data
  pub data_name : (i : ℕ) (b : AssemblyValues) → i < length bs → b ≡ get_or bs i b → Some (name_of 4 b.instance 3) ≡ slice_get (kept_names m.shapes) i
  data_name i b within at =
      let here : slice_get bs i ≡ Some b = slice_get-get_or bs i b within ∙ ap (λ x. Some x) (sym at) in
      let named : slice_get (data_names (map shape_of bs)) i ≡ Some (name_of 4 b.instance 3) =
      ap (λ ns. slice_get ns i) (map_twice (λ s. name_of 4 s.instance 3) shape_of bs)
      ∙ slice_get-map (λ x. name_of 4 (shape_of x).instance 3) bs i
      ∙ ap (option_map (λ x. name_of 4 (shape_of x).instance 3)) here in
      sym (ap (λ s. slice_get (kept_names s) i) shapes
      ∙ get_front (data_names (map shape_of bs)) (names_behind_assemblies (shapes_of bs c os)) i (name_of 4 b.instance 3) named)

  -- what comes behind the assemblies
  pub behind_data : (i n : ℕ) → n ≡ length bs → n ≤ i → slice_get (names_behind_assemblies m.shapes) (i - n) ≡ slice_get (kept_names m.shapes) i
  behind_data i n size h =
      let count : length (data_names (map shape_of bs)) ≡ n = length-map (map shape_of bs) _ ∙ length-map bs shape_of ∙ sym size in
      ap (λ k. slice_get (names_behind_assemblies m.shapes) (i - k)) (sym count)
      ∙ ap (λ s. slice_get (names_behind_assemblies s) (i - length (data_names (map shape_of bs)))) shapes
      ∙ sym (get_behind (data_names (map shape_of bs)) (names_behind_assemblies (shapes_of bs c os)) i (omega (arith, count, h)))
      ∙ sym (ap (λ s. slice_get (kept_names s) i) shapes)

  -- without a counter, the application objects
  pub without_counter : (i : ℕ) (r : Option AttributeName) → c.enabled ≡ false → r ≡ slice_get (kept_names_of os) i → r ≡ slice_get (names_behind_assemblies m.shapes) i
  without_counter i r off e =
      e ∙ ap (λ ns. slice_get ns i) (names_same os)
      ∙ ap (λ b. slice_get (counter_names b ++ flat_map object_names (map object_shape_of os)) i) (sym off)
      ∙ sym (ap (λ s. slice_get (names_behind_assemblies s) i) shapes)

  -- with one, its three numbers first
  with_counter : (i : ℕ) → c.enabled ≡ true → slice_get (counter_names true ++ flat_map object_names (map object_shape_of os)) i ≡ slice_get (names_behind_assemblies m.shapes) i
  with_counter i on =
      ap (λ b. slice_get (counter_names b ++ flat_map object_names (map object_shape_of os)) i) (sym on)
      ∙ sym (ap (λ s. slice_get (names_behind_assemblies s) i) shapes)

  pub counter_number : (i : ℕ) → c.enabled ≡ true → i < 3 → Some (name_of 100 1 (i + 1)) ≡ slice_get (names_behind_assemblies m.shapes) i
  counter_number i on h =
      sym (get_front (counter_names true) (flat_map object_names (map object_shape_of os)) i (name_of 100 1 (i + 1)) (counter_at i h)) ∙ with_counter i on

  pub behind_counter : (i : ℕ) (r : Option AttributeName) → c.enabled ≡ true → 3 ≤ i → r ≡ slice_get (kept_names_of os) (i - 3) → r ≡ slice_get (names_behind_assemblies m.shapes) i
  behind_counter i r on h e =
      e ∙ ap (λ ns. slice_get ns (i - 3)) (names_same os)
      ∙ sym (get_behind (counter_names true) (flat_map object_names (map object_shape_of os)) i h)
      ∙ with_counter i on
