-- What holds of a configuration that no check refuses.
use Rattle.std.proofs.Common.{◌≡◌, ℕ, zero, suc, ◌<◌, ◌≤◌, eqb, Bool, true, false, cond, ◌||◌, nat_lt, List, [], ◌∷◌, length, get_or, map, sum, Option, Some, None, option_map, Result, Ok, Err, IfErr, refl, ap, ◌∙◌, arith}
use Rattle.std.proofs.lemmas.Bool.Decides.{nat_tests}
use Rattle.std.specs.List.{list_any, All}
use Rattle.std.specs.Result.{IsErr, IsErrAnd}
use Rattle.std.specs.String.{string_bytes}
use Rattle.cip_application.specs.declared.config.ObjectFault.{ObjectFault}
use Rattle.cip_application.specs.declared.config.ObjectFault.TheVariants as faults
use Rattle.cip_application.specs.Configuration.{fault_of as objects_fault, objects_of_config}
use Rattle.cip_objects.specs.declared.config.Config.{Config}
use Rattle.cip_objects.specs.declared.config.AssemblyConfig.{AssemblyConfig}
use Rattle.cip_objects.specs.declared.config.ConfigFault.{ConfigFault}
use Rattle.cip_objects.specs.declared.config.ConfigFault.TheVariants.{Memory}
use Rattle.cip_objects.specs.Limits.{LONGEST_DATA}
use Rattle.cip_objects.specs.Configuration.{fault_of, config_fault, is_invalid_name, is_invalid_size, are_invalid_members, are_invalid_instances, instances, assembly_of_config}
use Rattle.cip_objects.specs.Entries.{NoneIsClass, AreApart, object_shape_of}
use Rattle.cip_objects.proofs.ObjectsApart.{apart_objects}

pub record IsSound (c : Config) : Type 0 where
  pub name : length (string_bytes c.name) ≤ 32
  pub few : length c.assemblies.items ≤ 16
  pub small : All (λ a. sum a.members.items ≤ LONGEST_DATA) c.assemblies.items
  pub split : All (λ a. length a.members.items ≤ 64) c.assemblies.items
  pub numbered : NoneIsClass (map assembly_of_config c.assemblies.items)
  pub counter : c.counter.value ≤ c.counter.limit
  pub free : AreApart c.counter.enabled (map object_shape_of (objects_of_config c.objects.items))

none_cond : (b : Bool) (x : ConfigFault) (r : Option ConfigFault) → cond b (Some x) r ≡ None → (b ≡ false) × (r ≡ None)
none_cond true x r e = absurd (cc)
none_cond false x r e = (refl, e)

or_false : (a b : Bool) → a || b ≡ false → (a ≡ false) × (b ≡ false)
or_false true b e = absurd (cc)
or_false false b e = (refl, e)

none_any : {A : Type 0} (p : A → Bool) (xs : List A) → list_any p xs ≡ false → (k : ℕ) (d : A) → k < length xs → p (get_or xs k d) ≡ false
none_any p [] e k d h = absurd (omega arith)
none_any p (x ∷ xs) e zero d h = (or_false (p x) (list_any p xs) e).0
none_any p (x ∷ xs) e (suc k) d h = none_any p xs (or_false (p x) (list_any p xs) e).1 k d (omega arith)

at_most : (a b : ℕ) → nat_lt a b ≡ false → b ≤ a
at_most a b e = grind (arith, nat_tests)

above : (n : ℕ) → eqb n 0 ≡ false → 0 < n
above n e = grind (arith, nat_tests)

numbers : (xs : List AssemblyConfig) → are_invalid_instances (instances xs) ≡ false → NoneIsClass (map assembly_of_config xs)
numbers [] e = tt
numbers (x ∷ xs) e =
    let here = or_false _ (are_invalid_instances (instances xs)) e in
    let number = or_false (eqb x.instance 0) _ here.0 in
    (above x.instance number.0, numbers xs here.1)

no_fault : (f : Option ObjectFault) → option_map config_fault f ≡ None → f ≡ None
no_fault None e = refl
no_fault (Some x) e = absurd (cc)

pub objects_sound : (c : Config) → fault_of c ≡ None → objects_fault c.counter.enabled c.objects.items ≡ None
unfolding fault_of
objects_sound c e =
    let name = none_cond (is_invalid_name (string_bytes c.name)) _ _ e in
    let size = none_cond (nat_lt 16 (length c.assemblies.items) || list_any is_invalid_size c.assemblies.items) _ _ name.1 in
    let split = none_cond (list_any are_invalid_members c.assemblies.items) _ _ size.1 in
    let number = none_cond (are_invalid_instances (instances c.assemblies.items)) _ _ split.1 in
    let limit = none_cond (nat_lt c.counter.limit c.counter.value) _ _ number.1 in
    no_fault (objects_fault c.counter.enabled c.objects.items) limit.1

-- the objects accept what was checked: only memory can fail
pub memory_alone : {A : Type 0} (r : Result A ConfigFault) (x : ObjectFault) → IsErr r × IsErrAnd r (λ f. f ≡ config_fault x) → x ≡ faults.Memory → IfErr r (λ f. f ≡ Memory)
memory_alone (Ok y) x e m = tt
memory_alone (Err f) x e m = e.1 ∙ ap config_fault m

pub sound : (c : Config) → fault_of c ≡ None → IsSound c
unfolding fault_of
sound c e =
    let name = none_cond (is_invalid_name (string_bytes c.name)) _ _ e in
    let size = none_cond (nat_lt 16 (length c.assemblies.items) || list_any is_invalid_size c.assemblies.items) _ _ name.1 in
    let split = none_cond (list_any are_invalid_members c.assemblies.items) _ _ size.1 in
    let number = none_cond (are_invalid_instances (instances c.assemblies.items)) _ _ split.1 in
    let limit = none_cond (nat_lt c.counter.limit c.counter.value) _ _ number.1 in
    let named = or_false (nat_lt 32 (length (string_bytes c.name))) _ name.0 in
    let exact_size = or_false (nat_lt 16 (length c.assemblies.items)) (list_any is_invalid_size c.assemblies.items) size.0 in
    record {
      name = at_most 32 (length (string_bytes c.name)) named.0;
      few = at_most 16 (length c.assemblies.items) exact_size.0;
      small = λ k d h. at_most LONGEST_DATA (sum (get_or c.assemblies.items k d).members.items) (or_false _ _ (none_any is_invalid_size c.assemblies.items exact_size.1 k d h)).1;
      split = λ k d h. at_most 64 (length (get_or c.assemblies.items k d).members.items) (or_false _ _ (none_any are_invalid_members c.assemblies.items split.0 k d h)).0;
      numbered = numbers c.assemblies.items number.0;
      counter = at_most c.counter.limit c.counter.value limit.0;
      free = apart_objects c.counter.enabled c.objects.items (objects_sound c e);
    }
