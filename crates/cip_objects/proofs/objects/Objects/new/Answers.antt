use Rattle.std.proofs.Common.{◌≡◌, ◌≤◌, ◌<◌, ◌^◌, sym, ap, ◌∙◌, arith, length, map}
use Rattle.std.specs.Box.{boxed_slice_items}
use Rattle.std.proofs.lemmas.List.{length-map}
use Rattle.cip_application.specs.Configuration.{fault_of as objects_fault, objects_of_config}
use Rattle.cip_objects.specs.Configuration.{contents_of_config, assembly_of_config, identity_of, counter_of}
use Rattle.cip_objects.specs.Counter.{counter_values}
use Rattle.cip_objects.specs.Entries.{contents_of, AreApart, NoneIsClass, object_shape_of}
use Rattle.std.specs.String.{string_bytes}
use Rattle.cip_objects.proofs.Numbers.{new_counts}
use Rattle.cip_objects.proofs.Sound.{sound, objects_sound, memory_alone}
use Rattle.cip_objects.proofs.Whole.{BlocksAreWhole, contents_whole, whole_blocks}
use Rattle.cip_objects.proofs.objects.Objects.new.Goals as goal

pub name_of-requires : goal.name_of-requires
name_of-requires c =
    let s = sound c.args.config.now (sym c.in_default.ensures) in
    rw c.as_bytes.ensures.value s.name

pub assemblies_of-requires-clause-few : goal.assemblies_of-requires-clause-few
assemblies_of-requires-clause-few c =
    let s = sound c.args.config.now (sym c.in_default.ensures) in
    rw c.deref.ensures.value s.split

pub assemblies_of-requires-clause-small : goal.assemblies_of-requires-clause-small
assemblies_of-requires-clause-small c =
    let s = sound c.args.config.now (sym c.in_default.ensures) in
    rw c.deref.ensures.value s.small

pub invariant_of-result : goal.invariant_of-result
invariant_of-result c =
    let s = sound c.args.config.now (sym c.in_default.ensures) in
    let blocks = boxed_slice_items c.in_ok-assemblies_of.field-0 in
    let items : blocks ≡ map assembly_of_config c.args.config.now.assemblies.items =
    c.in_ok-assemblies_of.ensures ∙ ap (map assembly_of_config) c.deref.ensures.value in
    let own : c.in_ok-new.field-0 ≡ objects_of_config c.args.config.now.objects.items =
    c.in_ok-new.ensures.made ∙ ap objects_of_config c.deref-2.ensures.value in
    record {
      few = omega (arith, s.few, ap length items, length-map c.args.config.now.assemblies.items assembly_of_config);
      numbered = rw items s.numbered;
      free = rw (ap (λ k. k.enabled) c.new.ensures.new, own) s.free;
      value = rw (ap (λ k. k.value) c.new.ensures.new) c.new.ensures.value;
      limit = rw (ap (λ k. k.limit) c.new.ensures.new) c.new.ensures.limit;
      additions = rw (ap (λ k. k.additions) c.new.ensures.new) (omega arith);
    }

pub returns-clause-made : goal.returns-clause-made
unfolding contents_of_config
returns-clause-made c =
    let config = c.args.config.now in
    let blocks = boxed_slice_items c.in_ok-assemblies_of.field-0 in
    let items : blocks ≡ map assembly_of_config config.assemblies.items =
    c.in_ok-assemblies_of.ensures ∙ ap (map assembly_of_config) c.deref.ensures.value in
    let own : c.in_ok-new.field-0 ≡ objects_of_config c.args.config.now.objects.items =
    c.in_ok-new.ensures.made ∙ ap objects_of_config c.deref-2.ensures.value in
    let name : c.name_of.result.items ≡ string_bytes config.name = c.name_of.ensures ∙ c.as_bytes.ensures.value in
    ap (λ k. contents_of (record (identity_of config) { name = c.name_of.result.items }) blocks k c.in_ok-new.field-0)
    c.new.ensures.new
    ∙ ap (λ n. contents_of (record (identity_of config) { name = n }) blocks (counter_of config.counter) c.in_ok-new.field-0) name
    ∙ ap (λ bs. contents_of (identity_of config) bs (counter_of config.counter) c.in_ok-new.field-0) items
    ∙ ap (contents_of (identity_of config) (map assembly_of_config config.assemblies.items) (counter_of config.counter)) own

pub returns-clause-counter : goal.returns-clause-counter
returns-clause-counter c = λ there.
    let s = sound c.args.config.now (sym c.in_default.ensures) in
    let blocks = boxed_slice_items c.in_ok-assemblies_of.field-0 in
    let items : blocks ≡ map assembly_of_config c.args.config.now.assemblies.items =
    c.in_ok-assemblies_of.ensures ∙ ap (map assembly_of_config) c.deref.ensures.value in
    let own : c.in_ok-new.field-0 ≡ objects_of_config c.args.config.now.objects.items =
    c.in_ok-new.ensures.made ∙ ap objects_of_config c.deref-2.ensures.value in
    let counter = c.new.ensures.new in
    let numbered : NoneIsClass blocks = rw items s.numbered in
    let apart : AreApart c.new.result.enabled (map object_shape_of c.in_ok-new.field-0) = rw (ap (λ k. k.enabled) counter, own) s.free in
    let within : c.new.result.value ≤ c.new.result.limit = rw (ap (λ k. k.value) counter, ap (λ k. k.limit) counter) s.counter in
    let limit : c.new.result.limit < 2 ^ 32 = rw (ap (λ k. k.limit) counter) c.new.ensures.limit in
    new_counts _ blocks (counter_values c.new.result) c.in_ok-new.field-0 numbered apart
    (ap (λ k. k.enabled) counter ∙ there) within limit (ap (λ k. k.additions) counter)

pub returns-clause-whole : goal.returns-clause-whole
returns-clause-whole c =
    let s = sound c.args.config.now (sym c.in_default.ensures) in
    let blocks = boxed_slice_items c.in_ok-assemblies_of.field-0 in
    let items : blocks ≡ map assembly_of_config c.args.config.now.assemblies.items =
    c.in_ok-assemblies_of.ensures ∙ ap (map assembly_of_config) c.deref.ensures.value in
    let own : c.in_ok-new.field-0 ≡ objects_of_config c.args.config.now.objects.items =
    c.in_ok-new.ensures.made ∙ ap objects_of_config c.deref-2.ensures.value in
    let numbered : NoneIsClass blocks = rw items s.numbered in
    let apart : AreApart c.new.result.enabled (map object_shape_of c.in_ok-new.field-0) = rw (ap (λ k. k.enabled) c.new.ensures.new, own) s.free in
    let whole : BlocksAreWhole blocks = rw items (whole_blocks c.args.config.now.assemblies.items) in
    contents_whole _ blocks (counter_values c.new.result) c.in_ok-new.field-0 numbered apart whole

pub returns-in_err-new-clause-allowed : goal.returns-in_err-new-clause-allowed
returns-in_err-new-clause-allowed c = λ none.
    let config = c.args.config.now in
    memory_alone c.from_residual-in_err-new.result _ c.from_residual-in_err-new.ensures
    (c.in_err-new.ensures.allowed (ap (objects_fault config.counter.enabled) c.deref-2.ensures.value ∙ objects_sound config none))
