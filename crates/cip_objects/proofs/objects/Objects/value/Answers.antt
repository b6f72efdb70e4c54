use Rattle.std.proofs.Common.{sym, ap, ◌∙◌, subst}
use Rattle.cip_objects.specs.ObjectRef.{Exists, HasCounter, IsAssemblyIndex, value_to}
use Rattle.std.specs.Box.{boxed_slice_items}
use Rattle.cip_objects.specs.Counter.{counter_values}
use Rattle.cip_objects.specs.Entries.{attribute_in, assembly_attributes}
use Rattle.cip_objects.proofs.ObjectLemmas.{manager_value, counter_value}
use Rattle.cip_objects.proofs.ObjectRefs.{place_value, place_within}
use Rattle.cip_objects.proofs.objects.Objects.value.Goals as goal

pub index-requires : goal.index-requires
index-requires c =
    let m = c.args.self.now in
    let p : IsAssemblyIndex m.shapes c.in-Assembly.assembly_index = subst (Exists m.shapes) c.in-Assembly.is c.requires in
    place_within c.self.inside m c.in-Assembly.assembly_index c.self.view_is p

pub returns-in-Assembly-clause-value : goal.returns-in-Assembly-clause-value
returns-in-Assembly-clause-value c =
    let m = c.args.self.now in
    let assembly_index = c.in-Assembly.assembly_index in
    let a = c.args.attribute in
    let p : IsAssemblyIndex m.shapes assembly_index = subst (Exists m.shapes) c.in-Assembly.is c.requires in
    c.attribute-in-Assembly.ensures.value
    ∙ ap (λ b. attribute_in a (assembly_attributes b)) c.index.ensures
    ∙ sym (place_value c.self.inside m assembly_index a c.index.result.now c.self.view_is c.self.invariant.numbered c.self.invariant.free p)
    ∙ ap (λ d. value_to m d a) (sym c.in-Assembly.is)

pub returns-in-ConnectionManager-clause-value : goal.returns-in-ConnectionManager-clause-value
returns-in-ConnectionManager-clause-value c =
    let o = c.self.inside in
    let m = c.args.self.now in
    sym (manager_value o.identity (boxed_slice_items o.assemblies) (counter_values o.counter) o.application m
    c.args.attribute c.self.view_is c.self.invariant.numbered c.self.invariant.free)
    ∙ ap (λ d. value_to m d c.args.attribute) (sym c.in-ConnectionManager.is)

pub returns-in-Counter-clause-value : goal.returns-in-Counter-clause-value
returns-in-Counter-clause-value c =
    let o = c.self.inside in
    let m = c.args.self.now in
    let there : HasCounter m.shapes = subst (Exists m.shapes) c.in-Counter.is c.requires in
    c.attribute-in-Counter.ensures.value
    ∙ sym (counter_value o.identity (boxed_slice_items o.assemblies) (counter_values o.counter) o.application m
    c.args.attribute c.self.view_is c.self.invariant.numbered c.self.invariant.free there)
    ∙ ap (λ d. value_to m d c.args.attribute) (sym c.in-Counter.is)
