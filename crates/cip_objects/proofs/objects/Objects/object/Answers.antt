use Rattle.std.proofs.Common.{◌≡◌, None, sym, ap, ◌∙◌, option_map, subst, MatchOption}
use Rattle.std.specs.Box.{boxed_slice_items}
use Rattle.cip_objects.specs.Counter.{counter_values}
use Rattle.cip_objects.specs.ObjectRef.{HasNoValue, Resolves, services_at}
use Rattle.cip_objects.specs.Entries.{assembly_at}
use Rattle.cip_objects.specs.FirstOf.{IsFirst}
use Rattle.cip_objects.specs.Tables.{services_of}
use Rattle.cip_objects.proofs.ObjectRefs.{found, no_value, services_found, services_missing}
use Rattle.cip_objects.proofs.objects.Objects.object.Goals as goal

pub returns-in_ok-position-in-4-default-clause-resolves : goal.returns-in_ok-position-in-4-default-clause-resolves
returns-in_ok-position-in-4-default-clause-resolves c =
    let assembly_index = c.in_ok-position-in-4-default.field-0 in
    let i = c.args.instance in
    let first : IsFirst (λ b. b.instance) (boxed_slice_items c.self.inside.assemblies) i assembly_index =
    rw c.deref.ensures.value at c.in_ok-position-in-4-default.ensures in
    let f = found c.self.inside c.args.self.now i assembly_index c.self.view_is first in
    record { same_class = c.in-4-default.is-0; same_instance = f.number; there = f.there }

pub returns-in_ok-position-in-4-default-clause-services : goal.returns-in_ok-position-in-4-default-clause-services
returns-in_ok-position-in-4-default-clause-services c =
    let assembly_index = c.in_ok-position-in-4-default.field-0 in
    let i = c.args.instance in
    let first : IsFirst (λ b. b.instance) (boxed_slice_items c.self.inside.assemblies) i assembly_index =
    rw c.deref.ensures.value at c.in_ok-position-in-4-default.ensures in
    sym (services_found c.self.inside c.args.self.now c.args.class i assembly_index c.self.view_is c.in-4-default.is-0
    c.in-4-default.is-1.1 first)

pub returns-in_err-position-in-4-default-clause-services : goal.returns-in_err-position-in-4-default-clause-services
returns-in_err-position-in-4-default-clause-services c =
    let i = c.args.instance in
    let none : assembly_at i (boxed_slice_items c.self.inside.assemblies) ≡ None =
    rw c.deref.ensures.value at c.in_err-position-in-4-default.ensures in
    ap (option_map (services_at c.args.self.now.shapes)) c.from_residual.ensures
    ∙ sym (services_missing c.self.inside c.args.self.now c.args.class i c.self.view_is c.in-4-default.is-0
    c.in-4-default.is-1.1 none)

pub returns-in_err-position-in-4-default-clause-resolves : goal.returns-in_err-position-in-4-default-clause-resolves
returns-in_err-position-in-4-default-clause-resolves c =
    let o = c.self.inside in
    let m = c.args.self.now in
    let class = c.args.class in
    let i = c.args.instance in
    let none : assembly_at i (boxed_slice_items o.assemblies) ≡ None =
    rw c.deref.ensures.value at c.in_err-position-in-4-default.ensures in
    let e : services_of m.shapes class i ≡ None =
    services_missing o m class i c.self.view_is c.in-4-default.is-0 c.in-4-default.is-1.1 none in
    subst (λ r. MatchOption r (HasNoValue m class i) (Resolves m.shapes class i)) (sym c.from_residual.ensures)
    (no_value o.identity (boxed_slice_items o.assemblies) (counter_values o.counter) o.application m class i
    c.self.view_is c.self.invariant.numbered c.self.invariant.free e)
