use Rattle.std.proofs.Common.{◌≡◌, sym, ap, ◌∙◌, option_map, subst, MatchOption, eqb, false}
use Rattle.std.specs.Box.{boxed_slice_items}
use Rattle.cip_objects.specs.Counter.{counter_values}
use Rattle.cip_objects.specs.ObjectRef.{HasNoValue, Resolves, services_at, object_in}
use Rattle.cip_objects.specs.Tables.{services_of_object}
use Rattle.cip_objects.proofs.Blocks.{eqb-other}
use Rattle.cip_objects.proofs.ObjectLemmas.{free_services, no_class_services, class_services, class_found, services_at_place, object_found}
use Rattle.cip_objects.proofs.ObjectRefs.{no_value}
use Rattle.cip_objects.proofs.objects.Objects.application_object.Goals as goal

pub returns-in_err-class-clause-services : goal.returns-in_err-class-clause-services
returns-in_err-class-clause-services c =
    let o = c.self.inside in
    ap (option_map (services_at c.args.self.now.shapes)) c.from_residual.ensures
    ∙ sym (no_class_services o.identity (boxed_slice_items o.assemblies) (counter_values o.counter) o.application c.args.self.now
    c.args.class c.args.instance c.self.view_is c.if-instance-eq0.true (sym c.in_err-class.ensures))

pub returns-in_err-class-clause-resolves : goal.returns-in_err-class-clause-resolves
returns-in_err-class-clause-resolves c =
    let o = c.self.inside in
    let m = c.args.self.now in
    let none = free_services m.shapes c.args.class c.args.instance c.requires
    ∙ no_class_services o.identity (boxed_slice_items o.assemblies) (counter_values o.counter) o.application m
    c.args.class c.args.instance c.self.view_is c.if-instance-eq0.true (sym c.in_err-class.ensures) in
    subst (λ r. MatchOption r (HasNoValue m c.args.class c.args.instance) (Resolves m.shapes c.args.class c.args.instance))
    (sym c.from_residual.ensures)
    (no_value o.identity (boxed_slice_items o.assemblies) (counter_values o.counter) o.application m c.args.class
    c.args.instance c.self.view_is c.self.invariant.numbered c.self.invariant.free none)

pub returns-then-instance-eq0-clause-services : goal.returns-then-instance-eq0-clause-services
returns-then-instance-eq0-clause-services c =
    let o = c.self.inside in
    sym (class_services o.identity (boxed_slice_items o.assemblies) (counter_values o.counter) o.application c.args.self.now
    c.args.class c.args.instance c.in_ok-class.field-0 c.self.view_is c.if-instance-eq0.true (sym c.in_ok-class.ensures))

pub returns-then-instance-eq0-clause-resolves : goal.returns-then-instance-eq0-clause-resolves
returns-then-instance-eq0-clause-resolves c =
    let o = c.self.inside in
    record {
      same_class = λ i. c.args.class;
      same_instance = c.if-instance-eq0.true;
      there = class_found o.identity (boxed_slice_items o.assemblies) (counter_values o.counter) o.application c.args.self.now
          c.args.class c.self.view_is c.self.invariant.free c.requires;
    }

pub returns-in_err-position-clause-services : goal.returns-in_err-position-clause-services
returns-in_err-position-clause-services c =
    let o = c.self.inside in
    let above : eqb c.args.instance 0 ≡ false = eqb-other c.args.instance 0 c.if-instance-eq0.false in
    ap (option_map (services_at c.args.self.now.shapes)) c.from_residual-in_err-position.ensures
    ∙ sym (services_at_place o.identity (boxed_slice_items o.assemblies) (counter_values o.counter) o.application c.args.self.now
    c.args.class c.args.instance c.self.view_is above
    ∙ ap (option_map (λ k. services_of_object (object_in c.args.self.now.shapes k))) (sym c.in_err-position.ensures.position))

pub returns-in_err-position-clause-resolves : goal.returns-in_err-position-clause-resolves
returns-in_err-position-clause-resolves c =
    let o = c.self.inside in
    let m = c.args.self.now in
    let above : eqb c.args.instance 0 ≡ false = eqb-other c.args.instance 0 c.if-instance-eq0.false in
    let none = free_services m.shapes c.args.class c.args.instance c.requires
    ∙ services_at_place o.identity (boxed_slice_items o.assemblies) (counter_values o.counter) o.application m
    c.args.class c.args.instance c.self.view_is above
    ∙ ap (option_map (λ k. services_of_object (object_in c.args.self.now.shapes k))) (sym c.in_err-position.ensures.position) in
    subst (λ r. MatchOption r (HasNoValue m c.args.class c.args.instance) (Resolves m.shapes c.args.class c.args.instance))
    (sym c.from_residual-in_err-position.ensures)
    (no_value o.identity (boxed_slice_items o.assemblies) (counter_values o.counter) o.application m c.args.class
    c.args.instance c.self.view_is c.self.invariant.numbered c.self.invariant.free none)

pub returns-clause-services : goal.returns-clause-services
returns-clause-services c =
    let o = c.self.inside in
    let above : eqb c.args.instance 0 ≡ false = eqb-other c.args.instance 0 c.if-instance-eq0.false in
    sym (services_at_place o.identity (boxed_slice_items o.assemblies) (counter_values o.counter) o.application c.args.self.now
    c.args.class c.args.instance c.self.view_is above
    ∙ ap (option_map (λ k. services_of_object (object_in c.args.self.now.shapes k))) (sym c.in_ok-position.ensures.position))

pub returns-clause-resolves : goal.returns-clause-resolves
returns-clause-resolves c =
    let o = c.self.inside in
    object_found o.identity (boxed_slice_items o.assemblies) (counter_values o.counter) o.application c.args.self.now
    c.args.class c.args.instance c.in_ok-position.field-0 c.self.view_is c.self.invariant.free c.requires
    (sym c.in_ok-position.ensures.position)
