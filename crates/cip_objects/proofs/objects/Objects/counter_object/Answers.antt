use Rattle.std.proofs.Common.{sym, ap, ◌∙◌, refl}
use Rattle.std.specs.Box.{boxed_slice_items}
use Rattle.cip_objects.specs.Counter.{counter_values}
use Rattle.cip_objects.specs.Tables.{services_of}
use Rattle.cip_objects.proofs.ObjectLemmas.{no_counter, has_counter, free_services, counter_services, no_instance}
use Rattle.cip_objects.proofs.ObjectRefs.{no_value}
use Rattle.cip_objects.proofs.objects.Objects.counter_object.Goals as goal

pub application_object-requires : goal.application_object-requires
application_object-requires c =
    let o = c.self.inside in
    no_counter o.identity (boxed_slice_items o.assemblies) (counter_values o.counter) o.application c.args.self.now
    c.self.view_is c.if-not-self.true

pub returns-then-not-self-clause-services : goal.returns-then-not-self-clause-services
returns-then-not-self-clause-services c =
    let o = c.self.inside in
    let free = no_counter o.identity (boxed_slice_items o.assemblies) (counter_values o.counter) o.application c.args.self.now
    c.self.view_is c.if-not-self.true in
    c.application_object.ensures.services ∙ sym (free_services c.args.self.now.shapes 100 c.args.instance free)

pub returns-then-instance-eq0-clause-services : goal.returns-then-instance-eq0-clause-services
returns-then-instance-eq0-clause-services c =
    let o = c.self.inside in
    let m = c.args.self.now in
    let there = has_counter o.identity (boxed_slice_items o.assemblies) (counter_values o.counter) o.application m
    c.self.view_is c.if-not-self.false in
    sym (ap (services_of m.shapes 100) c.if-instance-eq0.true ∙ counter_services m 0 there)

pub returns-then-instance-eq0-clause-resolves : goal.returns-then-instance-eq0-clause-resolves
returns-then-instance-eq0-clause-resolves c =
    let o = c.self.inside in
    let m = c.args.self.now in
    let there = has_counter o.identity (boxed_slice_items o.assemblies) (counter_values o.counter) o.application m
    c.self.view_is c.if-not-self.false in
    record { same_class = refl; same_instance = c.if-instance-eq0.true; there = there }

pub returns-then-instance-eq1-clause-services : goal.returns-then-instance-eq1-clause-services
returns-then-instance-eq1-clause-services c =
    let o = c.self.inside in
    let m = c.args.self.now in
    let there = has_counter o.identity (boxed_slice_items o.assemblies) (counter_values o.counter) o.application m
    c.self.view_is c.if-not-self.false in
    sym (ap (services_of m.shapes 100) c.if-instance-eq1.true ∙ counter_services m 1 there)

pub returns-then-instance-eq1-clause-resolves : goal.returns-then-instance-eq1-clause-resolves
returns-then-instance-eq1-clause-resolves c =
    let o = c.self.inside in
    let m = c.args.self.now in
    let there = has_counter o.identity (boxed_slice_items o.assemblies) (counter_values o.counter) o.application m
    c.self.view_is c.if-not-self.false in
    record { same_class = refl; same_instance = c.if-instance-eq1.true; there = there }

pub returns-clause-services : goal.returns-clause-services
returns-clause-services c =
    let o = c.self.inside in
    let m = c.args.self.now in
    let there = has_counter o.identity (boxed_slice_items o.assemblies) (counter_values o.counter) o.application m
    c.self.view_is c.if-not-self.false in
    sym (no_instance o.identity (boxed_slice_items o.assemblies) (counter_values o.counter) o.application m
    c.args.instance c.self.view_is there c.if-instance-eq0.false c.if-instance-eq1.false)

pub returns-clause-resolves : goal.returns-clause-resolves
returns-clause-resolves c =
    let o = c.self.inside in
    let m = c.args.self.now in
    let there = has_counter o.identity (boxed_slice_items o.assemblies) (counter_values o.counter) o.application m
    c.self.view_is c.if-not-self.false in
    no_value o.identity (boxed_slice_items o.assemblies) (counter_values o.counter) o.application m 100
    c.args.instance c.self.view_is c.self.invariant.numbered c.self.invariant.free
    (no_instance o.identity (boxed_slice_items o.assemblies) (counter_values o.counter) o.application m
    c.args.instance c.self.view_is there c.if-instance-eq0.false c.if-instance-eq1.false)
