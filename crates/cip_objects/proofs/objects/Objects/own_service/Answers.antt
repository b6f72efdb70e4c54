use Rattle.std.proofs.Common.{sym, ap, ◌∙◌}
use Rattle.std.specs.Box.{boxed_slice_items}
use Rattle.cip_application.specs.Objects.{service_in}
use Rattle.cip_objects.specs.Counter.{counter_values}
use Rattle.cip_objects.proofs.ObjectLemmas.{found_index, shape_here}
use Rattle.cip_objects.proofs.objects.Objects.own_service.Goals as goal

pub service-requires : goal.service-requires
service-requires c =
    let o = c.self.inside in
    (found_index o.identity (boxed_slice_items o.assemblies) (counter_values o.counter) o.application c.args.self.now
    c.args.object_index c.self.view_is c.self.invariant.free c.requires).within

pub returns-clause-service : goal.returns-clause-service
returns-clause-service c =
    let o = c.self.inside in
    c.service.ensures.service
    ∙ sym (ap (λ s. service_in c.args.number s.services) (shape_here o.identity (boxed_slice_items o.assemblies) (counter_values o.counter)
    o.application c.args.self.now c.args.object_index c.self.view_is))
