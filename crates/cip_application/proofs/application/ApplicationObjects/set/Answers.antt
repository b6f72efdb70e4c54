use Rattle.std.proofs.Common.{◌<◌, length, ap, ◌∙◌, sym}
use Rattle.std.specs.Box.{boxed_slice_items}
use Rattle.cip_application.specs.Objects.{objects_set}
use Rattle.cip_application.proofs.Writes.{on_ok, if_err, objects_set_ok, objects_set_err}
use Rattle.cip_application.proofs.application.ApplicationObjects.set.Goals as goal

pub returns-clause-set : goal.returns-clause-set
returns-clause-set c =
    let objects = boxed_slice_items c.self.inside.objects in
    let within : c.args.position < length objects = rw c.self.view_is c.requires in
    on_ok c.set.result
    (λ e. ap (λ x. objects_set x c.args.position c.args.number c.args.data.now) (sym c.self.view_is)
    ∙ objects_set_ok objects c.args.position c.args.number c.args.data.now c.index_mut.result.now c.set.new.self within c.index_mut.ensures.value e)
    c.set.ensures.set

pub returns-clause-fault : goal.returns-clause-fault
returns-clause-fault c =
    let objects = boxed_slice_items c.self.inside.objects in
    let within : c.args.position < length objects = rw c.self.view_is c.requires in
    if_err _ _ c.set.result
    (λ fault e. ap (λ x. objects_set x c.args.position c.args.number c.args.data.now) (sym c.self.view_is)
    ∙ objects_set_err objects c.args.position c.args.number c.args.data.now c.index_mut.result.now fault within c.index_mut.ensures.value e)
    c.set.ensures.fault
