use Rattle.std.proofs.Common.{ap, ◌∙◌, sym}
use Rattle.std.specs.Box.{boxed_slice_items}
use Rattle.cip_application.specs.Objects.{ObjectValues, IsAttributeAt, object_set}
use Rattle.cip_application.proofs.Writes.{on_ok, if_err, set_ok, set_err}
use Rattle.cip_application.proofs.object.Object.set.Goals as goal

pub returns-clause-set : goal.returns-clause-set
returns-clause-set c =
    let i = c.self.inside in
    let o : ObjectValues =
    record { class = i.class; instance = i.instance; attributes = boxed_slice_items i.attributes; services = boxed_slice_items i.services; lists = i.lists } in
    let at : IsAttributeAt o.attributes c.args.number c.in-Some.index = rw c.deref.ensures.value at c.in-Some.ensures in
    on_ok c.set.result
    (λ e. ap (λ x. object_set x c.args.number c.args.data.now) (sym c.self.view_is)
    ∙ set_ok o c.args.number c.in-Some.index c.args.data.now c.index_mut.result.now c.set.new.self at c.index_mut.ensures.value e)
    c.set.ensures.set

pub returns-clause-fault : goal.returns-clause-fault
returns-clause-fault c =
    let i = c.self.inside in
    let o : ObjectValues =
    record { class = i.class; instance = i.instance; attributes = boxed_slice_items i.attributes; services = boxed_slice_items i.services; lists = i.lists } in
    let at : IsAttributeAt o.attributes c.args.number c.in-Some.index = rw c.deref.ensures.value at c.in-Some.ensures in
    if_err _ _ c.set.result
    (λ fault e. ap (λ x. object_set x c.args.number c.args.data.now) (sym c.self.view_is)
    ∙ set_err o c.args.number c.in-Some.index c.args.data.now c.index_mut.result.now fault at c.index_mut.ensures.value e)
    c.set.ensures.fault
