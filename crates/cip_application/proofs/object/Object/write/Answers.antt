use Rattle.std.specs.Box.{boxed_slice_items}
use Rattle.cip_application.specs.Objects.{ObjectValues, IsAttributeAt}
use Rattle.cip_application.specs.Values.{from_offset}
use Rattle.cip_application.proofs.Writes.{object_written}
use Rattle.cip_application.proofs.object.Object.write.Goals as goal

pub returns-clause-written : goal.returns-clause-written
returns-clause-written c =
    let i = c.self.inside in
    let o : ObjectValues =
    record { class = i.class; instance = i.instance; attributes = boxed_slice_items i.attributes; services = boxed_slice_items i.services; lists = i.lists } in
    let at : IsAttributeAt o.attributes c.args.number c.in-Some.index = rw c.deref.ensures.value at c.in-Some.ensures in
    object_written o c.args.self.now c.args.number c.in-Some.index (from_offset c.args.offset c.args.bytes.now) c.index_mut.result.now c.write.new.self
    c.self.view_is at c.index_mut.ensures.value c.write.ensures.written
