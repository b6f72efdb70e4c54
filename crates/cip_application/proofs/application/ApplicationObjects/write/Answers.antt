use Rattle.std.proofs.Common.{◌≡◌, ◌<◌, length, Some, unwrap_or, is_some, ap, ◌∙◌, sym}
use Rattle.std.specs.Box.{boxed_slice_items}
use Rattle.cip_application.specs.Objects.{position_of, objects_write}
use Rattle.cip_application.specs.Values.{from_offset}
use Rattle.cip_application.proofs.Writes.{write_nowhere, objects_written, objects_reported}
use Rattle.cip_application.proofs.application.ApplicationObjects.write.Goals as goal

pub returns-in_default-clause-written : goal.returns-in_default-clause-written
unfolding objects_write
returns-in_default-clause-written c =
    let m = c.args.self.now in
    sym (ap (λ o. unwrap_or o m) (write_nowhere m c.args.class c.args.instance c.args.attribute (from_offset c.args.offset c.args.bytes.now) (sym c.in_default.ensures.position)))

pub returns-in_default-clause-reported : goal.returns-in_default-clause-reported
unfolding objects_write
returns-in_default-clause-reported c =
    sym (ap is_some (write_nowhere c.args.self.now c.args.class c.args.instance c.args.attribute (from_offset c.args.offset c.args.bytes.now) (sym c.in_default.ensures.position)))

pub returns-clause-written : goal.returns-clause-written
unfolding objects_write
returns-clause-written c =
    let objects = boxed_slice_items c.self.inside.objects in
    let k = c.in-Some.position in
    let there : position_of c.args.class c.args.instance objects ≡ Some k =
    ap (position_of c.args.class c.args.instance) c.self.view_is ∙ sym c.in-Some.ensures.position in
    let within : k < length objects = rw c.self.view_is c.in-Some.ensures.within in
    objects_written objects c.args.class c.args.instance k c.args.attribute (from_offset c.args.offset c.args.bytes.now) c.index_mut.result.now c.write.new.self
    there within c.index_mut.ensures.value c.write.ensures.written
    ∙ ap (λ m. unwrap_or (objects_write m c.args.class c.args.instance c.args.attribute c.args.offset c.args.bytes.now) m) c.self.view_is

pub returns-clause-reported : goal.returns-clause-reported
unfolding objects_write
returns-clause-reported c =
    let objects = boxed_slice_items c.self.inside.objects in
    let k = c.in-Some.position in
    let there : position_of c.args.class c.args.instance objects ≡ Some k =
    ap (position_of c.args.class c.args.instance) c.self.view_is ∙ sym c.in-Some.ensures.position in
    let within : k < length objects = rw c.self.view_is c.in-Some.ensures.within in
    c.write.ensures.reported
    ∙ objects_reported objects c.args.class c.args.instance k c.args.attribute (from_offset c.args.offset c.args.bytes.now) c.index_mut.result.now
    there within c.index_mut.ensures.value
    ∙ ap (λ m. is_some (objects_write m c.args.class c.args.instance c.args.attribute c.args.offset c.args.bytes.now)) c.self.view_is
