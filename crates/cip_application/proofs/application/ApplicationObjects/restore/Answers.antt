use Rattle.std.proofs.Common.{◌≡◌, ◌<◌, length, Some, unwrap_or, is_some, ap, ◌∙◌, sym}
use Rattle.std.specs.Box.{boxed_slice_items}
use Rattle.cip_application.specs.Objects.{position_of, objects_restore}
use Rattle.cip_application.specs.Values.{as_whole}
use Rattle.cip_application.proofs.Writes.{write_nowhere, objects_written, objects_reported}
use Rattle.cip_application.proofs.application.ApplicationObjects.restore.Goals as goal

pub returns-in_default-clause-restored : goal.returns-in_default-clause-restored
unfolding objects_restore
returns-in_default-clause-restored c =
    let m = c.args.self.now in
    sym (ap (λ o. unwrap_or o m) (write_nowhere m c.args.class c.args.instance c.args.attribute (as_whole c.args.bytes.now) (sym c.in_default.ensures.position)))

pub returns-in_default-clause-reported : goal.returns-in_default-clause-reported
unfolding objects_restore
returns-in_default-clause-reported c =
    sym (ap is_some (write_nowhere c.args.self.now c.args.class c.args.instance c.args.attribute (as_whole c.args.bytes.now) (sym c.in_default.ensures.position)))

pub returns-clause-restored : goal.returns-clause-restored
unfolding objects_restore
returns-clause-restored c =
    let objects = boxed_slice_items c.self.inside.objects in
    let k = c.in-Some.position in
    let there : position_of c.args.class c.args.instance objects ≡ Some k =
    ap (position_of c.args.class c.args.instance) c.self.view_is ∙ sym c.in-Some.ensures.position in
    let within : k < length objects = rw c.self.view_is c.in-Some.ensures.within in
    objects_written objects c.args.class c.args.instance k c.args.attribute (as_whole c.args.bytes.now) c.index_mut.result.now c.restore.new.self
    there within c.index_mut.ensures.value c.restore.ensures.restored
    ∙ ap (λ m. unwrap_or (objects_restore m c.args.class c.args.instance c.args.attribute c.args.bytes.now) m) c.self.view_is

pub returns-clause-reported : goal.returns-clause-reported
unfolding objects_restore
returns-clause-reported c =
    let objects = boxed_slice_items c.self.inside.objects in
    let k = c.in-Some.position in
    let there : position_of c.args.class c.args.instance objects ≡ Some k =
    ap (position_of c.args.class c.args.instance) c.self.view_is ∙ sym c.in-Some.ensures.position in
    let within : k < length objects = rw c.self.view_is c.in-Some.ensures.within in
    c.restore.ensures.reported
    ∙ objects_reported objects c.args.class c.args.instance k c.args.attribute (as_whole c.args.bytes.now) c.index_mut.result.now
    there within c.index_mut.ensures.value
    ∙ ap (λ m. is_some (objects_restore m c.args.class c.args.instance c.args.attribute c.args.bytes.now)) c.self.view_is
