use Rattle.std.proofs.Common.{ap, ◌∙◌}
use Rattle.std.specs.Box.{boxed_slice_items}
use Rattle.cip_objects.specs.Counter.{counter_values}
use Rattle.cip_objects.specs.DeviceWrites.{with_device_status}
use Rattle.cip_objects.specs.Entries.{contents_of}
use Rattle.cip_objects.proofs.IdentityWrites.{status_written}
use Rattle.cip_objects.proofs.objects.Objects.set_device_status.Goals as goal

pub returns : goal.returns
returns c =
    let o = c.self.inside in
    let blocks = boxed_slice_items o.assemblies in
    ap (λ d. contents_of d blocks (counter_values o.counter) o.application) c.set_status.ensures
    ∙ status_written o.identity blocks (counter_values o.counter) o.application c.args.status
    ∙ ap (λ m. with_device_status m c.args.status) c.self.view_is
