use Rattle.std.proofs.Common.{ap, ◌∙◌}
use Rattle.std.specs.Box.{boxed_slice_items}
use Rattle.byteorder.specs.Endian.{little_bytes}
use Rattle.cip_objects.specs.Contents.{with_value}
use Rattle.cip_objects.specs.Counter.{counter_values}
use Rattle.cip_bytes.specs.declared.protocol.TheConstants.{COUNTER}
use Rattle.cip_objects.proofs.Writes.{limit_written}
use Rattle.cip_objects.proofs.Numbers.{enabled}
use Rattle.cip_objects.proofs.objects.Objects.restore_limit.Goals as goal

pub returns : goal.returns
returns c =
    let o = c.self.inside in
    let blocks = boxed_slice_items o.assemblies in
    limit_written o.identity blocks (counter_values o.counter) o.application c.args.limit
    (enabled o.identity blocks (counter_values o.counter) o.application c.args.self.now c.self.view_is c.requires)
    ∙ ap (λ m. with_value m COUNTER 1 2 (little_bytes 4 c.args.limit)) c.self.view_is
