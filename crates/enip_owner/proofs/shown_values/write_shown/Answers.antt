use Rattle.std.proofs.Common.{map}
use Rattle.cip_values.specs.Values.{value_in}
use Rattle.enip_owner.proofs.ShownLemmas.{values_shown}
use Rattle.enip_owner.proofs.shown_values.write_shown.Goals as goal

pub returns-in-Ok : goal.returns-in-Ok
returns-in-Ok c =
    rw c.in-Some.is
    (values_shown c.write_list.result c.args.writer.now c.write_list.new.writer c.in-Some.value_type c.args.bytes.now
    (map value_in c.in-Ok.values.items) c.in-Ok.ensures.read (rw c.as_slice.ensures.value at c.write_list.ensures))
