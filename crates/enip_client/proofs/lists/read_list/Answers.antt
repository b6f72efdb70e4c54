use Rattle.std.proofs.Common.{arith}
use Rattle.cip_bytes.specs.Reading.{map_ok}
use Rattle.enip_client.specs.Lists.{entries_left}
use Rattle.enip_client.proofs.ListsLemmas.{reads_list}
use Rattle.enip_client.proofs.lists.read_list.Goals as goal

pub returns-clause-spelled : goal.returns-clause-spelled
returns-clause-spelled c entries =
    reads_list c.args.command c.args.bytes.now (map_ok entries_left c.list_in.result) (λ i. omega (arith, c.type_inv.bytes i)) c.list_in.ensures entries
