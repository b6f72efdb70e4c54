use Rattle.std.proofs.Common.{rules}
use Rattle.enip_c.specs.ClientCalls.{open_outcome}
use Rattle.enip_c.proofs.ClientLemmas.{done_kept}
use Rattle.enip_c.proofs.client.enip_core_client_open.Goals as goal

pub returns-clause-done : goal.returns-clause-done
returns-clause-done c = λ buffer.
    done_kept
    open_outcome
    c.args.kept.now.value
    c.of.result.value
    c.deref_mut.result.now
    c.open_connection-status.new.client
    c.open_connection-status.result
    c.args.count.now
    c.open_connection-status.new.count
    c.args.buffer.now
    c.open_connection-status.new.buffer
    (search rules)
    (search rules)
    c.open_connection-status.ensures
