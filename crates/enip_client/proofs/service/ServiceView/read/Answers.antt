use Rattle.std.proofs.Common.{arith}
use Rattle.enip_client.proofs.ServiceLemmas.{reads_service}
use Rattle.enip_client.proofs.service.ServiceView.read.Goals as goal

pub returns-clause-spelled : goal.returns-clause-spelled
returns-clause-spelled c =
    reads_service c.args.bytes.now c.service_at.result (λ i. omega (arith, c.type_inv.bytes i)) c.service_at.ensures
