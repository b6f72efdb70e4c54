use Rattle.std.proofs.Common.{arith}
use Rattle.enip_client.proofs.IdentityLemmas.{reads_identity}
use Rattle.enip_client.proofs.identity.IdentityView.read.Goals as goal

pub returns-clause-spelled : goal.returns-clause-spelled
returns-clause-spelled c =
    reads_identity c.args.bytes.now c.identity_at.result (λ i. omega (arith, c.type_inv.bytes i)) c.identity_at.ensures
