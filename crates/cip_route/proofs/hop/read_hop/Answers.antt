use Rattle.std.proofs.Common.{arith}
use Rattle.cip_route.proofs.HopsTaken.{reads_hop, leaves_less}
use Rattle.cip_route.proofs.hop.read_hop.Goals as goal

pub returns-clause-hop : goal.returns-clause-hop
returns-clause-hop c = reads_hop c.args.bytes.now c.hop_at.result (λ i. omega (arith, c.type_inv.bytes i)) c.hop_at.ensures

pub returns-clause-shorter : goal.returns-clause-shorter
returns-clause-shorter c = leaves_less c.args.bytes.now c.hop_at.result (λ i. omega (arith, c.type_inv.bytes i)) c.hop_at.ensures
