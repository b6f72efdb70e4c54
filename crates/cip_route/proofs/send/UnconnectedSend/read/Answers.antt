use Rattle.std.proofs.Common.{arith}
use Rattle.cip_route.proofs.Sends.{reads_send, reads_short, reads_long}
use Rattle.cip_route.proofs.send.UnconnectedSend.read.Goals as goal

pub returns-clause-unconnected_send : goal.returns-clause-unconnected_send
returns-clause-unconnected_send c = reads_send c.args.bytes.now c.send_at.result (λ i. omega (arith, c.type_inv.bytes i)) c.send_at.ensures

pub returns-clause-short : goal.returns-clause-short
returns-clause-short c = reads_short c.args.bytes.now c.send_at.result c.send_at.ensures

pub returns-clause-long : goal.returns-clause-long
returns-clause-long c = reads_long c.args.bytes.now c.send_at.result c.send_at.ensures
