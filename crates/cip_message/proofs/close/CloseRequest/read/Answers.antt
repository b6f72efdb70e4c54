use Rattle.std.proofs.Common.{arith}
use Rattle.cip_message.proofs.Closes.{reads_close, reads_short, reads_long}
use Rattle.cip_message.proofs.close.CloseRequest.read.Goals as goal

pub returns-clause-close_request : goal.returns-clause-close_request
returns-clause-close_request c = reads_close c.args.bytes.now c.close_at.result (λ i. omega (arith, c.type_inv.bytes i)) c.close_at.ensures

pub returns-clause-short : goal.returns-clause-short
returns-clause-short c = reads_short c.args.bytes.now c.close_at.result c.close_at.ensures

pub returns-clause-long : goal.returns-clause-long
returns-clause-long c = reads_long c.args.bytes.now c.close_at.result c.close_at.ensures
