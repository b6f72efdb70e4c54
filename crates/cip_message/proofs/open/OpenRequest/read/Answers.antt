use Rattle.std.proofs.Common.{arith}
use Rattle.cip_message.specs.Open.{view, small, open_of}
use Rattle.cip_message.proofs.Opens.{reads_open, reads_short, reads_long}
use Rattle.cip_message.proofs.open.OpenRequest.read.Goals as goal

pub returns-clause-open_request : goal.returns-clause-open_request
returns-clause-open_request c = reads_open view small c.args.bytes.now c.open_at.result (λ i. omega (arith, c.type_inv.bytes i)) c.open_at.ensures

pub returns-clause-short : goal.returns-clause-short
returns-clause-short c = reads_short view small c.args.bytes.now c.open_at.result c.open_at.ensures

pub returns-clause-long : goal.returns-clause-long
returns-clause-long c = reads_long view small c.args.bytes.now c.open_at.result c.open_at.ensures

pub returns-clause-exact : goal.returns-clause-exact
unfolding open_of
returns-clause-exact c = c.open_at.ensures
