use Rattle.std.proofs.Common.{arith}
use Rattle.cip_message.specs.Open.{large_view, large, large_open_of}
use Rattle.cip_message.proofs.Opens.{reads_open, reads_short, reads_long}
use Rattle.cip_message.proofs.open.OpenRequest+LargeParameters.read_large.Goals as goal

pub returns-clause-open_request : goal.returns-clause-open_request
returns-clause-open_request c = reads_open large_view large c.args.bytes.now c.open_at.result (λ i. omega (arith, c.type_inv.bytes i)) c.open_at.ensures

pub returns-clause-short : goal.returns-clause-short
returns-clause-short c = reads_short large_view large c.args.bytes.now c.open_at.result c.open_at.ensures

pub returns-clause-long : goal.returns-clause-long
returns-clause-long c = reads_long large_view large c.args.bytes.now c.open_at.result c.open_at.ensures

pub returns-clause-exact : goal.returns-clause-exact
unfolding large_open_of
returns-clause-exact c = c.open_at.ensures
