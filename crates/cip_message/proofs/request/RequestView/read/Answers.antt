use Rattle.std.proofs.Common.{arith}
use Rattle.cip_message.proofs.Requests.{reads_request, reads_short, reads_path_size}
use Rattle.cip_message.proofs.request.RequestView.read.Goals as goal

pub returns-clause-request : goal.returns-clause-request
returns-clause-request c = reads_request c.args.bytes.now c.request_at.result (λ i. omega (arith, c.type_inv.bytes i)) c.request_at.ensures

pub returns-clause-short : goal.returns-clause-short
returns-clause-short c = reads_short c.args.bytes.now c.request_at.result c.request_at.ensures

pub returns-clause-path_size : goal.returns-clause-path_size
returns-clause-path_size c = reads_path_size c.args.bytes.now c.request_at.result c.request_at.ensures
