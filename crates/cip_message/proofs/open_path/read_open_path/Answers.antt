use Rattle.std.proofs.Common.{arith}
use Rattle.cip_message.proofs.OpenPaths.{open_path_iff}
use Rattle.cip_message.proofs.open_path.read_open_path.Goals as goal

pub returns-clause-open_path : goal.returns-clause-open_path
returns-clause-open_path c = open_path_iff c.args.bytes.now c.open_path_at.result (λ i. omega (arith, c.type_inv.bytes i)) c.open_path_at.ensures
