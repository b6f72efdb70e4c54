use Rattle.std.proofs.Common.{arith}
use Rattle.cip_message.proofs.PathFaults.{path_iff, fault_iff}
use Rattle.cip_message.proofs.path.read_path.Goals as goal

pub returns-clause-path : goal.returns-clause-path
returns-clause-path c = path_iff c.args.bytes.now c.path_at.result (λ i. omega (arith, c.type_inv.bytes i)) c.path_at.ensures

pub returns-clause-refused : goal.returns-clause-refused
returns-clause-refused c = fault_iff c.args.bytes.now c.path_at.result (λ i. omega (arith, c.type_inv.bytes i)) c.path_at.ensures
