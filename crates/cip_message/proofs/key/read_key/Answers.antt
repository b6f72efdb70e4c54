use Rattle.std.proofs.Common.{arith}
use Rattle.cip_message.proofs.Keys.{key_iff}
use Rattle.cip_message.proofs.key.read_key.Goals as goal

pub returns-clause-key : goal.returns-clause-key
returns-clause-key c = key_iff c.args.bytes.now c.key_at.result (λ i. omega (arith, c.type_inv.bytes i)) c.key_at.ensures
