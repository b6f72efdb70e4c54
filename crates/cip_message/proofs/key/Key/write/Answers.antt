use Rattle.std.proofs.Common.{rules}
use Rattle.cip_message.proofs.Keys.{key_again}
use Rattle.cip_message.proofs.key.Key.write.Goals as goal

pub returns-clause-again : goal.returns-clause-again
returns-clause-again g c = key_again c.args.self.now (search rules)
