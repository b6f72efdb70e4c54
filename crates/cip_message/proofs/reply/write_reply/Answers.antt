use Rattle.std.proofs.Common.{rules}
use Rattle.cip_message.proofs.Replies.{read_back}
use Rattle.cip_message.proofs.reply.write_reply.Goals as goal

pub returns-then-capacity-before-clause-again : goal.returns-then-capacity-before-clause-again
returns-then-capacity-before-clause-again g c = read_back _ (search rules)

pub returns-clause-again : goal.returns-clause-again
returns-clause-again g c = read_back _ (search rules)
