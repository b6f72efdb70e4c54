use Rattle.std.proofs.Common.{arith}
use Rattle.cip_message.proofs.Replies.{reads_reply, reads_short, reads_not_reply, reads_extra}
use Rattle.cip_message.proofs.reply.ReplyView.read.Goals as goal

pub returns-clause-reply : goal.returns-clause-reply
returns-clause-reply c = reads_reply c.args.bytes.now c.reply_at.result (λ i. omega (arith, c.type_inv.bytes i)) c.reply_at.ensures.exact

pub returns-clause-short : goal.returns-clause-short
returns-clause-short c = reads_short c.args.bytes.now c.reply_at.result c.reply_at.ensures.exact

pub returns-clause-not_reply : goal.returns-clause-not_reply
returns-clause-not_reply c = reads_not_reply c.args.bytes.now c.reply_at.result c.reply_at.ensures.exact

pub returns-clause-extra : goal.returns-clause-extra
returns-clause-extra c = reads_extra c.args.bytes.now c.reply_at.result c.reply_at.ensures.exact
