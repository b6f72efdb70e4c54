use Rattle.std.proofs.Common.{ap, ◌∙◌}
use Rattle.cip_ledger.specs.Turn.{after_embedded}
use Rattle.cip_ledger.specs.Views.{command_in}
use Rattle.cip_ledger.proofs.Turns.{queued_turn}
use Rattle.cip_ledger.proofs.ledger.Ledger.queue_command.Goals as goal

pub returns-clause-rule : goal.returns-clause-rule
returns-clause-rule g c =
    let after = g.R.Router.after in
    let answer = g.R.Router.answer in
    let router = c.args.router.now in
    queued_turn after answer g.R.Target.standing c.args.self.now router (command_in c.args.command) c.args.ticket
    c.execute_embedded.new.router c.self.inside.life c.self.inside.slots.limit c.await_reply.new.self.limit
    c.self.inside.slots.taken c.await_reply.new.self.taken c.answer.new.reply.items
    c.self.view_is c.await_reply.ensures.limit c.await_reply.ensures.taken
    (c.execute_embedded.ensures.router ∙ ap (λ text. after_embedded after answer router text) c.requires.own)
    c.answer.ensures.reply
