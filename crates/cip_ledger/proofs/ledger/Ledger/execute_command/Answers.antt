use Rattle.std.proofs.Common.{ap, sym, ◌∙◌, length}
use Rattle.cip_ledger.specs.Turn.{after_embedded, embedded_reply}
use Rattle.cip_ledger.specs.Views.{command_in}
use Rattle.cip_ledger.proofs.Turns.{executed_turn}
use Rattle.cip_ledger.proofs.ledger.Ledger.execute_command.Goals as goal

pub returns-clause-rule : goal.returns-clause-rule
returns-clause-rule g c =
    let after = g.R.Router.after in
    let answer = g.R.Router.answer in
    let router = c.args.router.now in
    executed_turn after answer g.R.Target.standing c.args.self.now router (command_in c.args.command) c.execute_embedded.new.router
    c.self.inside.life c.self.inside.slots.limit c.keep-index.new.self.limit c.self.inside.slots.taken c.keep-index.new.self.taken
    c.execute_embedded.new.reply.items c.as_slice.result.now c.reply.result.now c.write_done.new.reply.items
    c.self.view_is c.keep-index.ensures.limit c.keep-index.ensures.taken c.as_slice.ensures.value
    (c.execute_embedded.ensures.reply ∙ ap (λ text. embedded_reply after answer router text) c.requires.own)
    (c.execute_embedded.ensures.router ∙ ap (λ text. after_embedded after answer router text) c.requires.own)
    (c.reply.ensures.reply c.as_slice.result.now c.keep-index.ensures.index) c.write_done.ensures.reply

pub write_done-requires-clause-size : goal.write_done-requires-clause-size
write_done-requires-clause-size g c =
    ap length (sym (c.reply.ensures.reply c.as_slice.result.now c.keep-index.ensures.index ∙ c.as_slice.ensures.value))
